use Rattle.std.proofs.Common.{◌≡◌, ◌≤◌, ◌-◌, length, take, false}
use Rattle.std.specs.Io.KnownBytes.{Appends}
use Rattle.watched_streams.specs.Watch.{inner_of, has_failed}
use Rattle.watched_streams.proofs.putting.put.Given as goal

abbrev pub invariant-loop-at : goal.invariant-loop-at
invariant-loop-at g l = record {
  within : l.at ≤ length l.bytes;
  working : has_failed l.out ≡ false;
  written : Appends (g.W.Write.contents (inner_of l.fn.out)) (g.W.Write.contents (inner_of l.out)) (take l.at l.bytes);
}

abbrev pub decreases-loop-at : goal.decreases-loop-at
decreases-loop-at g l = length l.bytes - l.at
