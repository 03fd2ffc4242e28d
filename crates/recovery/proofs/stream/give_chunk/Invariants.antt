use Rattle.std.proofs.Common.{◌≡◌, ◌+◌, ◌-◌, ◌≤◌, length, take, drop, false}
use Rattle.watched_streams.specs.Watch.{IsFlushed, inner_of, has_failed}
use Rattle.recovery.specs.Inside.Progress.{PassesOn, HasBegun}
use Rattle.recovery.proofs.stream.give_chunk.Given as goal

abbrev pub invariant-events : goal.invariant-events
invariant-events g l = record {
  inside : l.taken ≤ length l.chunk;
  behind : l.sent ≤ l.taken;
  working : has_failed l.out ≡ false;
  telling : has_failed l.err ≡ false;
  told : IsFlushed l.fn.err → IsFlushed l.err;
  begun : HasBegun l.decoder l.keeper (l.start + l.taken);
  given : PassesOn l.fn.decoder l.fn.keeper l.start (take l.taken l.chunk) l.decoder l.keeper (take (l.taken - l.sent) (drop l.sent l.chunk))
      (g.O.Write.contents (inner_of l.fn.out)) (g.O.Write.contents (inner_of l.out)) (g.E.Write.contents (inner_of l.fn.err)) (g.E.Write.contents (inner_of l.err));
}

abbrev pub decreases-events : goal.decreases-events
decreases-events g l = length l.chunk - l.taken
