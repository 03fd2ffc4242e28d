use Rattle.std.proofs.Common.{◌≡◌, ◌-◌, ◌≤◌, false}
use Rattle.watched_streams.specs.Watch.{inner_of, has_failed}
use Rattle.board_listing.specs.Inside.Progress.{HasListed}
use Rattle.board_listing.proofs.stream.list_stream.Given as goal

abbrev pub invariant-chunks : goal.invariant-chunks
invariant-chunks g l = record {
  within : l.total ≤ 67108864;
  reading : has_failed l.reader ≡ false;
  working : has_failed l.out ≡ false;
  done : HasListed l.decoder l.printer l.fn.listing l.total (g.R.Read.remaining (inner_of l.fn.reader)) (g.R.Read.remaining (inner_of l.reader)) (g.O.Write.contents (inner_of l.fn.out)) (g.O.Write.contents (inner_of l.out));
}

abbrev pub decreases-chunks : goal.decreases-chunks
decreases-chunks g l = 67108865 - l.total
