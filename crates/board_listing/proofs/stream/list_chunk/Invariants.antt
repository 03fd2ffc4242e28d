use Rattle.std.proofs.Common.{◌≡◌, ◌+◌, ◌-◌, ◌≤◌, length, take, false}
use Rattle.watched_streams.specs.Watch.{inner_of, has_failed}
use Rattle.arrayvec.specs.ArrayVec.{array_vec_len}
use Rattle.board_listing.specs.Inside.Printers.{HasBegun}
use Rattle.board_listing.specs.Inside.Progress.{HasTaken, ListsChunk}
use Rattle.board_listing.proofs.stream.list_chunk.Given as goal

abbrev pub invariant-events : goal.invariant-events
invariant-events g l = record {
  inside : l.taken ≤ length l.chunk;
  working : has_failed l.out ≡ false;
  begun : HasBegun l.printer;
  room : array_vec_len l.lines + 768 ≤ 8192;
  taken : HasTaken l.decoder (l.start + l.taken);
  listing : ListsChunk l.fn.decoder l.fn.printer l.start (take l.taken l.chunk) l.decoder l.printer (g.O.Write.contents (inner_of l.fn.out)) (g.O.Write.contents (inner_of l.out)) l.lines.items;
}

abbrev pub decreases-events : goal.decreases-events
decreases-events g l = length l.chunk - l.taken
