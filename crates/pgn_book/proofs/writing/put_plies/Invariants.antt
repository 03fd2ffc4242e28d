use Rattle.std.proofs.Common.{List, ℕ, drop}
use Rattle.watched_streams.specs.Watch.{inner_of, has_failed}
use Rattle.settle_core.specs.Settling.{Line}
use Rattle.settle_core.specs.Folding.{moves_of}
use Rattle.pgn_book.specs.Inside.Flow.{Writes}
use Rattle.pgn_book.proofs.Moves.{Continues}
use Rattle.pgn_book.proofs.writing.put_plies.Given as goal

abbrev pub invariant-loop-ply : goal.invariant-loop-ply
invariant-loop-ply g l = record {
  line : Line l.position (moves_of (drop l.ply-index l.plies));
  done : List (List ℕ);
  continues : Continues l.start l.plies l.position (drop l.ply-index l.plies) l.wanted done;
  writes : Writes (g.W.Write.contents (inner_of l.initial.out)) (g.W.Write.contents (inner_of l.out)) (has_failed l.initial.out) (has_failed l.out) l.fn.at l.at done;
}
