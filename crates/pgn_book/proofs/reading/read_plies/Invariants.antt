use Rattle.std.proofs.Common.{◌≡◌, ◌++◌, List, length}
use Rattle.settle_core.specs.declared.plies.Ply.{Ply}
use Rattle.settle_core.specs.Settling.{Line}
use Rattle.settle_core.specs.Folding.{moves_of}
use Rattle.pgn_book.specs.Inside.Parse.{words, words_behind, turns_at, AreTurns}
use Rattle.pgn_book.proofs.reading.read_plies.Given as goal

abbrev pub invariant-loop-rest : goal.invariant-loop-rest
invariant-loop-rest l = record {
  line : (more : List Ply) → Line l.position (moves_of more) → Line l.start (moves_of (l.plies.items ++ more));
  only : (plies : List Ply) → AreTurns l.start plies (turns_at (words l.bytes))
      → (more : List Ply) × (plies ≡ l.plies.items ++ more) × AreTurns l.position more (turns_at (words_behind l.rest));
}

abbrev pub decreases-loop-rest : goal.decreases-loop-rest
decreases-loop-rest l = length (words_behind l.rest)
