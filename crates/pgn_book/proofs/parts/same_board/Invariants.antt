use Rattle.std.proofs.Common.{◌≡◌, ◌<◌, ℕ}
use Rattle.chess_rules.specs.Board.{on}
use Rattle.pgn_book.proofs.parts.same_board.Given as goal

abbrev pub invariant-loop-square : goal.invariant-loop-square
invariant-loop-square l = (k : ℕ) → k < l.square → on l.a k ≡ on l.b k
