use Rattle.std.proofs.Common.{◌≢◌, ◌<◌, ℕ}
use Rattle.chess_rules.specs.declared.pieces.Kind.TheVariants.{King}
use Rattle.chess_rules.specs.Board.{on, piece_of}
use Rattle.chess_rules.specs.Inside.Walk.{square_from_home}
use Rattle.chess_rules.proofs.rules.is_king_attacked.Given as goal

abbrev pub invariant-loop-i : goal.invariant-loop-i
invariant-loop-i l = (k : ℕ) → k < l.i → on l.board (square_from_home l.side k) ≢ piece_of l.side King
