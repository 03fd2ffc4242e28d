use Rattle.chess_rules.proofs.Seeing.{Walked}
use Rattle.chess_rules.proofs.walk.first_piece.Given as goal

abbrev pub invariant-loop-steps : goal.invariant-loop-steps
invariant-loop-steps l = Walked l.board l.direction l.square l.at l.steps
