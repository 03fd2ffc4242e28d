use Rattle.chess_rules.specs.Inside.Places.{first_place, HasNone}
use Rattle.chess_rules.proofs.moves.has_move_from.Given as goal

abbrev pub invariant-loop-to : goal.invariant-loop-to
invariant-loop-to l = HasNone l.parts (first_place l.from 0) (first_place l.from l.to)
