use Rattle.chess_rules.specs.Inside.Places.{first_place, HasNone}
use Rattle.chess_rules.proofs.moves.has_move.Given as goal

abbrev pub invariant-loop-from : goal.invariant-loop-from
invariant-loop-from l = HasNone l.parts 0 (first_place l.from 0)
