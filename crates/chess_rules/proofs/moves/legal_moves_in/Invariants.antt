use Rattle.chess_rules.specs.Inside.Places.{first_place, ListsBelow}
use Rattle.chess_rules.proofs.moves.legal_moves_in.Given as goal

abbrev pub invariant-loop-from : goal.invariant-loop-from
invariant-loop-from l = ListsBelow l.parts l.moves.items (first_place l.from 0)
