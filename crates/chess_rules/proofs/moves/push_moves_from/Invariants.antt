use Rattle.chess_rules.specs.Inside.Places.{first_place, ListsBelow}
use Rattle.chess_rules.proofs.moves.push_moves_from.Given as goal

abbrev pub invariant-loop-to : goal.invariant-loop-to
invariant-loop-to l = ListsBelow l.parts l.moves.items (first_place l.from l.to)
