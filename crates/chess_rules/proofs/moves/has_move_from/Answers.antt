use Rattle.chess_rules.proofs.Passing.{none_from}
use Rattle.chess_rules.proofs.moves.has_move_from.Goals as goal

pub returns-in_default-clause-none : goal.returns-in_default-clause-none
returns-in_default-clause-none c = λ _. none_from c.args.parts.now c.args.from c.requires c.in_default.ensures.none
