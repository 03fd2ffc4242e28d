use Rattle.chess_rules.proofs.square.Square.number.Goals as goal

pub returns-clause-number : goal.returns-clause-number
returns-clause-number c = cc
