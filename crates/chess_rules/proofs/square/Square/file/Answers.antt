use Rattle.chess_rules.proofs.square.Square.file.Goals as goal

pub returns-clause-file : goal.returns-clause-file
returns-clause-file c = cc
