use Rattle.chess_rules.proofs.position.Position.board.Goals as goal

pub returns : goal.returns
returns c = cc
