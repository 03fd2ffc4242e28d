use Rattle.board_endings.proofs.judging.Judging.due.Goals as goal

pub returns : goal.returns
returns c = λ past h time bytes low. c.due.ensures past h.ending time bytes low
