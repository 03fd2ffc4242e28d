use Rattle.std.proofs.Common.{Some}
use Rattle.board_captures.specs.Reading.{IsTooLong, setting_of}
use Rattle.dgt_replay.specs.Instead.{AnswersInstead}
use Rattle.dgt_replay.proofs.EditLemmas.{puts_memory}
use Rattle.dgt_replay.proofs.edit.replace_by.Goals as goal

pub returns-in-Err-Memory-clause-puts : goal.returns-in-Err-Memory-clause-puts
returns-in-Err-Memory-clause-puts g c = puts_memory (AnswersInstead (setting_of c.args.method.now) c.args.method.now.recovers c.args.typed.now) (IsTooLong (setting_of c.args.method.now) c.args.method.now.recovers) (Some c.args.capture.now) _ _ _ _ _ _ _
    c.refused_run-in-Err-Memory.ensures.kept c.refused_run-in-Err-Memory.ensures.ended
