use Rattle.std.proofs.Common.{Some, refl}
use Rattle.adding.specs.Lines.{answer_line}
use Rattle.board_captures.specs.Reading.{IsTooLong, setting_of}
use Rattle.dgt_replay.specs.Add.{AnswersLine, added_of}
use Rattle.dgt_replay.proofs.EditLemmas.{puts_memory, puts_of}
use Rattle.dgt_replay.proofs.edit.add_to.Goals as goal

pub returns-in-Err-Memory-clause-puts : goal.returns-in-Err-Memory-clause-puts
returns-in-Err-Memory-clause-puts g c = puts_memory (AnswersLine (setting_of c.args.method.now) c.args.method.now.recovers c.args.typed.now) (IsTooLong (setting_of c.args.method.now) c.args.method.now.recovers) (Some c.args.capture.now) _ _ _ _ _ _ _
    c.refused_run-in-Err-Memory.ensures.kept c.refused_run-in-Err-Memory.ensures.ended

pub returns-in-Ok-clause-puts : goal.returns-in-Ok-clause-puts
returns-in-Ok-clause-puts g c =
    let answer = c.in-Ok.answer in
    puts_of (AnswersLine (setting_of c.args.method.now) c.args.method.now.recovers c.args.typed.now) (IsTooLong (setting_of c.args.method.now) c.args.method.now.recovers) c.args.capture.now
    (added_of answer) (answer_line answer) _ _ _ _ _ _ _ (answer, c.in-Ok.ensures.answers, refl, refl) c.put_added.ensures.puts
