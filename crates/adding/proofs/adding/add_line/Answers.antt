use Rattle.std.proofs.Common.{◌∙◌, ap}
use Rattle.board_captures.specs.Reading.{setting_of}
use Rattle.adding.proofs.TrialLemmas.{is_answered, place}
use Rattle.adding.proofs.adding.add_line.Goals as goal

pub returns-in-Ok-answered-clause-answers : goal.returns-in-Ok-answered-clause-answers
returns-in-Ok-answered-clause-answers c =
    let at = c.position-p.ensures.in_order ∙ ap place c.settler.ensures.same in
    is_answered (setting_of c.args.method.now) c.args.method.now.recovers c.args.capture.now c.args.text.now c.in-Ok.captured c.position-p.result.now c.in-Ok-read_line.said c.in-Ok-answered.answer
    at c.in-Ok.ensures.read c.in-Ok-read_line.ensures c.in-Ok-answered.ensures
