use Rattle.std.proofs.Common.{◌∙◌, ap}
use Rattle.board_captures.specs.Reading.{setting_of}
use Rattle.settle_core.specs.Settler.{SettlerState, plies_of}
use Rattle.going_back.proofs.TellLemmas.{tellable}
use Rattle.going_back.proofs.telling.tell_back.Goals as goal

pub told_of-requires-clause-tellable : goal.told_of-requires-clause-tellable
told_of-requires-clause-tellable c =
    let (past, read, stands) = c.in-Ok.ensures.read in
    let game : SettlerState = c.in-Ok.captured.session.settler in
    let same = c.settler-settler.ensures.same in
    tellable (setting_of c.args.method.now) c.args.method.now.recovers past game c.args.to.now c.answer_of-answer.result c.start.result.now c.moves.result.now stands.session.settler
    (c.answer_of-answer.ensures past stands) (c.start.ensures ∙ ap (λ (s : SettlerState). s.start) same) (c.moves.ensures.plies ∙ ap plies_of same)
