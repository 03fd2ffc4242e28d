use Rattle.std.proofs.Common.{◌∙◌, ap}
use Rattle.board_captures.specs.Reading.{setting_of}
use Rattle.settle_core.specs.Settler.{SettlerState, plies_of}
use Rattle.going_back.proofs.ChangeLemmas.{change_tellable}
use Rattle.going_back.proofs.telling.tell_instead.Goals as goal

pub change_line-requires-clause-tellable : goal.change_line-requires-clause-tellable
change_line-requires-clause-tellable c =
    let (past, read, stands) = c.in-Ok.ensures.read in
    let game : SettlerState = c.in-Ok.captured.session.settler in
    let same = c.settler-settler.ensures.same in
    change_tellable (setting_of c.args.method.now) c.args.method.now.recovers past game c.args.text.now c.in-Ok-change_of.change c.start.result.now c.moves.result.now stands.session.settler
    (c.in-Ok-change_of.ensures past stands) (c.start.ensures ∙ ap (λ (s : SettlerState). s.start) same) (c.moves.ensures.plies ∙ ap plies_of same)
