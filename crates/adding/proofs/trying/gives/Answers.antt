use Rattle.std.proofs.Common.{◌≡◌, ◌∙◌, ◌++◌, false}
use Rattle.board_captures.specs.Reading.{setting_of}
use Rattle.adding.proofs.TrialLemmas.{has_other}
use Rattle.adding.proofs.trying.gives.Goals as goal

pub returns-in-Ok-read_capture-clause-other : goal.returns-in-Ok-read_capture-clause-other
returns-in-Ok-read_capture-clause-other c = λ is.
    let no_game : c.is_game.result ≡ false = cc in
    has_other (setting_of c.args.method.now) c.args.method.now.recovers c.as_slice.result.now (c.args.capture.now ++ (c.args.added.now ++ c.args.again.now)) c.in-Ok-read_capture.captured
    c.args.plies.now c.args.sign (c.as_slice.ensures.value ∙ c.in-Ok.ensures) c.in-Ok-read_capture.ensures.read
    (λ past stands. c.is_game.ensures.other (setting_of c.args.method.now) past stands no_game)
