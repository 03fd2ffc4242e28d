use Rattle.std.proofs.Common.{◌∙◌, sym}
use Rattle.board_captures.proofs.ReadLemmas.{is_last, is_none}
use Rattle.board_captures.proofs.reading.Captured.picture.Goals as goal

pub returns-then-self-clause-shown : goal.returns-then-self-clause-shown
returns-then-self-clause-shown c = λ setting past stands.
    is_last setting.first setting.rotated past c.picture.result.now (sym stands.shown ∙ c.if-self.true) (c.picture.ensures.last setting.rotated past stands.view)

pub returns-else-self-clause-shown : goal.returns-else-self-clause-shown
returns-else-self-clause-shown c = λ setting past stands. is_none _ (sym stands.shown ∙ c.if-self.false)
