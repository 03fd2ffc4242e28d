use Rattle.std.proofs.Common.{◌∙◌, sym}
use Rattle.board_captures.proofs.ReadLemmas.{is_last, is_none}
use Rattle.board_game.proofs.pictures.Pictures.seen.Goals as goal

pub returns-then-self : goal.returns-then-self
returns-then-self c = λ setting past seen.
    is_last setting.first setting.rotated past c.picture.result.now (sym seen.shown ∙ c.if-self.true) (c.picture.ensures.last setting.rotated past seen.view)

pub returns-else-self : goal.returns-else-self
returns-else-self c = λ setting past seen. is_none _ (sym seen.shown ∙ c.if-self.false)
