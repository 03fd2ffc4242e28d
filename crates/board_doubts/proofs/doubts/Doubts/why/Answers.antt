use Rattle.std.proofs.Common.{sym, ap, ◌∙◌}
use Rattle.board_doubts.specs.declared.heard.Heard.{Heard}
use Rattle.board_doubts.specs.Doubts.{why_by}
use Rattle.board_doubts.proofs.doubts.Doubts.why.Goals as goal

pub returns-in-Agrees : goal.returns-in-Agrees
returns-in-Agrees c = λ past h.
    c.why_agreement.ensures c.args.event.at past h ∙ ap (λ (what : Heard). why_by what c.args.event.at past) (sym c.in-Agrees.is)
