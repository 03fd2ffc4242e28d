use Rattle.std.proofs.Common.{Bool, Option, None, sym, ap, ◌∙◌}
use Rattle.std.specs.Prelude.{if◌then◌else◌}
use Rattle.board_doubts.specs.declared.heard.Doubt.{Doubt}
use Rattle.board_doubts.specs.declared.heard.Heard.TheVariants.{Agrees}
use Rattle.board_doubts.specs.declared.heard.Place.TheVariants.{AfterLast}
use Rattle.board_doubts.specs.declared.heard.Why.{Why}
use Rattle.board_doubts.specs.Doubts.{doubted, why_by}
use Rattle.board_doubts.proofs.doubts.Doubts.agree.Goals as goal

pub returns-clause-doubt : goal.returns-clause-doubt
returns-clause-doubt c = λ past h.
    let doubt : Option Doubt = doubted AfterLast (why_by Agrees c.args.at past) in
    c.doubted.ensures
    ∙ ap (λ (why : Option Why). doubted AfterLast why) (c.why_agreement-why.ensures c.args.at past h)
    ∙ sym (ap (λ (b : Bool). if b then None else doubt) c.if-is_added.false)
