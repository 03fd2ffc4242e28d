use Rattle.std.proofs.Common.{◌≡◌, ◌∙◌, Bool, Option, Some, List, ℕ, refl, sym, ap, subst}
use Rattle.game_over.specs.declared.happened.Event.{Event}
use Rattle.game_over.specs.declared.result.Given.{Given}
use Rattle.game_over.specs.declared.said.Over.{Over}
use Rattle.game_over.specs.declared.said.Said.{Said}
use Rattle.game_over.specs.declared.said.Said.TheVariants.{IsOver}
use Rattle.game_over.specs.declared.said.Why.{Why}
use Rattle.game_over.specs.declared.said.Why.TheVariants.{Stood, PlaysOn, Corrected, SetUp, Unfinished}
use Rattle.game_over.specs.Result.{last_given}
use Rattle.game_over.specs.Said.{IsSaidFor, ended_with, is_sure_by, with_result}
use Rattle.game_over.proofs.ending.Ending.say.Goals as goal

said_for : (why : Why) (said : Said) (event : Event) (past : List Event) → (why ≡ Unfinished → ⊥)
    → said ≡ IsOver (ended_with why event.what past) → IsSaidFor (Some why) said event past
said_for Stood said event past other is = is
said_for PlaysOn said event past other is = is
said_for Corrected said event past other is = is
said_for SetUp said event past other is = is
said_for Unfinished said event past other is = absurd (other refl)

pub returns-in_default-why-clause-said : goal.returns-in_default-why-clause-said
returns-in_default-why-clause-said c = λ past h.
    let why : Why = c.in-Some.why in
    let P : Option Why → Type 0 = λ w. IsSaidFor w (IsOver c.with_result-over.result) c.args.event past in
    let over : c.with_result-over.result ≡ ended_with why c.args.event.what past = c.with_result-over.ensures
    ∙ ap (λ (sure : Bool). with_result why sure c.args.self.now.given c.args.self.now.front) c.is_sure_by-is_sure.ensures
    ∙ ap (λ (g : Option Given). with_result why (is_sure_by why c.args.event.what g) g c.args.self.now.front) h.given_is
    ∙ ap (λ (f : ℕ). with_result why (is_sure_by why c.args.event.what (last_given past)) (last_given past) f) h.front_is in
    subst P (sym c.in-Some.is ∙ c.ended.ensures past h)
    (said_for why (IsOver c.with_result-over.result) c.args.event past c.in_default-why.not-Unfinished (ap (λ (o : Over). IsOver o) over))
