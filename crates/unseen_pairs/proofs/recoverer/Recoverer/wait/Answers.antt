use Rattle.std.proofs.Common.{List, Option, IfNone, ap, subst, ◌∙◌}
use Rattle.chess_rules.specs.declared.parts.Parts.{Parts}
use Rattle.settle_core.specs.Settler.{position_of}
use Rattle.unseen_pairs.specs.declared.confirming.Candidate.{Candidate}
use Rattle.unseen_pairs.specs.declared.confirming.Confirmed.{Confirmed}
use Rattle.unseen_pairs.specs.Inside.Waiting.{AreShown, IsOnlyOne}
use Rattle.unseen_pairs.specs.Recoverer.{RecovererState}
use Rattle.unseen_pairs.proofs.recoverer.Recoverer.wait.Goals as goal

pub returns : goal.returns
returns c = λ start past written w.
    let seen = c.args.picture.now in
    let shown : AreShown c.args.self.now.candidates = λ (x : Candidate) k. let is = w.candidates.each x k in is.shown_is in
    let N : Option Confirmed → Type 0 = λ f. IfNone f ((one : Confirmed) → AreShown c.deref.result.now → ¬ IsOnlyOne c.position.result.now c.deref.result.now seen one) in
    let none : (one : Confirmed) → AreShown c.deref.result.now → ¬ IsOnlyOne c.position.result.now c.deref.result.now seen one = subst N c.in_default.is c.in_ok-found.ensures.none in
    let C : List Candidate → Type 0 = λ cs. (one : Confirmed) → AreShown cs → ¬ IsOnlyOne c.position.result.now cs seen one in
    let P : Parts → Type 0 = λ p. (one : Confirmed) → ¬ IsOnlyOne p c.args.self.now.candidates seen one in
    let never = subst C (c.deref.ensures.value ∙ ap (λ (d : RecovererState). d.candidates) c.self.view_is) none in
    c.in_ok-keep.ensures start past written w
    (subst P (c.position.ensures.reached ∙ ap (λ (d : RecovererState). position_of d.settler) c.self.view_is) (λ one. never one shown))
