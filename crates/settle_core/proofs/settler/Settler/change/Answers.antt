use Prim.{search}
use Rattle.std.proofs.Common.{◌≡◌, ℕ, Bool, true, false, List, Option, Some, set, length, rules, ap, ◌∙◌}
use Rattle.std.proofs.lemmas.Option.{none-some, same_Some}
use Rattle.settle_core.specs.Inside.Kept.{last_of, settler_state}
use Rattle.settle_core.specs.Settler.{SettlerState}
use Rattle.settle_core.proofs.settler.Settler.change.Goals as goal

last_changed :
    (seen : Bool) (old picture : List ℕ) (square code : ℕ) → last_of seen old ≡ Some picture → last_of seen (set old square code) ≡ Some (set picture square code)
last_changed true old picture square code e = ap (λ (xs : List ℕ). Some (set xs square code)) (same_Some _ _ e)
last_changed false old picture square code e = absurd (none-some _ e)

pub invariant_of-self : goal.invariant_of-self
invariant_of-self c =
    let fits : length c.self.inside.picture ≡ 64 = search rules in
    record {
      played = c.self.invariant.played;
      position = c.change.ensures.position ∙ c.self.invariant.position;
      before_is = c.change_all.ensures.positions ∙ c.self.invariant.before_is;
      here_compared = c.change.ensures.compared _ fits c.self.invariant.here_compared;
      before_compared = c.change_all.ensures.compared _ fits c.self.invariant.before_compared;
      shown_is = c.shown_after-self-inside.ensures _ fits c.self.invariant.shown_is;
    }

pub returns : goal.returns
returns c picture seen =
    let old : SettlerState = settler_state c.self.inside.start c.self.inside.plies.items c.self.inside.sign c.self.inside.seen c.self.inside.picture in
    let last = last_changed c.self.inside.seen c.self.inside.picture picture c.args.at c.args.code (ap (λ (s : SettlerState). s.last) c.self.view_is ∙ seen) in
    ap (λ (l : Option (List ℕ)). record { start = old.start; score = old.score; last = l }) last
    ∙ ap (λ (s : SettlerState). record { start = s.start; score = s.score; last = Some (set picture c.args.at c.args.code) }) c.self.view_is
