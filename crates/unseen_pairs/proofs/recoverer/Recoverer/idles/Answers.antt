use Rattle.std.proofs.Common.{◌≡◌, [], sym, subst, ◌∙◌, arith}
use Rattle.std.proofs.lemmas.Bool.Decides.{nat_tests}
use Rattle.chess_rules.specs.Valid.{Valid}
use Rattle.unseen_pairs.specs.declared.pair.SeenOrRecovered.TheVariants.{Shown}
use Rattle.settle_core.specs.declared.plies.Seen.TheVariants.{Waits}
use Rattle.unseen_pairs.specs.Recoverer.{RecovererState}
use Rattle.unseen_pairs.specs.Inside.Telling.{HasTold, IsWaiting}
use Rattle.unseen_pairs.proofs.Telling.{idle_told, none_long}
use Rattle.unseen_pairs.proofs.recoverer.Recoverer.idles.Goals as goal

pub returns-then-is_empty : goal.returns-then-is_empty
returns-then-is_empty c = λ t start past written entry w.
    let recoverer : RecovererState = record { settler = c.self.inside.settler; candidates = c.self.inside.candidates.items } in
    let here : IsWaiting recoverer start past written entry = subst (λ (d : RecovererState). IsWaiting d start past written entry) (sym c.self.view_is) w in
    let valid : Valid start = subst Valid (c.start.ensures ∙ (here.settles).start_is) c.parts.ensures.valid in
    let n : c.self.inside.candidates.len ≡ 0 = grind (arith, nat_tests) in
    let empty : c.self.inside.candidates.items ≡ [] = none_long c.self.inside.candidates.items (sym (c.self.inside.candidates.ok).0 ∙ n) in
    subst (λ (d : RecovererState). HasTold d start past written entry (Shown Waits)) c.self.view_is
    (idle_told recoverer start past written entry valid here empty (c.hides_none.ensures t))
