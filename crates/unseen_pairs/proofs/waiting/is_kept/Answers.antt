use Rattle.std.proofs.Common.{◌↔◌, IsTrue, Bool, true, false, not, List, ℕ, refl, sym, subst, arith}
use Rattle.std.proofs.lemmas.Bool.{false≢true}
use Rattle.chess_rules.specs.Picture.{picture}
use Rattle.unseen_pairs.specs.Pairs.{IsMissedIn}
use Rattle.unseen_pairs.proofs.waiting.is_kept.Goals as goal

not_back : (P : Type 0) (back : Bool) → IsTrue back ↔ P → IsTrue (not back) ↔ (¬ P)
not_back P true h = (λ e. absurd (false≢true e), λ no. absurd (no (h.0 refl)))
not_back P false h = (λ _ p. false≢true (h.1 p), λ _. refl)

pub returns-then-candidate-lt255-clause-kept : goal.returns-then-candidate-lt255-clause-kept
returns-then-candidate-lt255-clause-kept c now same =
    let B : List ℕ → Type 0 = λ xs. IsMissedIn xs c.args.candidate.now.shown c.args.picture.now in
    let back : IsTrue c.is_back.result ↔ B (picture now) =
    (λ t. subst B same (c.is_back.ensures.0 t), λ m. c.is_back.ensures.1 (subst B (sym same) m)) in
    let none = not_back (B (picture now)) c.is_back.result back in
    (λ t. record { young = omega arith; gone = none.0 t }, λ k. none.1 k.gone)
