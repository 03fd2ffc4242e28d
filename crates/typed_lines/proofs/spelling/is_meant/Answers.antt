use Rattle.std.proofs.Common.{◌≡◌, ◌∙◌, ℕ, List, inr, rules, subst, sym, ⊎_elim}
use Rattle.std.proofs.lemmas.Bool.{false≢true}
use Rattle.std.specs.Prelude.{◌↔◌, IfOk, IsTrue}
use Rattle.typed_lines.specs.Letters.{in_english, letters}
use Rattle.typed_lines.specs.Spelling.{IsMeant, SpellsMove}
use Rattle.typed_lines.proofs.LineLemmas.{if_ok_iff}
use Rattle.typed_lines.proofs.spelling.is_meant.Goals as goal

pub returns : goal.returns
returns c =
    let p = c.args.p.now in
    let m = c.args.m.now in
    let word = c.args.word.now in
    let own : c.as_slice.result.now ≡ letters word = search rules in
    let other : c.as_slice-3.result.now ≡ letters (in_english word) = search rules in
    let P : List ℕ → Type 0 = λ heard. IfOk c.spells_move-2.result (λ b. IsTrue b ↔ SpellsMove p m heard) in
    let Q : List ℕ → Type 0 = λ heard. SpellsMove p m heard in
    if_ok_iff c.spells_move-2.result (SpellsMove p m (letters (in_english word))) (IsMeant p m word) (subst P other c.spells_move-2.ensures) (λ spells. inr spells)
    (λ meant. ⊎_elim (λ first. absurd (false≢true (sym c.if-branch.false ∙ c.in_ok-spells_move.ensures.1 (subst Q (sym own) first)))) (λ second. second) meant)
