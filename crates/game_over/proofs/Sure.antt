-- When an end is sure.
use Rattle.std.proofs.Common.{◌≡◌, ◌<◌, ◌≤◌, ◌-◌, inl, inr, not, ℕ, Bool, true, false, IsTrue, List, Some, length, sym, ◌∙◌, arith}
use Rattle.std.specs.Prelude.{slice_get, ◌↔◌}
use Rattle.std.proofs.lemmas.Bool.{true≢false}
use Rattle.std.proofs.lemmas.Option.{slice_get_cases}
use Rattle.game_over.specs.declared.made.Made.{Made}
use Rattle.game_over.specs.Unfinished.{IsSure}

by_home : (home : Bool) (first kept : ℕ) (moves : List Made) (last : Made) → 0 < first → kept ≡ length moves → slice_get moves (kept - 1) ≡ Some last
    → ((made : Made) → slice_get moves (kept - 1) ≡ Some made → home ≡ made.goes_home) → IsTrue (not home) ↔ IsSure first kept moves
by_home true first kept moves last some all there is = (
  (λ never. absurd (true≢false (sym never))),
  (λ sure. absurd (true≢false (is last there ∙ sure.last last there))),
)
by_home false first kept moves last some all there is = (
  (λ _. record { all = all; some = λ none. absurd (omega (arith, some, none)); last = λ made one. sym (is made one) }),
  (λ sure. search),
)

pub sure : (home : Bool) (first kept : ℕ) (moves : List Made) → 0 < first → 0 < kept → kept ≤ length moves → length moves ≤ kept
    → ((made : Made) → slice_get moves (kept - 1) ≡ Some made → home ≡ made.goes_home) → IsTrue (not home) ↔ IsSure first kept moves
sure home first kept moves some one most all is =
    let found = slice_get_cases moves (kept - 1) in
    elim found.1 [
      | inl there ↦ by_home home first kept moves there.0 some (omega (arith, most, all)) there.2 is
      | inr past ↦ let far : length moves ≤ kept - 1 = past.0 in absurd (omega (arith, far, one, most, all))
    ]
