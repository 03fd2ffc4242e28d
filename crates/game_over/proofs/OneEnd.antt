-- A game ends in one way.
use Rattle.std.proofs.Common.{◌≡◌, ◌<◌, ◌≤◌, ◌+◌, ◌-◌, inl, inr, ℕ, Bool, true, false, IsTrue, List, Some, length, refl, sym, ap, ◌∙◌, arith}
use Rattle.std.specs.Prelude.{slice_get, ◌↔◌}
use Rattle.std.proofs.lemmas.Bool.{cases_eq, cases_lt, true≢false}
use Rattle.std.proofs.lemmas.Option.{slice_get_cases}
use Rattle.game_over.specs.declared.made.Made.{Made}
use Rattle.game_over.specs.Unfinished.{EndsBefore, IsSure, SetsUpFrom, sets_up, stands, stood_for, time_of}
use Rattle.game_over.specs.Laws.{EndsInOneWay}

-- There is a move with this number.
there_is : (k : ℕ) (moves : List Made) → k < length moves → (made : Made) × (slice_get moves k ≡ Some made)
there_is k moves low =
    let found = slice_get_cases moves k in
    elim found.1 [
      | inl there ↦ (there.0, there.2)
      | inr past ↦ let far : length moves ≤ k = past.0 in absurd (omega (arith, far, low))
    ]

no_later : (first other : ℕ) (moves : List Made) → first < other → SetsUpFrom first moves → SetsUpFrom other moves → ⊥
no_later first other moves later one two =
    let low : other ≤ length moves = two.within in
    let there = there_is (other - 1) moves (omega (arith, low, later)) in
    let back : (other - 1) + 1 ≡ other = omega (arith, later) in
    let sets : sets_up there.0 (slice_get moves ((other - 1) + 1)) ≡ true = one.each (other - 1) there.0 (omega (arith, later)) there.1 in
    let not : sets_up there.0 (slice_get moves other) ≡ false = two.before (omega (arith, later)) there.0 there.1 in
    true≢false (sym sets ∙ ap (λ k. sets_up there.0 (slice_get moves k)) back ∙ not)

one_first : (first other : ℕ) (moves : List Made) → SetsUpFrom first moves → SetsUpFrom other moves → first ≡ other
one_first first other moves one two =
    elim (cases_eq first other) [
      | inl e ↦ e
      | inr ne ↦ elim (cases_lt first other) [
        | inl less ↦ absurd (no_later first other moves less one two)
        | inr not ↦ absurd (no_later other first moves (omega (arith, ne, not)) two one)
      ]
    ]

is_one : (a b : Bool) (P : Type 0) → (IsTrue a ↔ P) → (IsTrue b ↔ P) → a ≡ b
is_one true true P one other = refl
is_one true false P one other = absurd (true≢false (sym (other.1 (one.0 refl))))
is_one false true P one other = absurd (true≢false (sym (one.1 (other.0 refl))))
is_one false false P one other = refl

no_less : (first kept other : ℕ) (moves : List Made) (made : Made) → 0 < first → first < length moves → slice_get moves (first - 1) ≡ Some made
    → stood_for made.stood stands ≡ false → kept < other → EndsBefore first kept moves → EndsBefore first other moves → ⊥
no_less first kept other moves made above below is short less one two =
    let soon = one.soon above below made is short in
    let late = two.soon above below made is short in
    let from : first < kept = soon.0 in
    let most : other ≤ length moves = late.1 in
    let last = there_is (kept - 1) moves (omega (arith, from, less, most)) in
    let later = there_is (other - 1) moves (omega (arith, from, less, most)) in
    let longest : time_of (later.0).stood ≤ time_of (last.0).stood =
    soon.2 (other - 1) later.0 last.0 (omega (arith, from, less)) later.1 last.1 in
    let shorter : time_of (last.0).stood < time_of (later.0).stood =
    late.3 (kept - 1) last.0 later.0 (omega (arith, from)) (omega (arith, from, less)) last.1 later.1 in
    omega (arith, longest, shorter)

by_time : (b : Bool) (first kept other : ℕ) (moves : List Made) (made : Made) → 0 < first → first < length moves
    → slice_get moves (first - 1) ≡ Some made → stood_for made.stood stands ≡ b → EndsBefore first kept moves → EndsBefore first other moves
    → kept ≡ other
by_time true first kept other moves made above below is long one two = one.stood above made is long ∙ sym (two.stood above made is long)
by_time false first kept other moves made above below is short one two =
    elim (cases_eq kept other) [
      | inl e ↦ e
      | inr ne ↦ elim (cases_lt kept other) [
        | inl less ↦ absurd (no_less first kept other moves made above below is short less one two)
        | inr not ↦ absurd (no_less first other kept moves made above below is short (omega (arith, ne, not)) two one)
      ]
    ]

one_kept : (first kept other : ℕ) (moves : List Made) → first ≤ length moves → EndsBefore first kept moves → EndsBefore first other moves
    → kept ≡ other
one_kept first kept other moves low one two =
    elim (cases_eq first 0) [
      | inl e ↦ one.alone e ∙ sym (two.alone e)
      | inr some ↦ elim (cases_eq first (length moves)) [
        | inl e ↦ one.none e ∙ sym (two.none e)
        | inr less ↦
            let there = there_is (first - 1) moves (omega arith) in
            by_time (stood_for (there.0).stood stands) first kept other moves there.0 (omega arith) (omega arith) there.1 refl one two
      ]
    ]

sure_alike : (first also kept other : ℕ) (moves : List Made) (a b : Bool) → first ≡ also → kept ≡ other → (IsTrue a ↔ IsSure first kept moves)
    → (IsTrue b ↔ IsSure also other moves) → a ≡ b
sure_alike first also kept other moves a b f k one two = is_one a b (IsSure first kept moves) one (rw f (rw k two))

pub ends_in_one_way : EndsInOneWay
ends_in_one_way kept other is_sure is_also_sure moves one two =
    let first : one.0 ≡ two.0 = one_first one.0 two.0 moves one.1 two.1 in
    let ends : EndsBefore one.0 other moves = rw first two.2 in
    let same : kept ≡ other = one_kept one.0 kept other moves (one.1).within one.2 ends in
    (same, sure_alike one.0 two.0 kept other moves is_sure is_also_sure first same one.3 two.3)
