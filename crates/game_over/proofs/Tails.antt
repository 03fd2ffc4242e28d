-- What goes of a game's end.
use Rattle.std.proofs.Common.{◌≡◌, ◌<◌, ◌≤◌, ◌+◌, ◌-◌, inl, inr, ℕ, Bool, true, false, List, Some, length, refl, sym, ap, ◌∙◌, arith}
use Rattle.std.specs.Prelude.{slice_get}
use Rattle.std.proofs.lemmas.Bool.{cases_eq}
use Rattle.std.proofs.lemmas.Option.{slice_get_cases, slice_get_within}
use Rattle.game_over.specs.declared.made.Made.{Made}
use Rattle.game_over.specs.Unfinished.{EndsBefore, IsFirst, IsLongest, LosesTail, SetsUpFrom, stands, stood_for, time_of}
use Rattle.game_over.proofs.Going.{may_go_all}

-- from the first of the set-up on, and all at most; and one, where there is one
pub record Within (first kept : ℕ) (moves : List Made) : Type 0 where
  pub from : first ≤ kept
  pub most : kept ≤ length moves
  pub one : 0 < length moves → 0 < kept

whole : (first kept : ℕ) (moves : List Made) → first ≤ length moves → kept ≡ length moves → Within first kept moves
whole first kept moves low all = record {
  from = omega (arith, low, all);
  most = omega (arith, all);
  one = λ some. omega (arith, some, all);
}

by_time : (b : Bool) (first kept : ℕ) (moves : List Made) (made : Made) → 0 < first → first < length moves → slice_get moves (first - 1) ≡ Some made
    → stood_for made.stood stands ≡ b → EndsBefore first kept moves → Within first kept moves
by_time true first kept moves made above below is long ends =
    let same : kept ≡ first = ends.stood above made is long in
    record { from = omega (arith, same); most = omega (arith, same, below); one = λ some. omega (arith, same, above) }
by_time false first kept moves made above below is short ends =
    let soon = ends.soon above below made is short in
    let more : first < kept = soon.0 in
    let most : kept ≤ length moves = soon.1 in
    record { from = omega (arith, more); most = most; one = λ some. omega (arith, more) }

inside : (first kept : ℕ) (moves : List Made) → 0 < first → first < length moves → EndsBefore first kept moves → Within first kept moves
inside first kept moves above below ends =
    let found = slice_get_cases moves (first - 1) in
    elim found.1 [
      | inl there ↦ by_time (stood_for (there.0).stood stands) first kept moves there.0 above below there.2 refl ends
      | inr past ↦ let far : length moves ≤ first - 1 = past.0 in absurd (omega (arith, far, below))
    ]

pub within : (first kept : ℕ) (moves : List Made) → first ≤ length moves → EndsBefore first kept moves → Within first kept moves
within first kept moves low ends =
    elim (cases_eq first 0) [
      | inl e ↦ whole first kept moves low (ends.alone e)
      | inr some ↦ elim (cases_eq first (length moves)) [
        | inl e ↦ whole first kept moves low (ends.none e)
        | inr less ↦ inside first kept moves (omega arith) (omega arith) ends
      ]
    ]

pub loses_tail : (first kept : ℕ) (moves : List Made) → SetsUpFrom first moves → EndsBefore first kept moves → LosesTail kept moves
loses_tail first kept moves set ends =
    let in_it = within first kept moves set.within ends in
    let low : first ≤ kept = in_it.from in
    record {
      tail = in_it.most;
      gone = λ k made from is. may_go_all made (slice_get moves (k + 1)) (set.each k made (omega (arith, low, from)) is);
      one = in_it.one;
    }

-- the best of the moves so far
abbrev pub Best : ℕ → ℕ → ℕ → ℕ → List Made → Type 0
Best first n kept time moves = ((first < kept) × (kept ≤ length moves))
    × (((made : Made) → slice_get moves (kept - 1) ≡ Some made → time ≡ time_of made.stood)
    × ((k : ℕ) (made : Made) → first ≤ k → k < n → slice_get moves k ≡ Some made → time_of made.stood ≤ time)
    × ((k : ℕ) (made : Made) → first ≤ k → k + 1 < kept → slice_get moves k ≡ Some made → time_of made.stood < time))

pub better : (first i kept time other : ℕ) (moves : List Made) → Best first i kept time moves → first ≤ i → i < length moves
    → ((made : Made) → slice_get moves i ≡ Some made → other ≡ time_of made.stood) → time < other → Best first (i + 1) (i + 1) other moves
better first i kept time other moves best from low is more =
    let back : (i + 1) - 1 ≡ i = omega arith in (
      ((omega arith), (omega arith)),
      (
        (λ made there. is made (ap (λ k. slice_get moves k) (sym back) ∙ there)),
        (λ k made above below there. elim (cases_eq k i) [
          | inl e ↦ let same : other ≡ time_of made.stood = is made (ap (λ j. slice_get moves j) (sym e) ∙ there) in omega (arith, same)
          | inr ne ↦ let old : time_of made.stood ≤ time = best.1.1 k made above (omega arith) there in omega (arith, old, more)
        ]),
        (λ k made above below there. let old : time_of made.stood ≤ time = best.1.1 k made above (omega arith) there in omega (arith, old, more)),
      ),
    )

pub no_better : (first i kept time other : ℕ) (moves : List Made) → Best first i kept time moves
    → ((made : Made) → slice_get moves i ≡ Some made → other ≡ time_of made.stood) → other ≤ time → Best first (i + 1) kept time moves
no_better first i kept time other moves best is less = (
  best.0,
  (
    best.1.0,
    (λ k made above below there. elim (cases_eq k i) [
      | inl e ↦ let same : other ≡ time_of made.stood = is made (ap (λ j. slice_get moves j) (sym e) ∙ there) in omega (arith, same, less)
      | inr ne ↦ best.1.1 k made above (omega arith) there
    ]),
    best.1.2,
  ),
)

pub is_longest : (first n kept time : ℕ) (moves : List Made) → Best first n kept time moves → length moves ≤ n → IsLongest first kept moves
is_longest first n kept time moves best ended k one last above there is =
    let low : k < length moves = slice_get_within moves k one there in
    let same : time ≡ time_of last.stood = best.1.0 last is in
    let less : time_of one.stood ≤ time = best.1.1 k one above (omega (arith, low, ended)) there in
    omega (arith, same, less)

pub is_first : (first n kept time : ℕ) (moves : List Made) → Best first n kept time moves → IsFirst first kept moves
is_first first n kept time moves best k one last above below there is =
    let same : time ≡ time_of last.stood = best.1.0 last is in
    let less : time_of one.stood < time = best.1.2 k one above below there in
    omega (arith, same, less)
