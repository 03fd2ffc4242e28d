-- Which pictures end a game.
use Rattle.std.proofs.Common.{◌≡◌, ◌<◌, ◌≤◌, ◌+◌, ◌==◌, ◌⊎◌, ◌&&◌, ◌||◌, inl, inr, not, ℕ, Bool, true, false, List, [], ◌∷◌, Some, None, refl, sym, ap, ◌∙◌, arith}
use Rattle.std.specs.Prelude.{◌↔◌, if◌then◌else◌, count_ones, is_some, nat_lt, nat_le}
use Rattle.std.proofs.lemmas.Bool.{and_parts, cases_Bool, eqb-true, le-leb, leb-true, lt-ltb, ltb-true, ne_eqb, true≢false}
use Rattle.std.proofs.Math.Bool.{or-true}
use Rattle.square_runs.specs.Lasting.{has_lasted}
use Rattle.game_over.specs.declared.happened.Event.{Event}
use Rattle.game_over.specs.declared.happened.Happening.{Happening}
use Rattle.game_over.specs.declared.happened.Happening.TheVariants.{Shows, Resumes}
use Rattle.game_over.specs.declared.happened.Shown.{Shown}
use Rattle.game_over.specs.declared.said.Why.TheVariants.{SetUp, Unfinished}
use Rattle.game_over.specs.Again.{ends_by, was_away}
use Rattle.game_over.specs.Over.{ended_by, has_begun, hour, is_over, left_by, pictures_at, pictures_by, starts_again, was_left, why_by}
use Rattle.game_over.specs.Result.{last_given}
use Rattle.game_over.specs.SettingUp.{IsAway, IsPause, IsStart, SetUpEndsExactly, WasAway}

-- what a list of pictures says, by the last one
away_to : (off : ℕ) (before : List ℕ) (P : Type 0) → (was_away before ≡ true → P) → was_away (off ∷ before) ≡ true
    → (4 < count_ones off) ⊎ ((count_ones off ≡ 0 → ⊥) × P)
away_to off before P to h =
    elim (cases_Bool (count_ones off == 0)) [
      | inl none ↦ absurd (true≢false (sym h ∙ ap (λ b. if b then false else nat_lt 4 (count_ones off) || was_away before) none))
      | inr some ↦
          let or : (nat_lt 4 (count_ones off) || was_away before) ≡ true =
          sym (ap (λ b. if b then false else nat_lt 4 (count_ones off) || was_away before) some) ∙ h in
          elim (cases_Bool (nat_lt 4 (count_ones off))) [
            | inl far ↦ inl (ltb-true 4 (count_ones off) far)
            | inr near ↦ inr (
              (λ e. true≢false (sym (ap (λ n. n == 0) e) ∙ some)),
              to (sym (ap (λ b. b || was_away before) near) ∙ or),
            )
          ]
    ]

away_from : (off : ℕ) (before : List ℕ) (P : Type 0) → (P → was_away before ≡ true) → (4 < count_ones off) ⊎ ((count_ones off ≡ 0 → ⊥) × P)
    → was_away (off ∷ before) ≡ true
away_from off before P from (inl far) =
    ap (λ b. if b then false else nat_lt 4 (count_ones off) || was_away before) (ne_eqb (count_ones off) 0 (λ e. let never : ⊥ = omega (arith, e, far) in never))
    ∙ ap (λ b. b || was_away before) (lt-ltb 4 (count_ones off) far)
away_from off before P from (inr (some, p)) =
    ap (λ b. if b then false else nat_lt 4 (count_ones off) || was_away before) (ne_eqb (count_ones off) 0 some)
    ∙ ap (λ b. nat_lt 4 (count_ones off) || b) (from p) ∙ or-true (nat_lt 4 (count_ones off))

-- the pictures up to a time, with what happened last
away_by : (what : Happening) (now at : ℕ) (before : List ℕ) (P : Type 0) → (was_away before ≡ true) ↔ P
    → (was_away (if has_lasted hour now (left_by what at) then [] else pictures_by what before) ≡ true)
    ↔ ((IsPause now at what → ⊥) × (IsAway what ⊎ ((IsStart what → ⊥) × P)))
away_by (Shows shown) now at before P iff = (
  (λ h. ((λ never. never), away_to shown.off before P iff.0 h)),
  (λ h. away_from shown.off before P iff.1 h.1),
)
away_by Resumes now at before P iff = (
  (λ h. elim (cases_Bool (nat_le (at + hour) now)) [
    | inl long ↦ absurd (true≢false (sym h ∙ ap (λ b. was_away (if b then [] else before)) long))
    | inr not ↦ (
      (λ (le : at + 3600000 ≤ now). true≢false (sym (le-leb (at + hour) now le) ∙ not)),
      inr ((λ never. never), iff.0 (sym (ap (λ b. was_away (if b then [] else before)) not) ∙ h)),
    )
  ]),
  (λ h. elim (cases_Bool (nat_le (at + hour) now)) [
    | inl long ↦ absurd (h.0 (leb-true (at + hour) now long))
    | inr not ↦ ap (λ b. was_away (if b then [] else before)) not ∙ elim h.1 [ inl never ↦ absurd never | inr p ↦ iff.1 p.1 ]
  ]),
)
away_by _ now at before P iff = (
  (λ h. ((λ never. never), inr ((λ never. never), iff.0 h))),
  (λ h. elim h.1 [ inl never ↦ absurd never | inr p ↦ iff.1 p.1 ]),
)

away_exactly : (now : ℕ) (past : List Event) → (was_away (pictures_at now past) ≡ true) ↔ WasAway now past
unfolding was_left
away_exactly now [] = ((λ h. true≢false (sym h)), (λ never. absurd never))
away_exactly now (event ∷ past) = away_by event.what now event.at (pictures_at event.at past) (WasAway event.at past) (away_exactly event.at past)

ends_if : (off : ℕ) (at_start : Bool) (past : List ℕ) (P : Type 0) → (was_away past ≡ true) ↔ P
    → (ends_by off at_start past ≡ true) ↔ ((count_ones off ≡ 0) × (at_start ≡ false) × P)
ends_if off true past P iff = (
  (λ h. absurd (true≢false (sym (and_parts (was_away past) false (and_parts (count_ones off == 0) (was_away past && false) h).1).1))),
  (λ h. absurd (true≢false h.1)),
)
ends_if off false past P iff = (
  (λ h.
      let both = and_parts (count_ones off == 0) (was_away past && true) h in
      (eqb-true (count_ones off) 0 both.0, refl, iff.0 (and_parts (was_away past) true both.1).0)),
  (λ h. ap (λ n. (n == 0) && (was_away past && true)) h.0 ∙ ap (λ b. b && true) (iff.1 h.2)),
)

some_if : (again begun set : Bool) → begun ≡ true → is_some (if again && begun then Some (if set then SetUp else Unfinished) else None) ≡ again
some_if true true set h = refl
some_if false true set h = refl
some_if again false set h = absurd (true≢false (sym h))

ends_again : (shown : Shown) (event : Event) (past : List Event) → event.what ≡ Shows shown → is_over past ≡ false → has_begun past ≡ true
    → is_some (ended_by event past) ≡ starts_again event.at shown past
ends_again shown event past shows over begun =
    ap (λ b. is_some (if b then None else why_by event.what event.at past)) over ∙ ap (λ what. is_some (why_by what event.at past)) shows
    ∙ some_if (starts_again event.at shown past) (has_begun past) (is_some (last_given past)) begun

pub set_up_ends : SetUpEndsExactly
unfolding starts_again
set_up_ends shown event past shows over begun =
    let iff = ends_if shown.off shown.at_start (pictures_at event.at past) (WasAway event.at past) (away_exactly event.at past) in
    let again = ends_again shown event past shows over begun in ((λ h. iff.0 (sym again ∙ h)), (λ h. again ∙ iff.1 h))
