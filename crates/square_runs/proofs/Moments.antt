-- What has held for a time held at each moment of it.
use Rattle.std.proofs.Common.{◌≡◌, ℕ, ◌+◌, ◌-◌, ◌<◌, ◌≤◌, ◌⊎◌, inl, inr, Bool, true, false, List, [], ◌∷◌, Option, Some, None, refl, sym, ap, subst, ◌∙◌, arith}
use Rattle.std.proofs.lemmas.Bool.{leb-true, le-leb, cases_lt}
use Rattle.std.proofs.lemmas.Option.{none-some, same_Some}
use Rattle.square_runs.specs.Lasting.{carry, has_lasted}
use Rattle.square_runs.specs.Laws.{EachStanding, HeldIsThroughout, InOrder, ShownBy}
use Rattle.square_runs.specs.Shown.{Shown, Test, since_when}

carry_cases : (holds : Bool) (at : ℕ) (since : Option ℕ) (t : ℕ) → carry holds at since ≡ Some t
    → (holds ≡ true) × (((since ≡ None) × (at ≡ t)) ⊎ (since ≡ Some t))
carry_cases false at since t e = absurd (none-some t e)
carry_cases true at None t e = (refl, inl (refl, same_Some at t e))
carry_cases true at (Some u) t e = (refl, inr e)

-- it stood before the moment at which the test began to hold
pub since_in_order : (test : Test) (now : ℕ) (past : List Shown) (t : ℕ) → InOrder now past → since_when test past ≡ Some t → t ≤ now
since_in_order test now [] t order e = absurd (none-some t e)
since_in_order test now (picture ∷ before) t order e =
    elim ((carry_cases (test picture before) picture.time (since_when test before) t e).1) [
      | inl first ↦ (let le : picture.time ≤ now = order.0 in let is : picture.time ≡ t = first.1 in omega arith)
      | inr earlier ↦ (let le : t ≤ picture.time = since_in_order test picture.time before t order.1 earlier in let low : picture.time ≤ now = order.0 in omega arith)
    ]

shown_later : (a b : ℕ) (past : List Shown) → a ≤ b → ShownBy a past → ShownBy b past
shown_later a b [] le h = h
shown_later a b (picture ∷ before) le h =
    elim h [ inl now ↦ inl (let e : picture.time ≤ b = omega (arith, now) in e) | inr then ↦ inr (shown_later a b before le then) ]

since_shown : (test : Test) (past : List Shown) (t : ℕ) → since_when test past ≡ Some t → ShownBy t past
since_shown test [] t e = absurd (none-some t e)
since_shown test (picture ∷ before) t e =
    elim ((carry_cases (test picture before) picture.time (since_when test before) t e).1) [
      | inl first ↦ inl (let is : picture.time ≡ t = first.1 in let le : picture.time ≤ t = omega arith in le)
      | inr earlier ↦ inr (since_shown test before t earlier)
    ]

since_standing : (test : Test) (past : List Shown) (t moment : ℕ) → since_when test past ≡ Some t → t < moment → EachStanding test moment past
since_standing test [] t moment e after = absurd (none-some t e)
since_standing test (picture ∷ before) t moment e after =
    let cases = carry_cases (test picture before) picture.time (since_when test before) t e in (
      λ _. cases.0,
      λ le. elim cases.1 [
        | inl first ↦ absurd (let is : picture.time ≡ t = first.1 in let never : ⊥ = omega (arith, le) in never)
        | inr earlier ↦ since_standing test before t moment earlier after
      ],
    )

-- the test holds since a time, no later than this
abbrev Since : Test → ℕ → List Shown → Type 0
Since test start past = (t : ℕ) × (since_when test past ≡ Some t) × (t ≤ start)

carried_on : (at start : ℕ) (since : Option ℕ) → at ≤ start → ((u : ℕ) → since ≡ Some u → u ≤ at) → (t : ℕ) × (carry true at since ≡ Some t) × (t ≤ start)
carried_on at start None low h = (at, refl, low)
carried_on at start (Some u) low h = (u, refl, (let le : u ≤ at = h u refl in omega arith))

since_from : (test : Test) (start until : ℕ) (past : List Shown) → start < until → InOrder until past → ShownBy start past
    → ((moment : ℕ) → start < moment → moment ≤ until → EachStanding test moment past) → Since test start past
since_from test start until [] after order by h = absurd by
since_from test start until (picture ∷ before) after order by h =
    let holds : test picture before ≡ true = (h until after (omega arith)).0 order.0 in
    let P : Bool → Type 0 = λ b. (t : ℕ) × (carry b picture.time (since_when test before) ≡ Some t) × (t ≤ start) in
    subst P (sym holds) (elim (cases_lt start picture.time) [
      | inl later ↦
          (let earlier : Since test start before =
          since_from test start picture.time before later order.1
          (elim by [ inl now ↦ absurd (let never : ⊥ = omega (arith, now) in never) | inr then ↦ then ])
          (λ moment from to. (h moment from (let low : picture.time ≤ until = order.0 in omega arith)).1 to) in
          (earlier.0, ap (carry true picture.time) earlier.1, earlier.2))
      | inr low ↦ carried_on picture.time start (since_when test before) low (λ u e. since_in_order test picture.time before u order.1 e)
    ])

lasted_cases : (span now : ℕ) (since : Option ℕ) → has_lasted span now since ≡ true → (t : ℕ) × (since ≡ Some t) × (t + span ≤ now)
lasted_cases span now None e = absurd (let never : ⊥ = cc in never)
lasted_cases span now (Some t) e = (t, refl, leb-true (t + span) now e)

pub held_is_throughout : HeldIsThroughout
held_is_throughout test span now past some order = (
  λ held.
      (let s = lasted_cases span now (since_when test past) held in
      let low : s.0 + span ≤ now = s.2 in
      let early : s.0 ≤ now - span = omega arith in (
        now - span,
        omega arith,
        shown_later s.0 (now - span) past early (since_shown test past s.0 s.1),
        λ moment from to. since_standing test past s.0 moment s.1 (omega arith),
      )),
  λ h.
      (let whole : h.0 + span ≡ now = h.1 in
      let s = since_from test h.0 now past (omega arith) order h.2 h.3 in
      let low : s.0 ≤ h.0 = s.2 in
      ap (has_lasted span now) s.1 ∙ le-leb (s.0 + span) now (omega arith)),
)
