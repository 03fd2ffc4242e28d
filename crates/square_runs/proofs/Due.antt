-- What stays the same until it is due.
use Rattle.std.proofs.Common.{◌≡◌, ◌<◌, ◌+◌, ◌^◌, ◌&&◌, min, ℕ, zero, suc, Bool, Option, Some, None, inl, inr, refl, sym, ap, subst, ◌∙◌, arith}
use Rattle.std.specs.Prelude.{nat_lt, if◌then◌else◌}
use Rattle.std.proofs.lemmas.Bool.{cases_eq, cases_lt, lt-ltb, le-leb, lt-leb}
use Rattle.square_runs.specs.Lasting.{IsBefore, earlier}
use Rattle.square_runs.specs.Laws.{SameUntilDue}
use Rattle.square_runs.specs.Squares.{first_below}

-- what lies before the earlier of two times lies before both
pub before_both : (time : ℕ) (one other : Option ℕ) → IsBefore time (earlier one other) → IsBefore time one × IsBefore time other
before_both time None other h = (tt, h)
before_both time (Some one) None h = (h, tt)
before_both time (Some one) (Some other) h = (let low : time < min one other = h in omega arith, let low : time < min one other = h in omega arith)

pub before_first : (n : ℕ) (time : ℕ) (times : ℕ → Option ℕ) → IsBefore time (first_below n times) → (s : ℕ) → s < n → IsBefore time (times s)
unfolding first_below
before_first zero time times h s low = absurd (omega arith)
before_first (suc n) time times h s low =
    let both = before_both time (first_below n times) (times n) h in
    elim (cases_eq s n) [
      | inl e ↦ (let P : ℕ → Type 0 = λ k. IsBefore time (times k) in subst P (sym e) both.1)
      | inr ne ↦ before_first n time times both.0 s (omega arith)
    ]

pub first_same : (n : ℕ) (times others : ℕ → Option ℕ) → ((s : ℕ) → s < n → times s ≡ others s) → first_below n times ≡ first_below n others
unfolding first_below
first_same zero times others h = refl
first_same (suc n) times others h =
    ap (λ o. earlier o (times n)) (first_same n times others (λ s low. h s (omega arith)))
    ∙ ap (earlier (first_below n others)) (h n (omega arith))

pub first_none : (times : ℕ → Option ℕ) → first_below 0 times ≡ None
unfolding first_below
first_none times = refl

-- the earliest of one square more
pub first_next : (n : ℕ) (times : ℕ → Option ℕ) → first_below (n + 1) times ≡ earlier (first_below n times) (times n)
unfolding first_below
first_next n times = ap (λ k. first_below k times) (let e : n + 1 ≡ suc n = omega arith in e)

pub same_until_due : SameUntilDue
same_until_due span now later None from fits before = refl
same_until_due span now later (Some since) from fits before =
    elim (cases_lt now (since + span)) [
      | inl comes ↦ elim (cases_lt later (since + span)) [
        | inl early ↦ lt-leb (since + span) later early ∙ sym (lt-leb (since + span) now comes)
        | inr late ↦ (let P : Bool → Type 0 = λ b. IsBefore later (if b && nat_lt (since + span) (2 ^ 64) then Some (since + span) else None) in
            let step = subst P (lt-ltb now (since + span) comes) before in
            let Q : Bool → Type 0 = λ b. IsBefore later (if b then Some (since + span) else None) in
            let never : later < since + span = subst Q (lt-ltb (since + span) (2 ^ 64) (omega arith)) step in
            absurd (omega arith))
      ]
      | inr gone ↦ le-leb (since + span) later (omega arith) ∙ sym (le-leb (since + span) now gone)
    ]
