-- The squares of a mask, taken one after the other.
use Rattle.std.proofs.Common.{◌≡◌, ◌≢◌, ◌<◌, ◌==◌, min, ℕ, zero, suc, Bool, true, false, List, Option, Some, None, not, ◌&&◌, inl, inr, refl, sym, ap, ◌∙◌, arith}
use Rattle.std.specs.Prelude.{if◌then◌else◌, slice_index}
use Rattle.std.specs.Int.{bit_at}
use Rattle.std.proofs.lemmas.Bool.{cases_eq}
use Rattle.std.proofs.lemmas.Nat.Bits.{bit_at-zero}
use Rattle.square_runs.specs.Keeping.{time_of}
use Rattle.square_runs.specs.Lasting.{carry, earlier, will_have_lasted}
use Rattle.square_runs.specs.Squares.{first_below, first_of}
use Rattle.square_runs.proofs.Due.{first_same}

-- the time of a square, if it is one of these
abbrev pub among : ℕ → (ℕ → Option ℕ) → ℕ → Option ℕ
among mask time s = if bit_at mask s == 1 then time s else None

-- the squares of one mask but this are those of the other
pub record TakesOut (mask rest s : ℕ) : Type 0 where
  pub inside : s < 64
  pub set : bit_at mask s ≡ 1
  pub cleared : bit_at rest s ≡ 0
  pub others : (k : ℕ) → k < 64 → k ≢ s → bit_at rest k ≡ bit_at mask k

earlier_assoc : (one two three : Option ℕ) → earlier one (earlier two three) ≡ earlier (earlier one two) three
earlier_assoc None two three = refl
earlier_assoc (Some one) None three = refl
earlier_assoc (Some one) (Some two) None = refl
earlier_assoc (Some one) (Some two) (Some three) = ap Some (let e : min one (min two three) ≡ min (min one two) three = omega arith in e)

earlier_comm : (one two : Option ℕ) → earlier one two ≡ earlier two one
earlier_comm None None = refl
earlier_comm None (Some two) = refl
earlier_comm (Some one) None = refl
earlier_comm (Some one) (Some two) = ap Some (let e : min one two ≡ min two one = omega arith in e)

pub earlier_none : (one : Option ℕ) → earlier one None ≡ one
earlier_none None = refl
earlier_none (Some one) = refl

pulled_out : (n s : ℕ) (times rest : ℕ → Option ℕ) → s < n → rest s ≡ None → ((k : ℕ) → k < n → k ≢ s → rest k ≡ times k)
    → first_below n times ≡ earlier (times s) (first_below n rest)
unfolding first_below
pulled_out zero s times rest low none same = absurd (omega arith)
pulled_out (suc n) s times rest low none same =
    elim (cases_eq s n) [
      | inl e ↦
          (let below : first_below n rest ≡ first_below n times = first_same n rest times (λ k under. same k (omega arith) (let ne : k ≢ s = omega arith in ne)) in
          let last : earlier (first_below n rest) (rest n) ≡ first_below n times = ap (λ k. earlier (first_below n rest) (rest k)) (sym e) ∙ ap (earlier (first_below n rest)) none ∙ earlier_none (first_below n rest) ∙ below in
          earlier_comm (first_below n times) (times n) ∙ ap (λ k. earlier (times k) (first_below n times)) (sym e) ∙ ap (earlier (times s)) (sym last))
      | inr ne ↦
          (let under : s < n = omega arith in
          let before = pulled_out n s times rest under none (λ k low ne. same k (omega arith) ne) in
          let here : rest n ≡ times n = same n (omega arith) (let other : n ≢ s = omega arith in other) in
          ap (λ o. earlier o (times n)) before ∙ sym (earlier_assoc (times s) (first_below n rest) (times n)) ∙ ap (λ o. earlier (times s) (earlier (first_below n rest) o)) (sym here))
    ]

-- the earliest time of a mask's squares, when one of them is taken
pub taken : (mask rest s : ℕ) (time : ℕ → Option ℕ) (first : Option ℕ) → TakesOut mask rest s
    → earlier (earlier first (time s)) (first_of (among rest time)) ≡ earlier first (first_of (among mask time))
taken mask rest s time first out =
    let here : among mask time s ≡ time s = ap (λ n. if n == 1 then time s else None) out.set in
    let none : among rest time s ≡ None = ap (λ n. if n == 1 then time s else None) out.cleared in
    let whole = pulled_out 64 s (among mask time) (among rest time) out.inside none (λ k low ne. ap (λ n. if n == 1 then time k else None) (out.others k low ne)) in
    sym (earlier_assoc first (time s) (first_of (among rest time)))
    ∙ ap (λ o. earlier first (earlier o (first_of (among rest time)))) (sym here)
    ∙ ap (earlier first) (sym whole)

first_nothing : (n : ℕ) → first_below n (λ _. None) ≡ None
unfolding first_below
first_nothing zero = refl
first_nothing (suc n) = earlier_none (first_below n (λ _. None)) ∙ first_nothing n

-- no square is left
pub none_left : (time : ℕ → Option ℕ) (mask : ℕ) (first : Option ℕ) → mask ≡ 0 → earlier first (first_of (among mask time)) ≡ first
none_left time mask first none =
    let nothing : first_of (among mask time) ≡ None = first_same 64 (among mask time) (λ _. None) (λ s low. ap (λ m. if bit_at m s == 1 then time s else None) none ∙ ap (λ n. if n == 1 then time s else None) (bit_at-zero s)) ∙ first_nothing 64 in
    ap (earlier first) nothing ∙ earlier_none first

lasting_at : (has : Bool) (span now since : ℕ) → will_have_lasted span now (if has then Some since else None) ≡ (if has then will_have_lasted span now (Some since) else None)
lasting_at true span now since = refl
lasting_at false span now since = refl

-- when the squares of a mask will have lasted
pub lasting_among : (mask : ℕ) (since : List ℕ) (span now : ℕ)
    → first_of (λ s. will_have_lasted span now (time_of mask since s)) ≡ first_of (among mask (λ s. will_have_lasted span now (Some (slice_index since s))))
lasting_among mask since span now =
    first_same 64 (λ s. will_have_lasted span now (time_of mask since s)) (among mask (λ s. will_have_lasted span now (Some (slice_index since s))))
    (λ s low. lasting_at (bit_at mask s == 1) span now (slice_index since s))

-- the time of a square, when a mask has come
pub carried_at : (has had : Bool) (at since : ℕ)
    → (if has then Some (if has && not had then at else since) else None) ≡ carry has at (if had then Some since else None)
carried_at false false at since = refl
carried_at false true at since = refl
carried_at true false at since = refl
carried_at true true at since = refl
