-- The squares on which two pictures differ, taken one after the other.
use Rattle.std.proofs.Common.{◌≡◌, ◌≢◌, ◌<◌, ◌==◌, ℕ, Bool, true, false, not, ◌&&◌, ◌||◌, inl, inr, refl, sym, ap, subst, ◌∙◌}
use Rattle.std.specs.Int.{bit_at}
use Rattle.std.proofs.lemmas.Bool.{cases_eq, ne_eqb}
use Rattle.std.proofs.lemmas.Nat.Bits.{bit_at-zero}
use Rattle.square_runs.specs.Squares.{Marks, some_square}
use Rattle.square_runs.proofs.Squares.{any_none, any_some, nor_zero}
use Rattle.board_doubts.specs.Elsewhere.{is_of}

-- one mask is the other without this square
pub record TakesOut (mask rest s : ℕ) : Type 0 where
  pub inside : s < 64
  pub cleared : bit_at rest s ≡ 0
  pub others : (k : ℕ) → k < 64 → k ≢ s → bit_at rest k ≡ bit_at mask k

-- The squares that are left still have to be taken, and among the others these meet the test.
pub record HasTaken (left squares : ℕ) (test : ℕ → Bool) : Type 0 where
  pub still : (k : ℕ) → k < 64 → bit_at left k ≡ 1 → bit_at squares k ≡ 0
  pub there : (k : ℕ) → k < 64 → bit_at left k ≡ 0 → (bit_at squares k == 1) ≡ test k

-- Among the others none meets it.
abbrev pub NoneMeets : ℕ → (ℕ → Bool) → Type 0
NoneMeets left test = (k : ℕ) → k < 64 → bit_at left k ≡ 0 → test k ≡ false

pub none_first : (mask : ℕ) (differs test : ℕ → Bool) → Marks mask differs → ((s : ℕ) → differs s ≡ false → test s ≡ false) → NoneMeets mask test
none_first mask differs test marks only k low none = only k (sym (marks k low) ∙ ap (λ n. n == 1) none)

pub none_more : (mask rest s : ℕ) (test : ℕ → Bool) → TakesOut mask rest s → NoneMeets mask test → test s ≡ false → NoneMeets rest test
none_more mask rest s test out before fails k low none =
    elim (cases_eq k s) [
      | inl e ↦ ap test e ∙ fails
      | inr ne ↦ before k low (sym (out.others k low ne) ∙ none)
    ]

pub none_last : (mask : ℕ) (test : ℕ → Bool) → mask ≡ 0 → NoneMeets mask test → false ≡ some_square test
none_last mask test empty none = sym (any_none 64 test (λ s low. none s low (ap (λ n. bit_at n s) empty ∙ bit_at-zero s)))

pub taken_first : (mask : ℕ) (test : ℕ → Bool) → NoneMeets mask test → HasTaken mask 0 test
taken_first mask test none = record {
  still = λ k low set. bit_at-zero k;
  there = λ k low lacks. ap (λ n. n == 1) (bit_at-zero k) ∙ sym (none k low lacks);
}

pub taken_more : (mask rest s old new : ℕ) (test : ℕ → Bool) → TakesOut mask rest s → HasTaken mask old test → (bit_at new s == 1) ≡ test s
    → ((k : ℕ) → k < 64 → k ≢ s → bit_at new k ≡ bit_at old k) → HasTaken rest new test
taken_more mask rest s old new test out before set others =
    let other : (k : ℕ) → bit_at rest k ≡ 1 → k ≢ s = λ k here e. nor_zero (let P : ℕ → Type 0 = λ n. bit_at rest n ≡ 0 in subst P (sym e) out.cleared) here in
    record {
      still = λ k low here. others k low (other k here) ∙ before.still k low (sym (out.others k low (other k here)) ∙ here);
      there = λ k low none. elim (cases_eq k s) [
        | inl e ↦ (let P : ℕ → Type 0 = λ n. (bit_at new n == 1) ≡ test n in subst P (sym e) set)
        | inr ne ↦ ap (λ n. n == 1) (others k low ne) ∙ before.there k low (sym (out.others k low ne) ∙ none)
      ];
    }

pub taken_last : (mask squares : ℕ) (test : ℕ → Bool) → mask ≡ 0 → HasTaken mask squares test → Marks squares test
taken_last mask squares test empty taken s low = taken.there s low (ap (λ n. bit_at n s) empty ∙ bit_at-zero s)

-- where the pictures don't differ

pub nor_last : (a d : Bool) → d ≡ false → (a && d) ≡ false
nor_last true d e = e
nor_last false d e = refl

pub nor_there : (a d b : Bool) → d ≡ false → ((a && d) && b) ≡ false
nor_there a d b e = ap (λ x. x && b) (nor_last a d e)

pub nor_new : (a d b c : Bool) → d ≡ false → (((a && d) && b) && c) ≡ false
nor_new a d b c e = ap (λ x. x && c) (nor_there a d b e)

pub nor_astray : (a o d b c : Bool) → d ≡ false → ((((a && d) && b) || (o && d)) && c) ≡ false
nor_astray a o d b c e = ap (λ x. (x || (o && d)) && c) (nor_there a d b e) ∙ ap (λ x. x && c) (nor_last o d e)

nor_zero_piece : (black : Bool) → is_of black 0 ≡ false
nor_zero_piece true = refl
nor_zero_piece false = refl

same_if : (p q : ℕ) → not (q == p) ≡ false → p ≡ q
same_if p q e =
    elim (cases_eq q p) [
      | inl same ↦ sym same
      | inr ne ↦ absurd (let t = sym (ap not (ne_eqb q p ne)) ∙ e in (let never : true ≡ false = t in cc))
    ]

pub nor_lifted : (black : Bool) (p q : ℕ) → not (q == p) ≡ false → (is_of black p && (q == 0)) ≡ false
nor_lifted black p q e =
    elim (cases_eq q 0) [
      | inl none ↦ ap (λ n. is_of black n && (q == 0)) (same_if p q e ∙ none) ∙ ap (λ x. x && (q == 0)) (nor_zero_piece black)
      | inr some ↦ nor_last (is_of black p) (q == 0) (ne_eqb q 0 some)
    ]

-- where they differ nowhere

nowhere : (mask : ℕ) (differs : ℕ → Bool) → Marks mask differs → mask ≡ 0 → (s : ℕ) → s < 64 → differs s ≡ false
nowhere mask differs marks empty s low = sym (marks s low) ∙ ap (λ m. bit_at m s == 1) empty ∙ ap (λ n. n == 1) (bit_at-zero s)

pub none_marked : (mask : ℕ) (differs test : ℕ → Bool) → Marks mask differs → mask ≡ 0 → ((s : ℕ) → differs s ≡ false → test s ≡ false) → Marks 0 test
none_marked mask differs test marks empty only s low = ap (λ n. n == 1) (bit_at-zero s) ∙ sym (only s (nowhere mask differs marks empty s low))

pub none_met : (mask : ℕ) (differs test : ℕ → Bool) → Marks mask differs → mask ≡ 0 → ((s : ℕ) → differs s ≡ false → test s ≡ false) → false ≡ some_square test
none_met mask differs test marks empty only = sym (any_none 64 test (λ s low. only s (nowhere mask differs marks empty s low)))

-- where no other piece stands

pub other_last : (p q : ℕ) → not (q == p) ≡ false → (not (q == 0) && not (q == p)) ≡ false
other_last p q e = nor_last (not (q == 0)) (not (q == p)) e

pub nor_landed : (black : Bool) (q : ℕ) (d : Bool) → (not (q == 0) && d) ≡ false → (is_of black q && d) ≡ false
nor_landed black q d e =
    elim (cases_eq q 0) [
      | inl none ↦ ap (λ n. is_of black n && d) none ∙ ap (λ x. x && d) (nor_zero_piece black)
      | inr some ↦ nor_last (is_of black q) d (sym (ap (λ x. not x && d) (ne_eqb q 0 some)) ∙ e)
    ]

pub nor_gone : (a b c : Bool) → a ≡ false → ((a && b) && c) ≡ false
nor_gone a b c e = ap (λ x. (x && b) && c) e

pub nor_out : (a b c d : Bool) → a ≡ false → c ≡ false → (((a && b) || c) && d) ≡ false
nor_out a b c d e h = ap (λ x. ((x && b) || c) && d) e ∙ ap (λ x. x && d) h

at_none : (test : ℕ → Bool) (s : ℕ) → s < 64 → (b : Bool) → test s ≡ b → some_square test ≡ false → test s ≡ false
at_none test s low true is none = absurd (let never : true ≡ false = sym (any_some 64 test s low is) ∙ none in cc)
at_none test s low false is none = is

-- No square meets the test.
pub none_at : (test other : ℕ → Bool) → some_square test ≡ false → ((s : ℕ) → test s ≡ false → other s ≡ false) → Marks 0 other
none_at test other none only s low = ap (λ n. n == 1) (bit_at-zero s) ∙ sym (only s (at_none test s low (test s) refl none))
