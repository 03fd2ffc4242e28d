-- How often a code shows.
use Rattle.std.proofs.Common.{◌≡◌, ◌≢◌, ◌<◌, ◌≤◌, ◌+◌, ◌==◌, ℕ, zero, suc, Bool, inl, inr, List, [], ◌∷◌, cond, get_or, length, refl, sym, ap, subst, ◌∙◌, arith}
use Rattle.std.proofs.lemmas.Bool.{cases_eq, cases_lt, eq-eqb}
use Rattle.std.proofs.lemmas.Bool.Decides.{eqb_tells}
use Rattle.std.proofs.lemmas.List.{get_or_past}
use Rattle.std.proofs.lemmas.List.Sums.{sum_by-cons}
use Rattle.unseen_pairs.specs.Inside.Waiting.{IsBackOn}
use Rattle.unseen_pairs.specs.Pairs.{IsMissedIn, times_shown}

-- how often a code shows on one square
abbrev one : ℕ → ℕ → ℕ
one c x = cond (x == c) 1 0

times-cons : (c x : ℕ) (xs : List ℕ) → times_shown c (x ∷ xs) ≡ one c x + times_shown c xs
times-cons c x xs = sum_by-cons (λ y. cond (y == c) 1 0) x xs

one_yes : (c x : ℕ) → x ≡ c → one c x ≡ 1
one_yes c x e = ap (λ (b : Bool). cond b 1 0) (eq-eqb x c e)

one_no : (c x : ℕ) → x ≢ c → one c x ≡ 0
one_no c x ne = elim (eqb_tells x c) [ inl same ↦ absurd (ne same.1) | inr other ↦ ap (λ (b : Bool). cond b 1 0) other.0 ]

one_le : (c x y : ℕ) → (x ≡ c → y ≡ c) → one c x ≤ one c y
one_le c x y h =
    elim (cases_eq x c) [
      | inl e ↦ let a : one c x ≡ 1 = one_yes c x e in let b : one c y ≡ 1 = one_yes c y (h e) in omega arith
      | inr ne ↦ let a : one c x ≡ 0 = one_no c x ne in omega arith
    ]

-- a code that shows wherever it shows on another picture shows no less often
pub times_le : (c : ℕ) (xs ys : List ℕ) → c ≢ 0 → ((i : ℕ) → get_or xs i 0 ≡ c → get_or ys i 0 ≡ c) → times_shown c xs ≤ times_shown c ys
times_le c [] ys ne h = omega arith
times_le c (x ∷ xs) [] ne h =
    let a : one c x ≡ 0 = one_no c x (λ e. ne (sym (h 0 e))) in
    let b : times_shown c xs ≤ times_shown c [] = times_le c xs [] ne (λ i e. h (suc i) e) in
    let all : times_shown c (x ∷ xs) ≡ one c x + times_shown c xs = times-cons c x xs in
    omega arith
times_le c (x ∷ xs) (y ∷ ys) ne h =
    let a : one c x ≤ one c y = one_le c x y (h 0) in
    let b : times_shown c xs ≤ times_shown c ys = times_le c xs ys ne (λ i e. h (suc i) e) in
    let all : times_shown c (x ∷ xs) ≡ one c x + times_shown c xs = times-cons c x xs in
    let other : times_shown c (y ∷ ys) ≡ one c y + times_shown c ys = times-cons c y ys in
    omega arith

-- and less often where it misses on a square
pub times_less :
    (c : ℕ) (xs ys : List ℕ) (n : ℕ)
    → c ≢ 0 → ((i : ℕ) → get_or xs i 0 ≡ c → get_or ys i 0 ≡ c) → get_or ys n 0 ≡ c → get_or xs n 0 ≢ c → times_shown c xs < times_shown c ys
times_less c xs [] n ne h on off = absurd (ne (sym on))
times_less c [] (y ∷ ys) zero ne h on off =
    let b : one c y ≡ 1 = one_yes c y on in
    let other : times_shown c (y ∷ ys) ≡ one c y + times_shown c ys = times-cons c y ys in
    let none : times_shown c [] ≡ 0 = refl in
    omega arith
times_less c [] (y ∷ ys) (suc n) ne h on off =
    let b : times_shown c [] < times_shown c ys = times_less c [] ys n ne (λ i e. h (suc i) e) on off in
    let other : times_shown c (y ∷ ys) ≡ one c y + times_shown c ys = times-cons c y ys in
    omega arith
times_less c (x ∷ xs) (y ∷ ys) zero ne h on off =
    let a : one c x ≡ 0 = one_no c x off in
    let b : one c y ≡ 1 = one_yes c y on in
    let r : times_shown c xs ≤ times_shown c ys = times_le c xs ys ne (λ i e. h (suc i) e) in
    let all : times_shown c (x ∷ xs) ≡ one c x + times_shown c xs = times-cons c x xs in
    let other : times_shown c (y ∷ ys) ≡ one c y + times_shown c ys = times-cons c y ys in
    omega arith
times_less c (x ∷ xs) (y ∷ ys) (suc n) ne h on off =
    let a : one c x ≤ one c y = one_le c x y (h 0) in
    let r : times_shown c xs < times_shown c ys = times_less c xs ys n ne (λ i e. h (suc i) e) on off in
    let all : times_shown c (x ∷ xs) ≡ one c x + times_shown c xs = times-cons c x xs in
    let other : times_shown c (y ∷ ys) ≡ one c y + times_shown c ys = times-cons c y ys in
    omega arith

zero_not : (c : ℕ) → 0 < c → c ≢ 0
zero_not c low e = omega arith

-- where no piece is back on any square, none is
pub no_back :
    (before left seen : List ℕ)
    → length seen ≡ 64 → ((s : ℕ) → s < 64 → ¬ IsBackOn before left seen s) → ¬ IsMissedIn before left seen
no_back before left seen long none h =
    let c : ℕ = h.code in
    let le : times_shown c seen ≤ times_shown c left =
    times_le c seen left (zero_not c h.some)
    (λ i e.
    elim (cases_eq (get_or left i 0) c) [
      | inl same ↦ same
      | inr ne ↦
          elim (cases_lt i 64) [
            | inr past ↦ absurd (zero_not c h.some (sym e ∙ get_or_past seen i 0 (rw long past)))
            | inl low ↦
                absurd (none i low (record {
                  some = λ z. zero_not c h.some (sym e ∙ z);
                  new = λ z. ne (sym z ∙ e);
                  taken = subst (λ n. times_shown n left < times_shown n before) (sym e) h.taken;
                  shown = subst (λ n. times_shown n left < times_shown n seen) (sym e) h.shown;
                }))
          ]
    ]) in
    let more : times_shown c left < times_shown c seen = h.shown in
    omega arith

some_back : (n : ℕ) → n ≢ 0 → 0 < n
some_back n ne = omega arith

pub back_on : (before left seen : List ℕ) (s : ℕ) → IsBackOn before left seen s → IsMissedIn before left seen
back_on before left seen s h = record {
  code = get_or seen s 0;
  some = some_back (get_or seen s 0) h.some;
  taken = h.taken;
  shown = h.shown;
}
