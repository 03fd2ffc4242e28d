-- Texts that are cut at their first blank or line feed, and numbers in them.
use Rattle.std.proofs.Common.{◌≡◌, ◌<◌, ◌≤◌, ◌^◌, ◌&&◌, ◌==◌, not, ℕ, true, false, List, [], ◌∷◌, ◌++◌, decimal, refl, sym, ap, ◌∙◌, inl, inr, arith}
use Rattle.std.specs.Str.Parse.{AllDigits}
use Rattle.std.specs.Char.{digit_value}
use Rattle.std.proofs.lemmas.Bool.{and_parts, cases_eq, eq-eqb, ne_eqb}
use Rattle.std.proofs.lemmas.Fmt.{decimal_is_IsNumeral}
use Rattle.answer_lines.specs.Laws.{lacks}

head_or : ℕ → List ℕ → ℕ
head_or n [] = n
head_or n (x ∷ xs) = x

rest_of : List ℕ → List ℕ
rest_of [] = []
rest_of (x ∷ xs) = xs

head_eq : (x y : ℕ) (xs ys : List ℕ) → x ∷ xs ≡ y ∷ ys → x ≡ y
unfolding head_or
head_eq x y xs ys e = ap (head_or x) e

rest_eq : (x y : ℕ) (xs ys : List ℕ) → x ∷ xs ≡ y ∷ ys → xs ≡ ys
unfolding rest_of
rest_eq x y xs ys e = ap rest_of e

-- a byte that a text lacks is not its first
pub not_first : (s x : ℕ) (xs : List ℕ) → lacks s (x ∷ xs) ≡ true → s ≡ x → ⊥
not_first s x xs h e =
    let both = and_parts (not (x == s)) (lacks s xs) h in
    let never : false ≡ true = sym (ap not (eq-eqb x s (sym e))) ∙ both.0 in cc

-- A text is cut at its first separator in one way.
pub cut_once : (s : ℕ) (a b c d : List ℕ) → lacks s a ≡ true → lacks s c ≡ true → a ++ s ∷ b ≡ c ++ s ∷ d → (a ≡ c) × (b ≡ d)
cut_once s [] b [] d h k e = (refl, rest_eq s s b d e)
cut_once s [] b (y ∷ c) d h k e = absurd (not_first s y c k (head_eq s y b (c ++ s ∷ d) e))
cut_once s (x ∷ a) b [] d h k e = absurd (not_first s x a h (sym (head_eq x s (a ++ s ∷ b) d e)))
cut_once s (x ∷ a) b (y ∷ c) d h k e =
    let left = and_parts (not (x == s)) (lacks s a) h in
    let right = and_parts (not (y == s)) (lacks s c) k in
    let same = head_eq x y (a ++ s ∷ b) (c ++ s ∷ d) e in
    let more = cut_once s a b c d left.1 right.1 (rest_eq x y (a ++ s ∷ b) (c ++ s ∷ d) e) in (
      ap (λ z. z ∷ a) same ∙ ap (λ zs. y ∷ zs) more.0,
      more.1,
    )

pub lacks_append : (s : ℕ) (a b : List ℕ) → lacks s a ≡ true → lacks s b ≡ true → lacks s (a ++ b) ≡ true
lacks_append s [] b h k = k
lacks_append s (x ∷ a) b h k =
    let both = and_parts (not (x == s)) (lacks s a) h in
    ap (λ p. p && lacks s (a ++ b)) both.0 ∙ lacks_append s a b both.1 k

too_high : (x y : ℕ) → x ≡ y → x < 10 → 10 ≤ y → ⊥
too_high x y e low high = omega (arith, e, low, high)

lacks_digits : (s : ℕ) (digits : List ℕ) → 10 ≤ digit_value s → AllDigits 10 digits → lacks s digits ≡ true
lacks_digits s [] high all = refl
lacks_digits s (c ∷ digits) high all =
    elim (cases_eq c s) [
      | inl e ↦ absurd (too_high (digit_value c) (digit_value s) (ap digit_value e) all.0 high)
      | inr ne ↦ ap (λ b. not b && lacks s digits) (ne_eqb c s ne) ∙ lacks_digits s digits high all.1
    ]

pub decimal_lacks_blank : (n : ℕ) → n < 2 ^ 64 → lacks 32 (decimal n) ≡ true
decimal_lacks_blank n fits = lacks_digits 32 (decimal n) (let high : 10 ≤ 36 = omega arith in high) (decimal_is_IsNumeral n fits).0.1

pub decimal_lacks_feed : (n : ℕ) → n < 2 ^ 64 → lacks 10 (decimal n) ≡ true
decimal_lacks_feed n fits = lacks_digits 10 (decimal n) (let high : 10 ≤ 36 = omega arith in high) (decimal_is_IsNumeral n fits).0.1

pub decimal_lacks_dash : (n : ℕ) → n < 2 ^ 64 → lacks 45 (decimal n) ≡ true
decimal_lacks_dash n fits = lacks_digits 45 (decimal n) (let high : 10 ≤ 36 = omega arith in high) (decimal_is_IsNumeral n fits).0.1

-- What stands in front lacks it: the rest says whether the whole does.
pub lacks_front : (c : ℕ) (a text : List ℕ) → lacks c a ≡ true → lacks c (a ++ text) ≡ lacks c text
lacks_front c [] text h = refl
lacks_front c (x ∷ a) text h =
    let both = and_parts (not (x == c)) (lacks c a) h in
    ap (λ p. p && lacks c (a ++ text)) both.0 ∙ lacks_front c a text both.1
