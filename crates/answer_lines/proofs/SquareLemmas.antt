-- The squares of a mask.
use Rattle.std.proofs.Common.{◌≡◌, ◌≢◌, ◌<◌, ◌≤◌, ◌+◌, ◌-◌, ◌*◌, ◌/◌, ◌%◌, ◌^◌, ◌==◌, ◌&&◌, ◌||◌, not, ℕ, zero, suc, Bool, true, false, List, [], ◌∷◌, ◌++◌, refl, sym, ap, ◌∙◌, inl, inr, arith}
use Rattle.std.specs.Prelude.{if◌then◌else◌}
use Rattle.std.specs.Int.{bit_at}
use Rattle.std.proofs.lemmas.Bool.{cases_eq, eq-eqb, ne_eqb}
use Rattle.std.proofs.lemmas.List.{append_assoc, append-nil}
use Rattle.std.proofs.lemmas.Nat.Bits.{bit_at-lt, same_from_bits_below}
use Rattle.answer_lines.specs.Answers.{square_text, squares_below}
use Rattle.answer_lines.specs.Laws.{lacks}
use Rattle.answer_lines.proofs.CutLemmas.{lacks_append}

pub none_below : (text : List ℕ) (mask : ℕ) → text ≡ text ++ squares_below 0 mask
unfolding squares_below
none_below text mask = sym (append-nil text)

abbrev one_of : ℕ → ℕ → List ℕ
one_of n mask = if bit_at mask n == 1 then square_text n else []

next : (n : ℕ) → suc n ≡ n + 1
next n = omega arith

pub one_more : (n mask : ℕ) (front text new : List ℕ) → text ≡ front ++ squares_below n mask → new ≡ text ++ one_of n mask
    → new ≡ front ++ squares_below (n + 1) mask
unfolding squares_below
one_more n mask front text new e f =
    f ∙ ap (λ t. t ++ one_of n mask) e ∙ append_assoc front (squares_below n mask) (one_of n mask)
    ∙ ap (λ k. front ++ squares_below k mask) (next n)

-- squares by their names
place : ℕ → ℕ → ℕ
place file rank = (file - 97) + 8 * (56 - rank)

place_is : (n : ℕ) → n < 64 → place (97 + n % 8) (56 - n / 8) ≡ n
unfolding place
place_is n low = omega (arith, low)

-- whether a square is named
has : ℕ → List ℕ → Bool
has s [] = false
has s (a ∷ []) = false
has s (a ∷ b ∷ []) = false
has s (a ∷ b ∷ c ∷ text) = place b c == s || has s text

below : (n : ℕ) → suc n ≤ 64 → n ≤ 64
below n h = omega (arith, h)

within : (n : ℕ) → suc n ≤ 64 → n < 64
within n h = omega (arith, h)

another : (s n : ℕ) (b : Bool) (text : List ℕ) → n < 64 → n ≢ s → has s ((if b then square_text n else []) ++ text) ≡ has s text
unfolding has
another s n true text low ne = ap (λ k. k == s || has s text) (place_is n low) ∙ ap (λ b. b || has s text) (ne_eqb n s ne)
another s n false text low ne = refl

this : (n : ℕ) (b : Bool) (text : List ℕ) → n < 64 → has n text ≡ false → has n ((if b then square_text n else []) ++ text) ≡ b
unfolding has
this n true text low none = ap (λ k. k == n || has n text) (place_is n low) ∙ ap (λ b. b || has n text) (eq-eqb n n refl)
this n false text low none = none

apart : (s n : ℕ) → suc n ≤ s → n ≢ s
apart s n h e = omega (arith, h, e)

lower : (s n : ℕ) → suc n ≤ s → n ≤ s
lower s n h = omega (arith, h)

-- a square behind those that are named
above : (s n mask : ℕ) (text : List ℕ) → n ≤ 64 → n ≤ s → has s (squares_below n mask ++ text) ≡ has s text
unfolding squares_below
above s zero mask text low high = refl
above s (suc n) mask text low high =
    ap (has s) (append_assoc (squares_below n mask) (one_of n mask) text)
    ∙ above s n mask (one_of n mask ++ text) (below n low) (lower s n high)
    ∙ another s n (bit_at mask n == 1) text (within n low) (apart s n high)

nearer : (s n : ℕ) → s < suc n → n ≢ s → s < n
nearer s n h ne = omega (arith, h, ne)

same_high : (s n : ℕ) → n ≡ s → n ≤ s
same_high s n e = omega (arith, e)

no_low : (s : ℕ) → s < 0 → ⊥
no_low s h = omega (arith, h)

this_at : (s n mask : ℕ) (text : List ℕ) → n < 64 → n ≡ s → has s text ≡ false → has s (one_of n mask ++ text) ≡ (bit_at mask s == 1)
this_at s n mask text low e none =
    ap (λ k. has k (one_of n mask ++ text)) (sym e) ∙ this n (bit_at mask n == 1) text low (ap (λ k. has k text) e ∙ none)
    ∙ ap (λ k. bit_at mask k == 1) e

among : (s n mask : ℕ) (text : List ℕ) → n ≤ 64 → s < n → has s text ≡ false → has s (squares_below n mask ++ text) ≡ (bit_at mask s == 1)
unfolding squares_below
among s zero mask text low high none = absurd (no_low s high)
among s (suc n) mask text low high none =
    ap (has s) (append_assoc (squares_below n mask) (one_of n mask) text)
    ∙ elim (cases_eq n s) [
      | inl e ↦ above s n mask (one_of n mask ++ text) (below n low) (same_high s n e) ∙ this_at s n mask text (within n low) e none
      | inr ne ↦ among s n mask (one_of n mask ++ text) (below n low) (nearer s n high ne)
          (another s n (bit_at mask n == 1) text (within n low) ne ∙ none)
    ]

bits : (x y : ℕ) → x < 2 → y < 2 → (x == 1) ≡ (y == 1) → x ≡ y
bits x y a b h = grind (arith, h)

-- A mask is known by its squares.
pub same_mask : (a b : ℕ) → a < 2 ^ 64 → b < 2 ^ 64 → squares_below 64 a ≡ squares_below 64 b → a ≡ b
unfolding has
same_mask a b f g e =
    let all : 64 ≤ 64 = omega arith in
    same_from_bits_below 64 a b f g (λ s low.
    bits (bit_at a s) (bit_at b s) (bit_at-lt a s) (bit_at-lt b s)
    (sym (among s 64 a [] all low refl) ∙ ap (λ t. has s (t ++ [])) e ∙ among s 64 b [] all low refl))

-- What no square's name has, no list of them has.
one_lacks : (c n : ℕ) (b : Bool) → lacks c (square_text n) ≡ true → lacks c (if b then square_text n else []) ≡ true
one_lacks c n true h = h
one_lacks c n false h = refl

pub squares_lack : (c n mask : ℕ) → ((s : ℕ) → s < 64 → lacks c (square_text s) ≡ true) → n ≤ 64 → lacks c (squares_below n mask) ≡ true
unfolding squares_below
squares_lack c zero mask h low = refl
squares_lack c (suc n) mask h low =
    lacks_append c (squares_below n mask) (one_of n mask) (squares_lack c n mask h (below n low)) (one_lacks c n (bit_at mask n == 1) (h n (within n low)))

all_differ : (c x y z : ℕ) → x ≢ c → y ≢ c → z ≢ c → lacks c (x ∷ y ∷ z ∷ []) ≡ true
all_differ c x y z f g h =
    ap (λ b. not b && lacks c (y ∷ z ∷ [])) (ne_eqb x c f) ∙ ap (λ b. not b && lacks c (z ∷ [])) (ne_eqb y c g)
    ∙ ap (λ b. not b && true) (ne_eqb z c h)

blank_not_low : (c : ℕ) → c < 32 → 32 ≢ c
blank_not_low c h e = omega (arith, h, e)

blank_not_high : (c : ℕ) → 56 < c → 32 ≢ c
blank_not_high c h e = omega (arith, h, e)

file_not : (c s : ℕ) → c < 97 → 97 + s % 8 ≢ c
file_not c s h e = omega (arith, h, e)

rank_not_low : (c s : ℕ) → c < 32 → s < 64 → 56 - s / 8 ≢ c
rank_not_low c s h low e = omega (arith, h, low, e)

rank_not_high : (c s : ℕ) → 56 < c → s < 64 → 56 - s / 8 ≢ c
rank_not_high c s h low e = omega (arith, h, low, e)

low_file : (c : ℕ) → c < 32 → c < 97
low_file c h = omega (arith, h)

pub lacks_low : (c s : ℕ) → c < 32 → s < 64 → lacks c (square_text s) ≡ true
lacks_low c s h low =
    all_differ c 32 (97 + s % 8) (56 - s / 8) (blank_not_low c h) (file_not c s (low_file c h)) (rank_not_low c s h low)

pub lacks_high : (c s : ℕ) → 56 < c → c < 97 → s < 64 → lacks c (square_text s) ≡ true
lacks_high c s h g low =
    all_differ c 32 (97 + s % 8) (56 - s / 8) (blank_not_high c h) (file_not c s g) (rank_not_high c s h low)
