-- The squares on which a picture differs, one square at a time.
use Rattle.std.proofs.Common.{◌≡◌, ℕ, ◌+◌, ◌-◌, ◌/◌, ◌%◌, ◌^◌, ◌<◌, ◌≤◌, ◌==◌, List, [], ◌∷◌, ◌++◌, slice_index, refl, sym, ◌∙◌, ap, inl, inr, append-nil, append_assoc, codes, arith, zero, suc, eq-zero-or-pos, w64}
use Rattle.std.specs.Prelude.{if◌then◌else◌}
use Rattle.std.specs.List.{flat_map, range_with_len}
use Rattle.std.specs.Int.{bit_at, trailing_zeros}
use Rattle.std.proofs.lemmas.Nat.{shr-shr}
use Rattle.std.proofs.lemmas.Nat.Bits.{bit_at-trailing_zeros, bit_at-zero, bit_at_above}
use Rattle.std.proofs.lemmas.Bool.{ne_eqb}
use Rattle.std.proofs.lemmas.Bool.Decides.{eqb_tells}
use Rattle.std.proofs.lemmas.Grind.{flat_map-append}
use Rattle.chess_text.specs.Squares.{square_text}
use Rattle.settle_core.specs.Masks.{IsDiff}
use Rattle.board_listing.specs.GameLines.{differing, squares_text, waiting_words}

-- what is said of one square
abbrev pub told : List ℕ → List ℕ → ℕ → List ℕ
told stands seen s = if slice_index stands s == slice_index seen s then [] else 32 ∷ square_text s

last : (a n j : ℕ) → a + n ≡ j → range_with_len a (suc n) ≡ range_with_len a n ++ j ∷ []
last a zero j e = let same : a ≡ j = omega arith in ap (λ k. k ∷ []) same
last a (suc n) j e = ap (λ l. a ∷ l) (last (a + 1) n j (omega arith))

counting_more : (n : ℕ) → range_with_len 0 (n + 1) ≡ range_with_len 0 n ++ n ∷ []
counting_more n = let on : n + 1 ≡ suc n = omega arith in ap (range_with_len 0) on ∙ last 0 n n (omega arith)

pub differing_more : (n : ℕ) (stands seen : List ℕ) → differing (n + 1) stands seen ≡ differing n stands seen ++ told stands seen n
differing_more n stands seen = ap (flat_map (told stands seen)) (counting_more n)
    ∙ flat_map-append (told stands seen) (range_with_len 0 n) (n ∷ [])
    ∙ ap (λ text. differing n stands seen ++ text) (append-nil (told stands seen n))

-- the picture differs there
pub differs_there : (mask n : ℕ) (stands seen : List ℕ) → n < 64 → IsDiff mask stands seen → bit_at mask n ≡ 1
    → differing (n + 1) stands seen ≡ differing n stands seen ++ 32 ∷ square_text n
differs_there mask n stands seen low diff set = differing_more n stands seen
    ∙ ap (λ b. differing n stands seen ++ (if b then [] else 32 ∷ square_text n)) (ne_eqb (slice_index stands n) (slice_index seen n) ((diff n low).0 set))

-- it doesn't
pub same_there : (mask n : ℕ) (stands seen : List ℕ) → n < 64 → IsDiff mask stands seen → (bit_at mask n ≡ 1 → ⊥)
    → differing (n + 1) stands seen ≡ differing n stands seen
same_there mask n stands seen low diff clear = elim (eqb_tells (slice_index stands n) (slice_index seen n)) [
  | inl same ↦ differing_more n stands seen ∙ ap (λ b. differing n stands seen ++ (if b then [] else 32 ∷ square_text n)) same.0 ∙ append-nil (differing n stands seen)
  | inr other ↦ absurd (clear ((diff n low).1 other.1))
]

-- it doesn't on any square from n on below n + t
pub skipped : (mask n t : ℕ) (stands seen : List ℕ) → n + t ≤ 64 → IsDiff mask stands seen → ((s : ℕ) → n ≤ s → s < n + t → bit_at mask s ≡ 0)
    → differing (n + t) stands seen ≡ differing n stands seen
skipped mask n zero stands seen low diff clear = let none : n + 0 ≡ n = omega arith in ap (λ k. differing k stands seen) none
skipped mask n (suc t) stands seen low diff clear =
    let on : n + suc t ≡ n + t + 1 = omega arith in
    let here : bit_at mask (n + t) ≡ 0 = clear (n + t) (omega arith) (omega arith) in
    ap (λ k. differing k stands seen) on
    ∙ same_there mask (n + t) stands seen (omega arith) diff (λ set. let never : 0 ≡ 1 = sym here ∙ set in omega arith)
    ∙ skipped mask n t stands seen (omega arith) diff (λ s from below. clear s from (omega arith))

-- nor below m
pub skipped_to : (mask n m : ℕ) (stands seen : List ℕ) → n ≤ m → m ≤ 64 → IsDiff mask stands seen → ((s : ℕ) → n ≤ s → s < m → bit_at mask s ≡ 0)
    → differing n stands seen ≡ differing m stands seen
skipped_to mask n m stands seen from low diff clear =
    let up : n + (m - n) ≡ m = omega arith in
    sym (skipped mask n (m - n) stands seen (omega arith) diff (λ s a b. clear s a (omega arith))) ∙ ap (λ k. differing k stands seen) up

bit_shifted : (n j i : ℕ) → bit_at (n / 2 ^ j) i ≡ bit_at n (j + i)
bit_shifted n j i = ap (λ q. q % 2) (shr-shr n j i)

-- no bit is set from j on
pub clear_rest : (mask j : ℕ) → mask / 2 ^ j ≡ 0 → (s : ℕ) → j ≤ s → bit_at mask s ≡ 0
clear_rest mask j none s from =
    let up : j + (s - j) ≡ s = omega arith in
    ap (λ k. bit_at mask k) (sym up) ∙ sym (bit_shifted mask j (s - j)) ∙ ap (λ n. bit_at n (s - j)) none ∙ bit_at-zero (s - j)

shr-le : (n j : ℕ) → n / 2 ^ j ≤ n
shr-le n zero = omega arith
shr-le n (suc j) =
    let halves : n / 2 ^ 1 / 2 ^ j ≡ n / 2 ^ (1 + j) = shr-shr n 1 j in
    let on : 1 + j ≡ suc j = omega arith in
    let same : n / 2 ^ (1 + j) ≡ n / 2 ^ suc j = ap (λ k. n / 2 ^ k) on in
    omega (arith, halves, same, shr-le (n / 2 ^ 1) j)

inside : (mask k : ℕ) → mask < 2 ^ 64 → bit_at mask k ≡ 1 → k < 64
inside mask k fits set =
    elim (eq-zero-or-pos (64 - k)) [
      | inl past ↦ let clear = bit_at_above mask 64 k fits (omega arith) in let never : 0 ≡ 1 = sym clear ∙ set in omega arith
      | inr within ↦ omega arith
    ]

-- the lowest that is
pub lowest_from : (mask j : ℕ) → mask < 2 ^ 64 → 0 < mask / 2 ^ j
    → (j + trailing_zeros w64 (mask / 2 ^ j) < 64) × ((bit_at mask (j + trailing_zeros w64 (mask / 2 ^ j)) ≡ 1)
    × ((s : ℕ) → j ≤ s → s < j + trailing_zeros w64 (mask / 2 ^ j) → bit_at mask s ≡ 0))
lowest_from mask j fits some =
    let small : mask / 2 ^ j < 2 ^ 64 = omega (arith, shr-le mask j, fits) in
    let low = bit_at-trailing_zeros w64 (mask / 2 ^ j) some small in
    let set = sym (bit_shifted mask j (trailing_zeros w64 (mask / 2 ^ j))) ∙ low.1 in (
      inside mask (j + trailing_zeros w64 (mask / 2 ^ j)) fits set,
      (
        set,
        λ s from below.
            let up : j + (s - j) ≡ s = omega arith in
            ap (λ k. bit_at mask k) (sym up) ∙ sym (bit_shifted mask j (s - j)) ∙ low.2 (s - j) (omega arith),
      ),
    )

pub all_squares : (stands seen : List ℕ) → differing 64 stands seen ≡ squares_text stands seen
unfolding squares_text
all_squares stands seen = refl

-- the first squares come first
grows : (n t : ℕ) (stands seen : List ℕ) → (rest : List ℕ) × (differing (n + t) stands seen ≡ differing n stands seen ++ rest)
grows n zero stands seen =
    let none : n + 0 ≡ n = omega arith in ([], ap (λ k. differing k stands seen) none ∙ sym (append-nil (differing n stands seen)))
grows n (suc t) stands seen =
    let on : n + suc t ≡ n + t + 1 = omega arith in
    let before = grows n t stands seen in (
      before.0 ++ told stands seen (n + t),
      ap (λ k. differing k stands seen) on ∙ differing_more (n + t) stands seen ∙ ap (λ text. text ++ told stands seen (n + t)) before.1
          ∙ append_assoc (differing n stands seen) before.0 (told stands seen (n + t)),
    )

begins : (front rest text : List ℕ) (byte : ℕ) → text ≡ (front ++ byte ∷ []) ++ rest → (first : ℕ) × (more : List ℕ) × (text ≡ first ∷ more)
begins [] rest text byte is = (byte, rest, is)
begins (first ∷ front) rest text byte is = (first, (front ++ byte ∷ []) ++ rest, is)

-- some square differs
some_square : (mask : ℕ) (stands seen : List ℕ) → mask < 2 ^ 64 → 0 < mask → IsDiff mask stands seen
    → (first : ℕ) × (more : List ℕ) × (squares_text stands seen ≡ first ∷ more)
some_square mask stands seen fits some diff =
    let one : mask / 2 ^ 0 ≡ mask = omega arith in
    let low = lowest_from mask 0 fits (rw one some) in
    let k = 0 + trailing_zeros w64 (mask / 2 ^ 0) in
    let rest = grows (k + 1) (64 - (k + 1)) stands seen in
    let whole : k + 1 + (64 - (k + 1)) ≡ 64 = omega (arith, low.0) in
    let text : squares_text stands seen ≡ (differing k stands seen ++ 32 ∷ square_text k) ++ rest.0 =
    sym (all_squares stands seen) ∙ ap (λ n. differing n stands seen) (sym whole) ∙ rest.1
    ∙ ap (λ t. t ++ rest.0) (differs_there mask k stands seen low.0 diff low.1.0) in
    begins (differing k stands seen) (square_text k ++ rest.0) (squares_text stands seen) 32
    (text ∙ append_assoc (differing k stands seen) (32 ∷ square_text k) rest.0 ∙ sym (append_assoc (differing k stands seen) (32 ∷ []) (square_text k ++ rest.0)))

pub some_waiting : (mask : ℕ) (stands seen : List ℕ) → mask < 2 ^ 64 → 0 < mask → IsDiff mask stands seen
    → waiting_words (squares_text stands seen) ≡ codes "differs" ++ squares_text stands seen
some_waiting mask stands seen fits some diff =
    let found = some_square mask stands seen fits some diff in
    ap waiting_words found.2 ∙ ap (λ text. codes "differs" ++ text) (sym found.2)

-- none does
pub no_square : (stands seen : List ℕ) → IsDiff 0 stands seen → squares_text stands seen ≡ []
no_square stands seen diff =
    sym (all_squares stands seen) ∙ sym (skipped_to 0 0 64 stands seen (omega arith) (omega arith) diff (λ s from below. bit_at-zero s))

-- one more behind a text that was added
pub more_added : (front l l' a b : List ℕ) → l ≡ front ++ a → l' ≡ l ++ b → l' ≡ front ++ (a ++ b)
more_added front l l' a b e e' = e' ∙ ap (λ text. text ++ b) e ∙ append_assoc front a b

-- a line that was added behind its offset
pub line_added : (l0 l1 l2 offset space words end : List ℕ) → l1 ≡ l0 ++ offset ++ space → l2 ≡ l1 ++ (words ++ end)
    → l2 ≡ l0 ++ (offset ++ space ++ words ++ end)
line_added l0 l1 l2 offset space words end e1 e2 =
    more_added l0 l1 l2 (offset ++ space) (words ++ end) (e1 ∙ append_assoc l0 offset space) e2
    ∙ ap (λ text. l0 ++ text) (sym (append_assoc (offset ++ space) words end))

-- Texts that are added one behind the other, and the line that they make.
pub words_added : (l0 l1 l2 l3 l4 l5 l6 l7 l8 offset space word number san clock end : List ℕ)
    → l1 ≡ l0 ++ offset ++ space → l2 ≡ l1 ++ word → l3 ≡ l2 ++ space → l4 ≡ l3 ++ number → l5 ≡ l4 ++ space → l6 ≡ l5 ++ san → l7 ≡ l6 ++ clock → l8 ≡ l7 ++ end
    → l8 ≡ l0 ++ (offset ++ space ++ (word ++ space ++ number ++ space ++ san ++ clock) ++ end)
words_added l0 l1 l2 l3 l4 l5 l6 l7 l8 offset space word number san clock end e1 e2 e3 e4 e5 e6 e7 e8 =
    let t3 = more_added l1 l2 l3 word space e2 e3 in
    let t4 = more_added l1 l3 l4 (word ++ space) number t3 e4 in
    let t5 = more_added l1 l4 l5 (word ++ space ++ number) space t4 e5 in
    let t6 = more_added l1 l5 l6 (word ++ space ++ number ++ space) san t5 e6 in
    let t7 = more_added l1 l6 l7 (word ++ space ++ number ++ space ++ san) clock t6 e7 in
    let here : l1 ≡ l0 ++ (offset ++ space) = e1 ∙ append_assoc l0 offset space in
    let all = more_added l0 l1 l7 (offset ++ space) (word ++ space ++ number ++ space ++ san ++ clock) here t7 in
    more_added l0 l7 l8 (offset ++ space ++ (word ++ space ++ number ++ space ++ san ++ clock)) end all e8
