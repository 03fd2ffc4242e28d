-- The codes of a dump that lies whole.
use Rattle.std.proofs.Common.{◌≡◌, ℕ, ◌+◌, ◌*◌, ◌<◌, ◌≤◌, ◌%◌, ◌^◌, Bool, cond, leb, List, [], ◌∷◌, map, replicate, length, take, drop, slice_index, refl, inl, inr, sym, ap, ◌∙◌, arith}
use Rattle.std.specs.List.{AllByRecursion}
use Rattle.std.proofs.lemmas.Bool.{cases_lt, le-leb}
use Rattle.std.proofs.lemmas.List.{length-map}
use Rattle.std.proofs.lemmas.Simd.{map-map, mask_l-mod, zip2_splat_left}
use lib.Lanes.{zip2, mask_l, top}
use Rattle.dgt_frame.specs.Frames.{IsCode}

abbrev lane : ℕ → ℕ → ℕ
lane a b = cond (leb a b) 255 0

-- whether the lane of a byte has its bit set
abbrev over : ℕ → Bool
over y = top 7 (lane 16 y)

abbrev bit_of : Bool → ℕ
bit_of t = cond t 1 0

abbrev bit : ℕ → ℕ
bit y = bit_of (over y)

code_low : (x : ℕ) → bit x ≡ 0 → x < 16
code_low x e =
    elim (cases_lt x 16) [
      | inl low ↦ low
      | inr high ↦ absurd (let one : bit x ≡ 1 = ap (λ (t : Bool). bit_of (top 7 (cond t 255 0))) (le-leb 16 x high) in omega arith)
    ]

codes_low : (xs : List ℕ) → mask_l (map over xs) ≡ 0 → AllByRecursion IsCode xs
codes_low [] e = tt
codes_low (x ∷ xs) e =
    let sum : bit x + 2 * mask_l (map over xs) ≡ 0 = e in
    let here : bit x ≡ 0 = omega arith in
    let rest : mask_l (map over xs) ≡ 0 = omega arith in
    (code_low x here, codes_low xs rest)

-- where no lane is over, each is a code
pub codes_from_mask :
    (xs : List ℕ) → length xs ≡ 64 → mask_l (map (top 7) (zip2 lane (replicate 64 16) xs)) % 2 ^ 64 ≡ 0 → AllByRecursion IsCode xs
codes_from_mask xs long e =
    let lanes = ap (λ l. mask_l (map (top 7) l) % 2 ^ 64) (zip2_splat_left lane 16 64 xs long) in
    let joined = ap (λ l. mask_l l % 2 ^ 64) (map-map (top 7) (lane 16) xs) in
    let fits = mask_l-mod (map over xs) 64 (omega (arith, length-map xs over, long)) in
    codes_low xs (sym fits ∙ sym joined ∙ sym lanes ∙ e)

-- three bytes and 64 more
pub front_dump :
    (bytes : List ℕ) → 67 ≤ length bytes → slice_index bytes 0 ≡ 0x86 → slice_index bytes 1 ≡ 0 → slice_index bytes 2 ≡ 67
    → take 67 bytes ≡ 0x86 ∷ 0 ∷ 67 ∷ take 64 (drop 3 bytes)
front_dump [] long a b c = absurd (omega arith)
front_dump (x ∷ []) long a b c = absurd (omega arith)
front_dump (x ∷ y ∷ []) long a b c = absurd (omega arith)
front_dump (x ∷ y ∷ z ∷ rest) long a b c = rw (a, b, c) refl
