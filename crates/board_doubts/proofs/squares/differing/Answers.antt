use Rattle.std.proofs.Common.{◌≡◌, ◌<◌, ◌==◌, ◌%◌, ◌^◌, ℕ, Bool, true, false, List, cond, not, length, get_or, refl, ap, w8, ◌∙◌, arith}
use Rattle.std.proofs.lemmas.Simd.{bit_mask_l, get_or-zip2, length-zip2, mask_l-mod, tops_compared}
use Rattle.std.specs.Int.{bit_at}
use Rattle.std.specs.Simd.Lanes.{mask_l, zip2}
use Rattle.board_doubts.proofs.squares.differing.Goals as goal

abbrev differ : ℕ → ℕ → Bool
differ x y = not (x == y)

one_if : (t : Bool) → (cond t 1 0 == 1) ≡ t
one_if true = refl
one_if false = refl

marked : (xs ys : List ℕ) (s mask : ℕ) → length xs ≡ 64 → length ys ≡ 64 → mask ≡ mask_l (zip2 differ xs ys) % 2 ^ 64 → s < 64
    → (bit_at mask s == 1) ≡ not (get_or xs s 0 == get_or ys s 0)
marked xs ys s mask a b e low =
    let size : length (zip2 differ xs ys) ≡ 64 = length-zip2 differ xs ys (rw a (rw b refl)) ∙ a in
    let same : mask ≡ mask_l (zip2 differ xs ys) = e ∙ mask_l-mod (zip2 differ xs ys) 64 (omega (arith, size)) in
    ap (λ (m : ℕ). bit_at m s == 1) same
    ∙ ap (λ (n : ℕ). n == 1) (bit_mask_l (zip2 differ xs ys) s)
    ∙ one_if _
    ∙ get_or-zip2 differ xs ys s 0 0 false (rw a low) (rw b low)

pub returns : goal.returns
returns c s low =
    marked c.args.picture.now c.args.position.now s _ c.told-picture c.told-position
    (ap (λ bs. mask_l bs % 2 ^ 64) (tops_compared w8 differ c.args.picture.now c.args.position.now)) low
