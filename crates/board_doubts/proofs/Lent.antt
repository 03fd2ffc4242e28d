-- Plies that were thought about on the other side's time, as they are kept.
use Rattle.std.proofs.Common.{◌≡◌, ℕ, zero, suc, ◌+◌, Bool, List, [], ◌∷◌, take, refl, ◌∙◌, arith}
use Rattle.std.specs.Prelude.{cond, count_by, fold}
use Rattle.board_doubts.specs.Keeping.{filled}

none_filled : (n a : ℕ) → fold (λ a x. a + cond x 1 0) a (filled n []) ≡ a
none_filled zero a = refl
none_filled (suc n) a = none_filled n (a + 0) ∙ omega arith

counted_from : (n a : ℕ) (plies : List Bool) → fold (λ a x. a + cond x 1 0) a (filled n plies) ≡ fold (λ a x. a + cond x 1 0) a (take n plies)
counted_from zero a plies = refl
counted_from (suc n) a [] = none_filled n (a + 0) ∙ omega arith
counted_from (suc n) a (ply ∷ plies) = counted_from n (a + cond ply 1 0) plies

pub counted : (n : ℕ) (plies : List Bool) → count_by (λ one. one) (filled n plies) ≡ count_by (λ one. one) (take n plies)
counted n plies = counted_from n 0 plies
