-- The times of plies, as they are kept.
use Rattle.std.proofs.Common.{◌≡◌, ◌≢◌, ℕ, zero, suc, ◌+◌, ◌*◌, ◌==◌, ◌&&◌, Bool, List, [], ◌∷◌, take, length, refl, ap, ◌∙◌, arith}
use Rattle.std.specs.Prelude.{cond, count_by, fold, is_some, nat_le, if◌then◌else◌}
use Rattle.std.proofs.lemmas.Bool.{ne_eqb}
use Rattle.board_doubts.specs.Keeping.{is_within, padded}
use Rattle.board_doubts.specs.Pace.{fits_by, quickest, usual}

no_known : (n a : ℕ) → fold (λ a x. a + cond (is_some x) 1 0) a (padded n []) ≡ a
no_known zero a = refl
no_known (suc n) a = no_known n (a + 0) ∙ omega arith

known_from : (n a : ℕ) (times : List ℕ) → fold (λ a x. a + cond (is_some x) 1 0) a (padded n times) ≡ a + length (take n times)
known_from zero a times = omega arith
known_from (suc n) a [] = no_known n (a + 0) ∙ omega arith
known_from (suc n) a (time ∷ times) = known_from n (a + 1) times ∙ omega arith

-- of the kept times so many are known
pub known : (n : ℕ) (times : List ℕ) → count_by is_some (padded n times) ≡ length (take n times)
known n times = known_from n 0 times ∙ omega arith

none_within : (n a limit : ℕ) → fold (λ a x. a + cond (is_within limit x) 1 0) a (padded n []) ≡ a
none_within zero a limit = refl
none_within (suc n) a limit = none_within n (a + 0) limit ∙ omega arith

within_from : (n a limit : ℕ) (times : List ℕ)
    → fold (λ a x. a + cond (is_within limit x) 1 0) a (padded n times) ≡ fold (λ a x. a + cond (nat_le x limit) 1 0) a (take n times)
within_from zero a limit times = refl
within_from (suc n) a limit [] = none_within n (a + 0) limit ∙ omega arith
within_from (suc n) a limit (time ∷ times) = within_from n (a + cond (nat_le time limit) 1 0) limit times

-- and so many are within a limit
pub within : (n limit : ℕ) (times : List ℕ) → count_by (is_within limit) (padded n times) ≡ count_by (λ ply. nat_le ply limit) (take n times)
within n limit times = within_from n 0 limit times

-- with plies or without
by_count : (n time : ℕ) (some : Bool) → (if suc n == 0 then nat_le usual time else some) ≡ some
by_count n time some = let more : suc n ≢ 0 = omega arith in ap (λ b. if b then nat_le usual time else some) (ne_eqb (suc n) 0 more)

pub room : (time : ℕ) (plies : List ℕ)
    → (if length plies == 0 then nat_le usual time else nat_le quickest time && nat_le (length plies) (2 * count_by (λ ply. nat_le ply time) plies)) ≡ fits_by time plies
room time [] = refl
room time (ply ∷ plies) =
    by_count (length plies) time (nat_le quickest time && nat_le (suc (length plies)) (2 * count_by (λ ply. nat_le ply time) (ply ∷ plies)))
