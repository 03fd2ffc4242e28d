-- What holds of a test of two parts.
use Rattle.std.proofs.Common.{◌≡◌, refl, Bool, true, false, ◌||◌}

pub true_or : (a b : Bool) → b ≡ true → (a || b) ≡ true
true_or true b h = refl
true_or false b h = h
