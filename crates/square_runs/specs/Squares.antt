-- Squares 0 to 63, and their masks.
use Rattle.std.specs.Prelude.{◌≡◌, ◌<◌, ℕ, zero, suc, ◌==◌, ◌||◌, Bool, false, Option, None, if◌then◌else◌}
use Rattle.std.specs.Int.{bit_at}
use Rattle.square_runs.specs.Lasting.{earlier}

-- some square below n
unfoldable pub any_below : ℕ → (ℕ → Bool) → Bool
any_below zero test = false
any_below (suc n) test = test n || any_below n test

abbrev pub some_square : (ℕ → Bool) → Bool
some_square test = any_below 64 test

-- the earliest of the times of the squares below n
unfoldable pub first_below : ℕ → (ℕ → Option ℕ) → Option ℕ
first_below zero time = None
first_below (suc n) time = earlier (first_below n time) (time n)

abbrev pub first_of : (ℕ → Option ℕ) → Option ℕ
first_of time = first_below 64 time

-- the earliest of the times of the squares that meet a test
abbrev pub first_where : (ℕ → Bool) → (ℕ → Option ℕ) → Option ℕ
first_where test time = first_of (λ s. if test s then time s else None)

-- The mask has just the squares of a test.
abbrev pub Marks : ℕ → (ℕ → Bool) → Type 0
Marks mask test = (s : ℕ) → s < 64 → (bit_at mask s == 1) ≡ test s
