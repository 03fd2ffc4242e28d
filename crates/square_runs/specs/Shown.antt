-- What was shown, and since when. Pictures are listed with the latest first.
use Rattle.std.specs.Prelude.{ℕ, ◌==◌, Bool, List, [], ◌∷◌, Option, None}
use Rattle.std.specs.Int.{bit_at}
use Rattle.square_runs.specs.Lasting.{carry, has_lasted}

-- A picture: the time at which it was shown, and its squares. It stands until the next one is shown.
pub record Shown : Type 0 where
  pub time : ℕ
  pub squares : ℕ

abbrev pub shown : ℕ → ℕ → Shown
shown time squares = record { time = time; squares = squares }

-- A test of a picture, which may look at those before it.
abbrev pub Test : Type 0
Test = Shown → List Shown → Bool

-- The picture has this square.
abbrev pub has : ℕ → Test
has s picture before = bit_at picture.squares s == 1

-- since when the last pictures have met a test without a break: the time of the earliest of them
abbrev pub since_when : Test → List Shown → Option ℕ
since_when test [] = None
since_when test (picture ∷ before) = carry (test picture before) picture.time (since_when test before)

-- The last pictures have met a test for this time.
abbrev pub has_held : Test → ℕ → ℕ → List Shown → Bool
has_held test span now past = has_lasted span now (since_when test past)
