-- What pictures have shown apart from the game's position. Pictures are listed with the latest first.
use Rattle.std.specs.Prelude.{ℕ, ◌&&◌, ◌||◌, not, Bool, false, List, [], ◌∷◌, if◌then◌else◌}
use Rattle.square_runs.specs.Shown.{Shown, has, has_held, shown}
use Rattle.square_runs.specs.Squares.{some_square}

-- A picture: when it came, since when its pieces may have stood there, to which squares pieces of the side to move and of the
-- side that moved last may have gone, where other pieces stand elsewhere, and whether the piece that moved last is off.
pub record Laid : Type 0 where
  pub time : ℕ
  pub since : ℕ
  pub own : ℕ
  pub others : ℕ
  pub astray : ℕ
  pub is_off : Bool

-- squares of one kind, in each picture
abbrev pub Squares : Type 0
Squares = Laid → ℕ

-- where pieces of the side to move stand
abbrev pub own : Squares
own picture = picture.own

-- where those of the side that moved last do
abbrev pub others : Squares
others picture = picture.others

-- where pieces of either side stand elsewhere that can't have gone there at once
abbrev pub astray : Squares
astray picture = picture.astray

-- where those of the side that moved last stand while the piece that moved last is off: that piece may have been moved on
abbrev pub moved_on : Squares
moved_on picture = if picture.is_off then picture.others else 0

-- such squares of each picture, and since when
abbrev pub shown_as : Squares → List Laid → List Shown
shown_as squares [] = []
shown_as squares (picture ∷ before) = shown picture.since (squares picture) ∷ shown_as squares before

-- Until this picture came, those before it had had this square for this time.
abbrev pub stood_till : Squares → ℕ → Laid → List Laid → ℕ → Bool
stood_till squares span picture before s = has_held (has s) span picture.time (shown_as squares before)

-- Pieces have stood on such a square for this time.
abbrev pub has_stood : Squares → ℕ → List Laid → Bool
has_stood squares span [] = false
has_stood squares span (picture ∷ before) = some_square (stood_till squares span picture before) || has_stood squares span before

-- Pieces have stood on such a square for this time, and have left it.
abbrev pub has_left : Squares → ℕ → List Laid → Bool
has_left squares span [] = false
has_left squares span (picture ∷ before) =
    some_square (λ s. stood_till squares span picture before s && not (has s (shown picture.since (squares picture)) []))
    || has_left squares span before

-- A piece that is drawn over a square is there for less than this, in milliseconds.
abbrev pub stands : ℕ
stands = 100

-- The piece that moved last, if it is only straightened, is beside its square for less than this.
abbrev pub stands_again : ℕ
stands_again = 1000

-- Both sides may have moved: the side that moved last has stood elsewhere, and the side to move has left such a square
-- again; or the piece that moved last was moved on, and the side to move has stood elsewhere.
abbrev pub by_both : List Laid → Bool
by_both past = (has_stood others stands past && has_left own stands past) || (has_stood moved_on stands_again past && has_stood own stands past)

-- One side may have moved, once or more often.
abbrev pub by_one : List Laid → Bool
by_one past = (has_stood own stands past || has_stood others stands past) || has_stood astray stands past

-- Both may have moved, if the piece that moved last doesn't stay where it belongs.
abbrev pub by_both_perhaps : List Laid → Bool
by_both_perhaps past = has_stood moved_on stands past && has_stood own stands past
