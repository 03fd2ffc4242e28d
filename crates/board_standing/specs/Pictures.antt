-- What the pictures of a board say. Pictures are listed with the latest first; the squares of each are those on which it
-- differs from the game's position.
use Rattle.std.specs.Prelude.{ℕ, min, ◌==◌, ◌&&◌, ◌||◌, not, Bool, false, nat_le, nat_lt, List, [], ◌∷◌, Option, Some, None, count_ones, if◌then◌else◌}
use Rattle.std.specs.Int.{bit_at}
use Rattle.square_runs.specs.Lasting.{earlier, has_lasted, will_have_lasted}
use Rattle.square_runs.specs.Shown.{Shown, Test, has, has_held, since_when}
use Rattle.square_runs.specs.Squares.{first_of, first_where, some_square}
use Rattle.board_standing.specs.declared.state.Kind.{Kind}
use Rattle.board_standing.specs.declared.state.Kind.TheVariants.{Waits, Agrees, InHand, Wrong, NoStart, SettingUp}

-- How long a hand may take, in milliseconds.
abbrev pub hand : ℕ
hand = 10000

-- How long a board may differ from its game and come no nearer to it, in milliseconds.
abbrev pub patience : ℕ
patience = 15000

-- On how many squares a board may differ by a move: castling changes four, and a neighbour or two may be straightened.
abbrev pub most_in_hand : ℕ
most_in_hand = 6

-- on how many squares it differs
abbrev pub count : Shown → ℕ
count picture = count_ones picture.squares

abbrev pub agrees : Shown → Bool
agrees picture = count picture == 0

abbrev pub differs : Test
differs picture before = not (agrees picture)

-- It differs on more squares than hands change in a move.
abbrev pub is_many : Shown → Bool
is_many picture = nat_lt most_in_hand (count picture)

-- the picture that was shown last differs on many
abbrev pub were_many : List Shown → Bool
were_many [] = false
were_many (picture ∷ before) = is_many picture

-- Pieces were set up, and with this picture few are left.
abbrev pub is_left : Test
is_left picture before = were_many before && not (is_many picture)

-- the pictures since a set-up left few squares
abbrev pub since_set_up : List Shown → List Shown
since_set_up [] = []
since_set_up (picture ∷ before) = picture ∷ (if is_left picture before then [] else since_set_up before)

-- Many squares have differed, and since then the board hasn't agreed.
abbrev pub is_set_up : List Shown → Bool
is_set_up [] = false
is_set_up (picture ∷ before) = not (agrees picture) && (is_many picture || is_set_up before)

-- the fewest squares on which a picture differed; 65 where there was none
abbrev pub fewest : List Shown → ℕ
fewest [] = 65
fewest (picture ∷ before) = min (count picture) (fewest before)

-- The board has shown the game's position.
abbrev pub has_agreed : List Shown → Bool
has_agreed past = fewest past == 0

-- It differs, and on no fewer squares than some picture before it.
abbrev pub is_no_nearer : Test
is_no_nearer picture before = not (agrees picture) && nat_le (fewest before) (count picture)

-- when the last picture was shown
abbrev pub last_time : List Shown → Option ℕ
last_time [] = None
last_time (picture ∷ before) = Some picture.time

-- where the last picture differs
abbrev pub last_squares : List Shown → ℕ
last_squares [] = 0
last_squares (picture ∷ before) = picture.squares

-- A picture was shown within the time of a hand.
abbrev pub is_moved : ℕ → List Shown → Bool
is_moved now past = not (has_lasted hand now (last_time past))

-- For longer than patience lasts no picture has agreed, or come nearer to the game's position than all before it.
abbrev pub is_overdue : ℕ → List Shown → Bool
is_overdue now past = has_held is_no_nearer patience now past

-- The square has differed for longer than a hand takes. What a set-up left counts from then on.
abbrev pub is_old : ℕ → List Shown → ℕ → Bool
is_old now past s = has_held (has s) hand now (since_set_up past)

-- what an arbiter reads, if moves have been played or not, and squares are old or not
abbrev pub kind_by : ℕ → Bool → Bool → List Shown → Kind
kind_by now has_played has_old [] = Waits
kind_by now has_played has_old (picture ∷ before) =
    if agrees picture then Agrees
    else if is_overdue now (picture ∷ before) then (if has_agreed (picture ∷ before) then Wrong else NoStart)
    else if is_set_up (picture ∷ before) && (is_moved now (picture ∷ before) || (is_many picture && not has_played)) then SettingUp
    else if has_old then Wrong
    else InHand

abbrev pub kind_of : ℕ → Bool → List Shown → Kind
kind_of now has_played past = kind_by now has_played (some_square (is_old now past)) past

-- The squares that are named: the old ones, or, where none is, all that differ.
abbrev pub is_named : ℕ → List Shown → ℕ → Bool
is_named now past s = if some_square (is_old now past) then is_old now past s else bit_at (last_squares past) s == 1

-- since when the first of the named squares differs; where the game is overdue, since when it came no nearer
abbrev pub named_since : ℕ → List Shown → Option ℕ
named_since now past = if is_overdue now past then since_when is_no_nearer past
    else first_where (is_named now past) (λ s. since_when (has s) (since_set_up past))

-- when the next of these times is over: a square is old, nothing has moved for the time of a hand, or patience ends
abbrev pub due_of : ℕ → List Shown → Option ℕ
due_of now past = earlier (earlier (first_of (λ s. will_have_lasted hand now (since_when (has s) (since_set_up past))))
    (will_have_lasted hand now (last_time past))) (will_have_lasted patience now (since_when is_no_nearer past))
