-- What a picture shows apart from the game's position. Pictures and positions are lists of the codes of 64 squares.
use Rattle.std.specs.Prelude.{◌≡◌, ◌↔◌, ℕ, ◌==◌, ◌&&◌, ◌||◌, not, Bool, nat_le, nat_lt, List, IsTrue, slice_index, if◌then◌else◌}
use Rattle.square_runs.specs.Squares.{Marks, some_square}
use Rattle.board_doubts.specs.declared.heard.Seen.{Seen}
use Rattle.board_doubts.specs.Ways.{can_go}

-- the code of a piece of Black's, or of White's
abbrev pub is_of : Bool → ℕ → Bool
is_of black code = if black then nat_le 7 code else (nat_le 1 code && nat_lt code 7)

abbrev pub differs : List ℕ → List ℕ → ℕ → Bool
differs position picture s = not (slice_index picture s == slice_index position s)

-- The picture has a piece of this side there, which the position doesn't have there.
abbrev pub elsewhere : Bool → List ℕ → List ℕ → ℕ → Bool
elsewhere black position picture s = is_of black (slice_index picture s) && differs position picture s

-- The piece that the picture has here is missing on another square, from which it could have gone here on an empty board.
abbrev pub comes_from : List ℕ → List ℕ → ℕ → ℕ → Bool
comes_from position picture s from =
    ((slice_index position from == slice_index picture s) && differs position picture from) && can_go (slice_index picture s) from s

abbrev pub comes : List ℕ → List ℕ → ℕ → Bool
comes position picture s = some_square (comes_from position picture s)

-- A piece of this side may have gone there.
abbrev pub may_have_gone : Bool → List ℕ → List ℕ → ℕ → Bool
may_have_gone black position picture s = elsewhere black position picture s && comes position picture s

-- The picture has a piece there that isn't there in the position; one of the side to move wasn't there before the last move either.
abbrev pub is_out : Bool → List ℕ → List ℕ → List ℕ → ℕ → Bool
is_out black before position picture s =
    (elsewhere black position picture s && differs before picture s) || elsewhere (not black) position picture s

-- It can't have gone there, at once.
abbrev pub is_astray : Bool → List ℕ → List ℕ → List ℕ → ℕ → Bool
is_astray black before position picture s = is_out black before position picture s && not (comes position picture s)

-- A piece of this side moved from one position to the next, and on its new square the picture differs from the game's position.
abbrev pub is_gone : Bool → List ℕ → List ℕ → List ℕ → List ℕ → Bool
is_gone black from to position picture = some_square (λ s. elsewhere black from to s && differs position picture s)

-- A piece of this side is missing in the picture, and its square is empty.
abbrev pub is_lifted : Bool → List ℕ → List ℕ → Bool
is_lifted black position picture = some_square (λ s. is_of black (slice_index position s) && (slice_index picture s == 0))

-- What a picture shows, while Black or White is to move, compared with three positions: that of the game, the one before the last
-- move, and the one before that.
pub record Sees (seen : Seen) (black : Bool) (earlier before position picture : List ℕ) : Type 0 where
  pub own : Marks seen.own (λ s. may_have_gone black position picture s && differs before picture s)
  pub others : Marks seen.others (λ s. may_have_gone (not black) position picture s)
  pub astray : Marks seen.astray (is_astray black before position picture)
  pub off : seen.is_off ≡ is_gone (not black) before position position picture
  pub back : IsTrue seen.is_back ↔ (picture ≡ before)
  pub drawn : seen.was_drawn ≡ is_gone black earlier before position picture
  pub hand : seen.in_hand ≡ is_lifted (not black) position picture
