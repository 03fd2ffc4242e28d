-- What may be wrong with a board that shows something else. Events are listed with the latest first.
use Rattle.std.specs.Prelude.{ℕ, ◌==◌, ◌&&◌, ◌||◌, not, Bool, true, false, nat_le, nat_lt, List, [], ◌∷◌, Option, Some, None, count_ones, if◌then◌else◌}
use Rattle.square_runs.specs.Shown.{Shown}
use Rattle.board_standing.specs.declared.heard.Event.{Event}
use Rattle.board_standing.specs.declared.heard.Heard.{Heard}
use Rattle.board_standing.specs.declared.heard.Heard.TheVariants.{Shows, Moves, Ends, Reopens, Stops, Answers, Unplugs, Plugs, Begins}
use Rattle.board_standing.specs.declared.heard.Picture.{Picture}
use Rattle.board_standing.specs.declared.state.Hint.{Hint}
use Rattle.board_standing.specs.declared.state.Hint.TheVariants.{TurnedRound, OtherBoard}
use Rattle.board_standing.specs.Line.{has_played, pictures}

-- On how many squares a move changes a picture, at most.
abbrev pub one_move : ℕ
one_move = 4

-- The line was opened, and nothing has been shown since.
abbrev pub opened_by : Heard → Bool → Bool
opened_by Plugs before = true
opened_by Stops before = before
opened_by Answers before = before
opened_by Unplugs before = before
opened_by Begins before = before
opened_by other before = false

abbrev pub is_opened : List Event → Bool
is_opened [] = false
is_opened (event ∷ past) = opened_by event.what (is_opened past)

abbrev pub has_pictures : List Shown → Bool
has_pictures [] = false
has_pictures (picture ∷ before) = true

-- The first picture over a line that was opened isn't a move away from the picture before it.
abbrev pub is_swapped : Picture → List Event → Bool
is_swapped picture past = is_opened past && (has_pictures (pictures past) && nat_lt one_move (count_ones picture.changed))

-- Such a picture was shown, and since then the board hasn't agreed.
abbrev pub other_by : Heard → List Event → Bool → Bool
other_by (Shows picture) past before = not (count_ones picture.differs == 0) && (is_swapped picture past || before)
other_by Moves past before = false
other_by Ends past before = false
other_by Reopens past before = false
other_by same past before = before

abbrev pub is_other : List Event → Bool
is_other [] = false
is_other (event ∷ past) = other_by event.what past (is_other past)

-- A picture is the start on a board that is turned round, but for a piece or two that are still to come.
abbrev pub is_turned : Picture → Bool
is_turned picture = nat_le (count_ones picture.turned) one_move && nat_le 16 (count_ones picture.differs)

-- On a board that is turned round it is right on more squares than as the board is read. So it is while the first moves are made on it.
abbrev pub explains_more : Picture → Bool
explains_more picture = nat_lt (count_ones picture.turned) (count_ones picture.differs)

abbrev pub turned_by : Heard → Bool → Bool
turned_by (Shows picture) before = is_turned picture || (before && explains_more picture)
turned_by Moves before = false
turned_by Ends before = false
turned_by Reopens before = false
turned_by other before = before

-- A picture was such a start, and each since then is right on more squares if the board is turned round.
abbrev pub lies_turned : List Event → Bool
lies_turned [] = false
lies_turned (event ∷ past) = turned_by event.what (lies_turned past)

-- what may be wrong with the board
abbrev pub hint_of : List Event → Option Hint
hint_of past = if lies_turned past && not (has_played past) then Some TurnedRound
    else if is_other past then Some OtherBoard
    else None
