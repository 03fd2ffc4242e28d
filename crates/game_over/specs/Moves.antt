-- The moves of a game, with how long each stood. Events are listed with the latest first, moves in the order in which they were made.
-- Times are milliseconds.
use Rattle.std.specs.Prelude.{ℕ, ◌-◌, Bool, true, false, not, List, [], ◌∷◌, ◌++◌, Option, Some, None, if◌then◌else◌}
use Rattle.square_runs.specs.Lasting.{carry, has_lasted}
use Rattle.game_over.specs.declared.made.Made.{Made}
use Rattle.game_over.specs.declared.happened.Event.{Event}
use Rattle.game_over.specs.declared.happened.Happening.{Happening}
use Rattle.game_over.specs.declared.happened.Happening.TheVariants.{Moves, Agrees, Differs}
use Rattle.game_over.specs.declared.happened.Move.{Move}
use Rattle.game_over.specs.declared.happened.Outcome.{Outcome}
use Rattle.game_over.specs.declared.moves.Last.{Last}
use Rattle.game_over.specs.declared.moves.Place.{Place}
use Rattle.game_over.specs.declared.result.Given.{Given}
use Rattle.game_over.specs.Result.{last_given}

-- when the board showed something for the second time since a move
abbrev pub second_by : ℕ → Option ℕ → Option ℕ → Option ℕ
second_by at None second = None
second_by at (Some first) second = carry true at second

-- The board shows the position after the last move, or something else.
abbrev pub shown_by : Bool → ℕ → Last → Last
shown_by agrees at last = record {
  played = last.played;
  at = last.at;
  bytes = last.bytes;
  left = if agrees then None else carry true at last.left;
  first = carry true at last.first;
  second = second_by at last.first last.second;
}

abbrev pub showed_by : Bool → ℕ → Option Last → Option Last
showed_by agrees at None = None
showed_by agrees at (Some last) = Some (shown_by agrees at last)

-- a move that is made just now
abbrev pub new_move : Move → ℕ → ℕ → Last
new_move played at bytes = record { played = played; at = at; bytes = bytes; left = None; first = None; second = None }

-- the last move, and since when the board shows something else; when it first showed something after it, and when next
abbrev pub last_by : Happening → ℕ → ℕ → Option Last → Option Last
last_by (Moves played) at bytes before = Some (new_move played at bytes)
last_by Agrees at bytes before = showed_by true at before
last_by Differs at bytes before = showed_by false at before
last_by other at bytes before = before

abbrev pub last_move : List Event → Option Last
last_move [] = None
last_move (event ∷ past) = last_by event.what event.at event.bytes (last_move past)

-- how long the board showed the position after a move; a piece may have been lifted and put back meanwhile
abbrev pub stood_of : ℕ → Option ℕ → Option ℕ
stood_of at None = None
stood_of at (Some left) = Some (left - at)

-- A player thinks with a piece in hand if he holds it for this.
abbrev pub thinks : ℕ
thinks = 3000

-- Hands went on at once: less time passed between the first two pictures after the move.
abbrev pub goes_on : Option ℕ → Option ℕ → Bool
goes_on None second = true
goes_on (Some first) None = true
goes_on (Some first) (Some second) = not (has_lasted thinks second (Some first))

-- what the end of a game may depend on
abbrev pub made_of : Last → Made
made_of last = record {
  stood = stood_of last.at last.left;
  goes_home = last.played.goes_home;
  goes_on = goes_on last.first last.second;
  corrects = last.played.corrects;
  is_added = last.played.is_added;
}

-- the result, if it is mate or stalemate
abbrev pub mate_of : Option Given → Option Outcome
mate_of None = None
mate_of (Some given) = if given.is_declared then None else Some given.outcome

-- where a game ends if this is its last move, and this result was given after it
abbrev pub place_of : Last → Option Given → Place
place_of last given = record { bytes = last.bytes; result = mate_of given }

abbrev pub listed_move : Option Last → List Made
listed_move None = []
listed_move (Some last) = made_of last ∷ []

abbrev pub listed_place : Option Last → Option Given → List Place
listed_place None given = []
listed_place (Some last) given = place_of last given ∷ []

-- the moves before the last one: each stood until the next one was made, at the latest
abbrev pub earlier_by : Happening → ℕ → Option Last → List Made → List Made
earlier_by (Moves played) at last before = before ++ listed_move (showed_by false at last)
earlier_by other at last before = before

abbrev pub earlier_moves : List Event → List Made
earlier_moves [] = []
earlier_moves (event ∷ past) = earlier_by event.what event.at (last_move past) (earlier_moves past)

abbrev pub earlier_places_by : Happening → Option Last → Option Given → List Place → List Place
earlier_places_by (Moves played) last given before = before ++ listed_place last given
earlier_places_by other last given before = before

abbrev pub earlier_places : List Event → List Place
earlier_places [] = []
earlier_places (event ∷ past) = earlier_places_by event.what (last_move past) (last_given past) (earlier_places past)

-- all moves, and where the game ends with each
abbrev pub moves : List Event → List Made
moves past = earlier_moves past ++ listed_move (last_move past)

abbrev pub places : List Event → List Place
places past = earlier_places past ++ listed_place (last_move past) (last_given past)
