-- What was heard of a board, beside what its pictures show. Events are listed with the latest first.
use Rattle.std.specs.Prelude.{ℕ, Bool, true, false, List, [], ◌∷◌, Option, Some, None}
use Rattle.square_runs.specs.Lasting.{carry}
use Rattle.square_runs.specs.Shown.{Shown, shown}
use Rattle.board_standing.specs.declared.heard.Event.{Event}
use Rattle.board_standing.specs.declared.heard.Heard.{Heard}
use Rattle.board_standing.specs.declared.heard.Heard.TheVariants.{Shows, Repeats, Moves, Ends, Reopens, Stops, Answers, Unplugs, Plugs, Begins}

-- the pictures with the one that is shown at this time, if one is
abbrev pub with_picture : Heard → ℕ → List Shown → List Shown
with_picture (Shows picture) at past = shown at picture.differs ∷ past
with_picture Moves at past = shown at 0 ∷ past
with_picture Ends at past = shown at 0 ∷ past
with_picture Reopens at past = shown at 0 ∷ past
with_picture other at past = past

abbrev pub pictures : List Event → List Shown
pictures [] = []
pictures (event ∷ past) = with_picture event.what event.at (pictures past)

-- Since a recorder began, the board has shown nothing.
abbrev pub waits_by : Heard → Bool → Bool
waits_by Begins before = true
waits_by (Shows picture) before = false
waits_by Repeats before = false
waits_by Moves before = false
waits_by Ends before = false
waits_by Reopens before = false
waits_by other before = before

abbrev pub waits : List Event → Bool
waits [] = true
waits (event ∷ past) = waits_by event.what (waits past)

-- since when the line is gone
abbrev pub unplugged_by : Heard → ℕ → Option ℕ → Option ℕ
unplugged_by Unplugs at since = carry true at since
unplugged_by Plugs at since = None
unplugged_by other at since = since

abbrev pub unplugged_since : List Event → Option ℕ
unplugged_since [] = None
unplugged_since (event ∷ past) = unplugged_by event.what event.at (unplugged_since past)

-- Since when the board doesn't answer. Of a line that is gone or was opened this isn't known.
abbrev pub silent_by : Heard → ℕ → Option ℕ → Option ℕ
silent_by Stops at since = carry true at since
silent_by Answers at since = None
silent_by Unplugs at since = None
silent_by Plugs at since = None
silent_by other at since = since

abbrev pub silent_since : List Event → Option ℕ
silent_since [] = None
silent_since (event ∷ past) = silent_by event.what event.at (silent_since past)

-- since when the game has its result
abbrev pub ended_by : Heard → ℕ → Option ℕ → Option ℕ
ended_by Ends at since = Some at
ended_by Reopens at since = None
ended_by other at since = since

abbrev pub ended_since : List Event → Option ℕ
ended_since [] = None
ended_since (event ∷ past) = ended_by event.what event.at (ended_since past)

-- A move was played.
abbrev pub played_by : Heard → Bool → Bool
played_by Moves before = true
played_by other before = before

abbrev pub has_played : List Event → Bool
has_played [] = false
has_played (event ∷ past) = played_by event.what (has_played past)
