-- When a game is over, and what is made of it afterwards. Events are listed with the latest first, times are milliseconds.
use Rattle.std.specs.Prelude.{ℕ, ◌+◌, min, nat_le, ◌==◌, ◌&&◌, ◌||◌, not, Bool, true, false, List, [], ◌∷◌, Option, Some, None, is_some, if◌then◌else◌}
use Rattle.square_runs.specs.Lasting.{has_lasted}
use Rattle.game_over.specs.Again.{ends_by}
use Rattle.game_over.specs.declared.happened.Event.{Event}
use Rattle.game_over.specs.declared.happened.Happening.{Happening}
use Rattle.game_over.specs.declared.happened.Happening.TheVariants.{Moves, Agrees, Shows, Reopens, Resumes, GoesBack, Passes, Hears}
use Rattle.game_over.specs.declared.happened.Move.{Move}
use Rattle.game_over.specs.declared.happened.Shown.{Shown}
use Rattle.game_over.specs.declared.result.Given.{Given}
use Rattle.game_over.specs.declared.said.Why.{Why}
use Rattle.game_over.specs.declared.said.Why.TheVariants.{Stood, PlaysOn, Corrected, SetUp, Unfinished}
use Rattle.game_over.specs.Moves.{last_move}
use Rattle.game_over.specs.Result.{has_passed, has_stood, last_given}

-- the pictures of the board, each as the squares that are off the start
abbrev pub pictures_by : Happening → List ℕ → List ℕ
pictures_by (Shows shown) before = shown.off ∷ before
pictures_by other before = before

-- an hour, in milliseconds
abbrev pub hour : ℕ
hour = 3600000

-- since when nobody listens, if nothing has come since
abbrev pub left_by : Happening → ℕ → Option ℕ
left_by Resumes at = Some at
left_by other at = None

abbrev pub left_at : List Event → Option ℕ
left_at [] = None
left_at (event ∷ past) = left_by event.what event.at

-- Nobody had listened for so long before this time: an adjourned game may be taken up, before its pieces are set up.
unfoldable pub was_left : ℕ → List Event → Bool
was_left now past = has_lasted hour now (left_at past)

abbrev pub pictures : List Event → List ℕ
pictures [] = []
pictures (event ∷ past) = pictures_by event.what (if was_left event.at past then [] else pictures past)

-- the pictures up to now, since nobody had listened for so long
abbrev pub pictures_at : ℕ → List Event → List ℕ
pictures_at now past = if was_left now past then [] else pictures past

-- The board shows the start again, after a set-up, and the game isn't at its start.
unfoldable pub starts_again : ℕ → Shown → List Event → Bool
starts_again now shown past = ends_by shown.off shown.at_start (pictures_at now past)

-- another move, which the players made on the board
abbrev pub is_next : Move → Bool
is_next move = not move.corrects && not move.is_added

-- The game has begun: the board has agreed with it, it has had two moves, or one was added. Else its one move may be part of the
-- set-up.
abbrev pub begun_by : Happening → Bool → Bool → Bool
begun_by Agrees moved before = true
begun_by (Moves move) moved before = before || (move.is_added || (moved && not move.corrects))
begun_by other moved before = before

abbrev pub has_begun : List Event → Bool
has_begun [] = false
has_begun (event ∷ past) = begun_by event.what (is_some (last_move past)) (has_begun past)

-- A move on the board after a result is no part of the game. A correction after the result that the kings or an arbiter gave is none
-- either; mate and stalemate are taken back by it.
abbrev pub why_moves : Move → Option Given → Option Why
why_moves move None = None
why_moves move (Some given) =
    if move.is_added then None else if not move.corrects then Some PlaysOn else if given.is_declared then Some Corrected else None

-- why a game ends that isn't over
abbrev pub why_by : Happening → ℕ → List Event → Option Why
why_by Passes now past = if has_passed now (last_given past) then Some Stood else None
why_by Hears now past = if has_stood now (last_given past) then Some Stood else None
why_by (Moves move) now past = why_moves move (last_given past)
why_by (Shows shown) now past =
    if starts_again now shown past && has_begun past then Some (if is_some (last_given past) then SetUp else Unfinished) else None
why_by other now past = None

abbrev pub reopens : Happening → Bool
reopens Reopens = true
reopens other = false

-- why the game is over, if it is: it stays so until it is reopened
abbrev pub over_by : Bool → Option Why → Option Why → Option Why
over_by true before why = None
over_by false None why = why
over_by false (Some before) why = Some before

abbrev pub why_over : List Event → Option Why
why_over [] = None
why_over (event ∷ past) = over_by (reopens event.what) (why_over past) (why_by event.what event.at past)

abbrev pub is_over : List Event → Bool
is_over past = is_some (why_over past)

-- why the game ends with this event, if it does
abbrev pub ended_by : Event → List Event → Option Why
ended_by event past = if is_over past then None else why_by event.what event.at past

-- this happens then, and with it the capture has so many bytes
abbrev pub happens : ℕ → ℕ → Happening → Event
happens at bytes what = record { at = at; bytes = bytes; what = what }

-- time passes
abbrev pub passes : ℕ → ℕ → Event
passes at bytes = record { at = at; bytes = bytes; what = Passes }

-- the board is heard
abbrev pub hears : ℕ → ℕ → Event
hears at bytes = record { at = at; bytes = bytes; what = Hears }

-- How many bytes were written when the game went back. It ends nowhere before them.
abbrev pub front_by : Happening → ℕ → ℕ → ℕ
front_by GoesBack bytes before = bytes
front_by other bytes before = before

abbrev pub front : List Event → ℕ
front [] = 0
front (event ∷ past) = front_by event.what event.bytes (front past)

-- The game begins only now.
abbrev pub begins_by : Happening → ℕ → List Event → Bool
begins_by (Shows shown) now past = starts_again now shown past && not (has_begun past)
begins_by other now past = false

abbrev pub begins_now : Event → List Event → Bool
begins_now event past = not (is_over past) && begins_by event.what event.at past

-- how many moves the players have made since the game was over; the one that ended it counts
abbrev pub most : ℕ
most = 9999

abbrev pub played_by : Happening → ℕ → ℕ
played_by (Moves move) before = if is_next move then min most (before + 1) else before
played_by other before = before

abbrev pub played : List Event → ℕ
played [] = 0
played (event ∷ past) = if is_over (event ∷ past) then played_by event.what (played past) else 0

-- One of them brought no piece home: the pieces are not just set up again.
abbrev pub stays_out : Happening → Bool
stays_out (Moves move) = not move.is_added && not move.goes_home
stays_out other = false

abbrev pub has_played : List Event → Bool
has_played [] = false
has_played (event ∷ past) = is_over (event ∷ past) && (has_played past || stays_out event.what)

-- The game has ended with a result.
abbrev pub has_result : Option Why → Bool
has_result None = false
has_result (Some Unfinished) = false
has_result (Some other) = true

abbrev pub shows_start : Happening → Bool
shows_start (Shows shown) = shown.off == 0
shows_start other = false

-- The game has a result, and its pieces were set up since: what is played now is another game.
abbrev pub is_another : List Event → Bool
is_another [] = false
is_another (event ∷ past) = has_result (why_over (event ∷ past)) && (is_another past || shows_start event.what)

abbrev pub is_on_board : Happening → Bool
is_on_board (Moves move) = not move.is_added
is_on_board other = false

-- So many moves after the end are no set-up: two, one of which brought no piece home, or three.
abbrev pub is_enough : ℕ → Bool → Bool
is_enough count played = (played && nat_le 2 count) || nat_le 3 count

-- The game is over and goes on.
abbrev pub goes_on : Event → List Event → Bool
goes_on event past = is_on_board event.what && not (is_another past) && is_enough (played (event ∷ past)) (has_played (event ∷ past))
