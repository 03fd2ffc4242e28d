-- Which news somebody must look at. Events are listed with the latest first.
use Rattle.std.specs.Prelude.{ℕ, ◌/◌, ◌&&◌, ◌||◌, not, Bool, true, false, nat_le, nat_lt, List, [], ◌∷◌, Option, Some, None, is_some, take, if◌then◌else◌}
use Rattle.square_runs.specs.Lasting.{has_lasted}
use Rattle.board_doubts.specs.declared.heard.Doubt.{Doubt}
use Rattle.board_doubts.specs.declared.heard.Event.{Event}
use Rattle.board_doubts.specs.declared.heard.Heard.{Heard}
use Rattle.board_doubts.specs.declared.heard.Heard.TheVariants.{Shows, Moves, Corrects, Agrees, Ends, Reopens, PutsBack, Plays, Replaces, Clock, PutsIn}
use Rattle.board_doubts.specs.declared.heard.Place.{Place}
use Rattle.board_doubts.specs.declared.heard.Place.TheVariants.{AtLast, AfterLast}
use Rattle.board_doubts.specs.declared.heard.Seen.{Seen}
use Rattle.board_doubts.specs.declared.heard.Why.{Why}
use Rattle.board_doubts.specs.declared.heard.Why.TheVariants.{Late, Elsewhere, BothElsewhere, AfterGap, TakenBack, Unpressed, OtherTime}
use Rattle.board_doubts.specs.Pace.{fits_ply, half_within, last_within, pace_of}
use Rattle.board_doubts.specs.Pictures.{by_both, by_both_perhaps, by_one, has_stood, own, stands}
use Rattle.board_doubts.specs.Plies.{both_back, ends_pair, played, played_by}
use Rattle.board_doubts.specs.Presses.{counts_now, is_left_by, is_used, known, quiet, runs, unpressed}
use Rattle.board_doubts.specs.Recent.{gap, has_gap, is_restart, pictures, since_news, touched}
pub use Rattle.board_doubts.specs.Silent.{has_repeated}
use Rattle.board_doubts.specs.Silent.{silent}
use Rattle.board_doubts.specs.Thinking.{is_exchanged}
use Rattle.board_doubts.specs.Unheard.{is_unheard}
use Rattle.board_doubts.specs.Waiting.{has_moved, ply_times, waited}

-- The board has shown the game's position; since then nobody has been asked to put pieces where they belong.
abbrev pub begun_by : Heard → Bool → Bool
begun_by (Moves repeats) before = true
begun_by (Corrects repeats) before = true
begun_by Agrees before = true
begun_by PutsBack before = false
begun_by other before = before

abbrev pub has_begun : List Event → Bool
has_begun [] = false
has_begun (event ∷ past) = begun_by event.what (has_begun past)

-- The game has ended, and since then no move was made.
abbrev pub over_by : Heard → Bool → Bool
over_by Ends before = true
over_by Reopens before = false
over_by PutsIn before = false
over_by (Moves repeats) before = false
over_by (Corrects repeats) before = false
over_by other before = before

abbrev pub is_over : List Event → Bool
is_over [] = false
is_over (event ∷ past) = over_by event.what (is_over past)

-- News may be doubted: the board has shown the game, which isn't over.
abbrev pub is_on : List Event → Bool
is_on past = has_begun past && not (is_over past)

-- In a gap this long the row says SILENT, in milliseconds. Whatever the pace, plies may have been made.
abbrev pub silent_for : ℕ
silent_for = 5000

-- There was time for plies: for one before a move; for two before an agreement, or for one if the players have just repeated a
-- position.
abbrev pub has_room : Bool → ℕ → List Event → Bool
has_room is_move lasted past = nat_le silent_for lasted || fits_ply (if is_move || has_repeated past then lasted else lasted / 2) past

-- Plies may be hidden in a gap this long. After a restart only players are suspected who have just repeated a position.
abbrev pub may_hide : Bool → ℕ → List Event → Bool
may_hide is_move lasted past = has_room is_move lasted past && (has_repeated past || not (is_restart (since_news past)))

-- Plies may be hidden in the gap since the last news, if there is one.
abbrev pub hides_by : Bool → Option ℕ → List Event → Bool
hides_by is_move None past = false
hides_by is_move (Some lasted) past = may_hide is_move lasted past

abbrev pub hides : Bool → List Event → Bool
hides is_move past = hides_by is_move (gap (since_news past)) past

-- A correction is late after this, in milliseconds.
abbrev pub late : ℕ
late = 10000

-- why a correction is doubted: in any gap, however short, plies may be hidden after which the last move looks like another one
abbrev pub why_corrects : ℕ → List Event → Option Why
why_corrects now past =
    if has_gap (since_news past) then Some AfterGap
    else if has_stood own stands (pictures (since_news past)) then Some Elsewhere
    else if nat_lt late (waited now past) then Some Late
    else None

-- Both sides may have moved since the last news, or one side if the board wasn't heard for a time.
abbrev pub may_be_moved : List Event → Bool
may_be_moved past = by_both (pictures past) || (has_gap past && by_one (pictures past))

abbrev pub why_moves : List Event → Option Why
why_moves past =
    if may_be_moved (since_news past) then Some BothElsewhere
    else if has_moved past && hides true past then Some AfterGap
    else None

abbrev pub why_agrees : List Event → Option Why
why_agrees past =
    if may_be_moved (since_news past) then Some BothElsewhere
    else if hides false past || touched (since_news past) then Some AfterGap
    else None

-- Players without a clock are unhurried if they need longer than this for more than half of their plies, in milliseconds. Others may go
-- back and forth so soon.
abbrev pub unhurried : ℕ
unhurried = 6000

abbrev pub is_unhurried : List Event → Bool
is_unhurried past = not (half_within unhurried (take pace_of (ply_times past)))

-- Once one side has taken its ply back, the other one does so within this, in milliseconds.
abbrev pub at_once : ℕ
at_once = 2000

-- The last ply was made at once after the one before it, though the players are unhurried and use no clock.
abbrev pub is_odd : List Event → Bool
is_odd past = last_within at_once (ply_times past) && (is_unhurried past && not (is_used past))

-- Both sides have taken plies back, so oddly, or by a pair that is put in: no picture has shown the plies that went back.
abbrev pub takes_back : Heard → List Event → Bool
takes_back what past = both_back (played_by what (played past)) && (ends_pair past || is_odd past)

abbrev pub why_played : Heard → List Event → Option Why
why_played what past =
    if takes_back what past then Some TakenBack
    else if is_left_by what (counts_now past) (unpressed past) then Some Unpressed
    else if is_exchanged what past then Some OtherTime
    else None

-- Plies may have been made: there was a move, or the clock runs. Until then pieces may be set up.
abbrev pub may_be_played : List Event → Bool
may_be_played past = has_moved past || runs past

-- why news is doubted while the game is on
abbrev pub why_by : Heard → ℕ → List Event → Option Why
why_by (Corrects repeats) now past = if is_on past then why_corrects now past else None
why_by (Moves repeats) now past = if is_on past then why_moves past else None
why_by Agrees now past = if is_on past && may_be_played past then why_agrees past else None
why_by (Plays ply) now past = if is_on past then why_played (Plays ply) past else None
why_by (Replaces ply) now past = if is_on past then why_played (Replaces ply) past else None
why_by (Clock runs) now past = if is_on past then silent (quiet past) past else None
why_by other now past = None

-- when the last move was made, if the next picture may make it doubtful: it isn't doubted yet, no picture has come since, and both
-- sides may have moved before it, unless the piece that had moved before stays where it belongs
abbrev pub passing_by : Heard → ℕ → Bool → Option ℕ → Option ℕ
passing_by (Moves repeats) at may before = if may then Some at else None
passing_by (Corrects repeats) at may before = None
passing_by (Shows seen) at may before = None
passing_by other at may before = before

abbrev pub passing : List Event → Option ℕ
passing [] = None
passing (event ∷ past) =
    passing_by event.what event.at (by_both_perhaps (pictures (since_news past)) && not (is_some (why_by event.what event.at past))) (passing past)

-- A piece that is drawn over a square leaves it within this, in milliseconds.
abbrev pub passes : ℕ
passes = 150

-- Less time than that has passed since then.
abbrev pub is_recent : ℕ → Option ℕ → Bool
is_recent now None = false
is_recent now (Some at) = not (has_lasted passes now (Some at))

-- The last move was read only because that piece was drawn over its square.
abbrev pub was_passed : Seen → ℕ → List Event → Bool
was_passed seen now past = seen.was_drawn && is_recent now (passing past)

-- why a picture makes the last move doubtful
abbrev pub why_shows : Seen → ℕ → List Event → Option Why
why_shows seen now past =
    if was_passed seen now past then Some BothElsewhere
    else if is_on past then silent (known (is_unheard past) (quiet past)) past
    else None

-- the doubt, if there is a reason
abbrev pub doubted : Place → Option Why → Option Doubt
doubted place None = None
doubted place (Some why) = Some (record { place = place; why = why })

-- what somebody must look at in what is heard now, after what was heard before
abbrev pub doubt_by : Heard → ℕ → List Event → Option Doubt
doubt_by (Shows seen) now past = doubted AtLast (why_shows seen now past)
doubt_by Agrees now past = doubted AfterLast (why_by Agrees now past)
doubt_by other now past = doubted AtLast (why_by other now past)

-- Nothing that an arbiter has added is doubted.
abbrev pub doubt_of : Event → List Event → Option Doubt
doubt_of event past = if event.is_added then None else doubt_by event.what event.at past
