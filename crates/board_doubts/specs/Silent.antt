-- Plies for which nobody presses a clock that is used: they may be taken back, or put where others were. Events are listed with the
-- latest first.
use Rattle.std.specs.Prelude.{ℕ, ◌&&◌, Bool, false, nat_lt, List, [], ◌∷◌, Option, Some, None, if◌then◌else◌}
use Rattle.board_doubts.specs.declared.heard.Event.{Event}
use Rattle.board_doubts.specs.declared.heard.Heard.{Heard}
use Rattle.board_doubts.specs.declared.heard.Heard.TheVariants.{Shows, Moves, Corrects, Reopens, PutsBack, Plays, Replaces, Clock}
use Rattle.board_doubts.specs.declared.heard.Why.{Why}
use Rattle.board_doubts.specs.declared.heard.Why.TheVariants.{TakenBack, MovedOn, Returned}
use Rattle.board_doubts.specs.Pace.{last_within, took_longer}
use Rattle.board_doubts.specs.Plies.{both_back, both_further, played, played_by}
use Rattle.board_doubts.specs.Presses.{is_used}
use Rattle.board_doubts.specs.Unheard.{is_unheard}
use Rattle.board_doubts.specs.Waiting.{ply_times}

-- The game's position was one of the last eight before.
abbrev pub repeats_by : Heard → Bool → Bool
repeats_by (Moves repeats) before = repeats
repeats_by (Corrects repeats) before = repeats
repeats_by other before = before

abbrev pub has_repeated : List Event → Bool
has_repeated [] = false
has_repeated (event ∷ past) = repeats_by event.what (has_repeated past)

-- A piece is moved within this, in milliseconds, once the other side's was.
abbrev pub soon : ℕ
soon = 3000

-- Players who do that stop to think for longer than this before it.
abbrev pub pause : ℕ
pause = 2000

-- The last ply was made soon after the one before, and that after a pause.
abbrev pub is_pair : List ℕ → Bool
is_pair times = last_within soon times && took_longer pause 1 times

-- what a ply is suspected for if nobody presses, where both sides have gone back with it, or on, or the position has been there before
abbrev pub suspects : Bool → Bool → Bool → Option Why
suspects back on again = if back then Some TakenBack else if on then Some MovedOn else if again then Some Returned else None

-- the same with a ply that is made now, if the players use a clock
abbrev pub suspected : Heard → List Event → Option Why
suspected what past =
    if is_used past
    then suspects (is_pair (ply_times past) && both_back (played_by what (played past))) (is_pair (ply_times past) && both_further (played_by what (played past)))
    (has_repeated past && took_longer pause 3 (ply_times past))
    else None

-- what the last ply is suspected for, until another picture comes, or the clock says something
abbrev pub pending_by : Heard → Bool → Option Why → Option Why → Option Why
pending_by (Plays ply) unheard new before = new
pending_by (Replaces ply) unheard new before = new
pending_by (Shows seen) unheard new before = if unheard then before else None
pending_by (Clock runs) unheard new before = None
pending_by Reopens unheard new before = None
pending_by PutsBack unheard new before = None
pending_by other unheard new before = before

abbrev pub pending : List Event → Option Why
pending [] = None
pending (event ∷ past) =
    pending_by event.what (is_unheard past) (if event.is_added then None else suspected event.what past) (pending past)

-- so many of the last plies must have no press: those with which the position came again, or both sides' last ones
abbrev pub needed : Why → ℕ
needed Returned = 4
needed other = 2

abbrev pub silent_by : ℕ → Option Why → Option Why
silent_by count None = None
silent_by count (Some why) = if nat_lt count (needed why) then None else Some why

-- why the last ply is doubted now, if so many plies have no press
abbrev pub silent : ℕ → List Event → Option Why
silent count past = silent_by count (pending past)
