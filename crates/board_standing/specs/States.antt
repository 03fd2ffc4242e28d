-- What an arbiter reads of a board. Events are listed with the latest first.
use Rattle.std.specs.Prelude.{◌≡◌, ◌≢◌, ◌⊎◌, ℕ, ◌||◌, Bool, true, false, List, Option, None, is_some, if◌then◌else◌}
use Rattle.square_runs.specs.Shown.{since_when}
use Rattle.board_standing.specs.declared.heard.Event.{Event}
use Rattle.board_standing.specs.declared.state.Kind.{Kind}
use Rattle.board_standing.specs.declared.state.Kind.TheVariants.{Waits, Agrees, Ended, InHand, Wrong, NoStart, SettingUp, Silent, Unplugged}
use Rattle.board_standing.specs.declared.state.Hint.{Hint}
use Rattle.board_standing.specs.declared.state.State.{State}
use Rattle.board_standing.specs.Hints.{hint_of}
use Rattle.board_standing.specs.Line.{ended_since, has_played, pictures, silent_since, unplugged_since, waits}
use Rattle.board_standing.specs.Pictures.{differs, due_of, is_named, kind_of, last_time, named_since}

-- what an arbiter reads first at this time
abbrev pub kind_at : ℕ → List Event → Kind
kind_at now past =
    if is_some (unplugged_since past) then Unplugged
    else if is_some (silent_since past) then Silent
    else if waits past then Waits
    else if is_some (ended_since past) then Ended
    else kind_of now (has_played past) (pictures past)

abbrev pub names_squares : Kind → Bool
names_squares InHand = true
names_squares Wrong = true
names_squares NoStart = true
names_squares other = false

-- whether this square is named with it
abbrev pub names_at : ℕ → List Event → ℕ → Bool
names_at now past s = if names_squares (kind_at now past) then is_named now (pictures past) s else false

-- since when it is so: of a board that agrees, since the last picture
abbrev pub since_by : Kind → ℕ → List Event → Option ℕ
since_by Unplugged now past = unplugged_since past
since_by Silent now past = silent_since past
since_by Waits now past = None
since_by Ended now past = ended_since past
since_by Agrees now past = last_time (pictures past)
since_by SettingUp now past = since_when differs (pictures past)
since_by named now past = named_since now (pictures past)

abbrev pub since_at : ℕ → List Event → Option ℕ
since_at now past = since_by (kind_at now past) now past

-- The board has shown itself, and answers.
abbrev pub is_seen : Kind → Bool
is_seen Unplugged = false
is_seen Silent = false
is_seen Waits = false
is_seen other = true

abbrev pub hint_at : ℕ → List Event → Option Hint
hint_at now past = if is_seen (kind_at now past) then hint_of past else None

-- It may become another one as time passes.
abbrev pub may_change : Kind → Bool
may_change SettingUp = true
may_change kind = names_squares kind

-- when the state may become another one if nothing is heard
abbrev pub due_at : ℕ → List Event → Option ℕ
due_at now past = if may_change (kind_at now past) then due_of now (pictures past) else None

-- Somebody must go to a board of which this is read.
abbrev pub is_alarming : Kind → Bool
is_alarming Wrong = true
is_alarming NoStart = true
is_alarming Silent = true
is_alarming Unplugged = true
is_alarming other = false

-- or there is a hint
abbrev pub is_alarm : State → Bool
is_alarm state = is_alarming state.kind || is_some state.hint

-- Other squares are wrong, or the result was given anew.
abbrev pub HasOtherParts : State → State → Type 0
HasOtherParts before state = ((state.kind ≡ Wrong) × (state.squares ≢ before.squares))
    ⊎ ((state.kind ≡ Ended) × (state.since ≢ before.since))

-- It is reported after the other one: not only has time passed.
abbrev pub IsNews : State → State → Type 0
IsNews before state = (state.kind ≢ before.kind) ⊎ ((state.hint ≢ before.hint) ⊎ HasOtherParts before state)

-- While no game has begun, this is being set up.
abbrev pub is_set_up_first : Kind → Bool
is_set_up_first Waits = true
is_set_up_first InHand = true
is_set_up_first other = false

-- what is read while no game has begun
abbrev pub before_game : State → State
before_game state = if is_set_up_first state.kind then record { kind = SettingUp; since = state.since; squares = 0; hint = state.hint } else state
