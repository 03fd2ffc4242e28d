-- That answers follow from what happened. Lists have the latest first.
use Rattle.std.specs.Prelude.{◌≡◌, ◌⊎◌, ◌+◌, ◌≤◌, ℕ, Bool, true, List, ◌∷◌, ◌++◌, Some}
use Rattle.chess_rules.specs.Valid.{Valid}
use Rattle.board_cable.specs.declared.line.Event.{Event}
use Rattle.board_cable.specs.Line.{asked_at, is_open}
use Rattle.board_cable.specs.Silence.{is_silent}
use Rattle.board_cable.specs.Silences.{AreMute, IsHeard, woken}
use Rattle.board_cable.specs.Turns.{Turn, told}
use Rattle.board_events.specs.Settings.{Setting}
use Rattle.board_game.specs.Games.{IsStateOf}
use Rattle.board_standing.specs.declared.state.Kind.TheVariants.{Silent, Unplugged}
use Rattle.board_standing.specs.declared.state.State.{State}
use Rattle.board_alarms.specs.declared.look.Look.{Look}
use Rattle.board_live.specs.declared.live.Answer.{Answer}
use Rattle.board_live.specs.Coming.{came}
use Rattle.board_live.specs.Moments.{Moment}
use Rattle.board_live.specs.Restarts.{IsAnswered}

-- From a valid start one history has one answer at its last moment: request, handling, number, state and end, and the alarms that are
-- said with it.
abbrev pub IsAnsweredOnce : Type 0
IsAnsweredOnce = (setting : Setting) (recovers : Bool) (past : List Moment) (turns : List Turn) (answer other : Answer) (looks alarms : List Look)
    → Valid setting.start → IsAnswered setting recovers past turns answer looks → IsAnswered setting recovers past turns other alarms
    → (answer ≡ other) × (looks ≡ alarms)

-- While the board is silent, at each moment the state says so, or that the line is gone: never AGREES or anything else.
abbrev pub SilentIsSaid : Type 0
SilentIsSaid = (setting : Setting) (recovers : Bool) (moment : Moment) (past : List Moment) (turn : Turn) (turns : List Turn) (state : State)
    → is_silent (told (turn ∷ turns)) ≡ true → IsStateOf setting recovers (came (moment ∷ past) (turn ∷ turns)) moment.at state
    → (state.kind ≡ Silent) ⊎ (state.kind ≡ Unplugged)

-- What a recorder has told of the line since the board was heard, if no dump came, the line stayed open, no call began, and it was woken
-- four times: four seconds after the board was heard or later, and each time a second after the last one, or later.
pub record WokenInVain (heard : Event) (past told : List Event) : Type 0 where
  pub first : List Event
  pub second : List Event
  pub third : List Event
  pub fourth : List Event
  pub one : ℕ
  pub two : ℕ
  pub three : ℕ
  pub four : ℕ
  pub mute_first : AreMute one first
  pub mute_second : AreMute two second
  pub mute_third : AreMute three third
  pub mute_fourth : AreMute four fourth
  pub late : heard.at + 4000 ≤ one
  pub apart_one : one + 1000 ≤ two
  pub apart_two : two + 1000 ≤ three
  pub apart_three : three + 1000 ≤ four
  pub is : told ≡ woken four (fourth ++ woken three (third ++ woken two (second ++ woken one (first ++ heard ∷ past))))

-- So of a board that hasn't been heard for seven seconds, by a recorder that is woken in time, the state says that it is silent, or that
-- the line is gone: what is read as AGREES was seen within these seconds.
abbrev pub MuteBoardIsSaid : Type 0
MuteBoardIsSaid = (setting : Setting) (recovers : Bool) (moment : Moment) (past : List Moment) (turn : Turn) (turns : List Turn) (state : State)
    (heard : Event) (before : List Event) → IsHeard heard.what → is_open (heard ∷ before) ≡ true
    → ((last : ℕ) → asked_at before ≡ Some last → last ≤ heard.at) → WokenInVain heard before (told (turn ∷ turns))
    → IsStateOf setting recovers (came (moment ∷ past) (turn ∷ turns)) moment.at state → (state.kind ≡ Silent) ⊎ (state.kind ≡ Unplugged)
