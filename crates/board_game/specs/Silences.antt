-- What it leaves that a board was silent, once it answers again. Lists have the latest first.
use Rattle.std.specs.Prelude.{◌≡◌, ◌⊎◌, ℕ, Bool, true, false, if◌then◌else◌, List, [], ◌∷◌, ◌++◌, Option}
use Rattle.chess_rules.specs.Valid.{Valid}
use Rattle.board_endings.specs.declared.news.End.{End}
use Rattle.board_events.specs.Settings.{Setting}
use Rattle.board_alarms.specs.declared.look.Look.{Look}
use Rattle.board_standing.specs.declared.heard.Event.{Event as Told}
use Rattle.board_standing.specs.declared.heard.Heard.{Heard}
use Rattle.board_standing.specs.declared.heard.Heard.TheVariants.{Stops, Answers, Unplugs, Plugs}
use Rattle.board_standing.specs.declared.state.Kind.TheVariants.{Silent, Unplugged as Gone}
use Rattle.board_standing.specs.declared.state.State.{State}
use Rattle.board_standing.specs.States.{due_at, hint_at, kind_at, names_at, since_at}
use Rattle.board_game.specs.declared.note.Note.{Note}
use Rattle.board_game.specs.declared.note.Note.TheVariants.{Line}
use Rattle.board_game.specs.Alarming.{AlarmsAre, ClockIsStopped}
use Rattle.board_game.specs.Ending.{IsEndDueOf, IsEndOf}
use Rattle.board_game.specs.Games.{IsStateOf}
use Rattle.board_game.specs.Hearing.{IsHeard}
use Rattle.board_game.specs.History.{Bytes, Came, News}

-- The board doesn't answer, or answers again.
abbrev pub is_silence : Heard → Bool
is_silence Stops = true
is_silence Answers = true
is_silence other = false

abbrev pub tells_silence : Note → Bool
tells_silence (Line heard) = is_silence heard
tells_silence other = false

-- what came, but for that
abbrev pub but_silence : List Came → List Came
but_silence [] = []
but_silence (Bytes time bytes ∷ past) = Bytes time bytes ∷ but_silence past
but_silence (News at note ∷ past) = if tells_silence note then but_silence past else News at note ∷ but_silence past

-- It was told that the board doesn't answer, and since then neither that it does nor that its line went or was opened.
abbrev pub stopped_by : Note → Bool → Bool
stopped_by (Line Stops) before = true
stopped_by (Line Answers) before = false
stopped_by (Line Unplugs) before = false
stopped_by (Line Plugs) before = false
stopped_by other before = before

abbrev pub has_stopped : List Came → Bool
has_stopped [] = false
has_stopped (Bytes time bytes ∷ past) = has_stopped past
has_stopped (News at note ∷ past) = stopped_by note (has_stopped past)

-- SILENT is read only if that was told; if it was, SILENT is read, or that the line is gone.
abbrev pub SilentIsTold : Type 0
SilentIsTold = (setting : Setting) (recovers : Bool) (past : List Came) (now : ℕ) (state : State) → IsStateOf setting recovers past now state
    → (state.kind ≡ Silent → has_stopped past ≡ true) × (has_stopped past ≡ true → (state.kind ≡ Silent) ⊎ (state.kind ≡ Gone))

-- The same is read of the board after both, and until the same time.
pub record ReadAlike (now : ℕ) (one other : List Told) : Type 0 where
  pub kind : kind_at now one ≡ kind_at now other
  pub since : since_at now one ≡ since_at now other
  pub squares : (s : ℕ) → names_at now one s ≡ names_at now other s
  pub hint : hint_at now one ≡ hint_at now other
  pub due : due_at now one ≡ due_at now other

-- A board answered at some time, and the same came since. If the same had come before, but for silence, then the same is read of the
-- board, the same alarms are open, the game stands alike with its end, time ends it at the same time, and the clock is stopped or not in
-- both.
abbrev pub SilenceIsForgotten : Type 0
SilenceIsForgotten = (setting : Setting) (recovers : Bool) (at : ℕ) (since first second : List Came) → Valid setting.start → but_silence first ≡ but_silence second
    → let one : List Came = since ++ News at (Line Answers) ∷ first in
    let other : List Came = since ++ News at (Line Answers) ∷ second in
    ((now : ℕ) (heard told : List Told) → IsHeard setting recovers one heard → IsHeard setting recovers other told → ReadAlike now heard told)
    × ((looks alarms : List Look) → AlarmsAre setting recovers one looks → AlarmsAre setting recovers other alarms → looks ≡ alarms)
    × ((now : ℕ) (end ending : End) → IsEndOf setting recovers one now end → IsEndOf setting recovers other now ending → end ≡ ending)
    × ((now : ℕ) (due time : Option ℕ) → IsEndDueOf setting recovers one now due → IsEndDueOf setting recovers other now time → due ≡ time)
    × ((stopped stands : Bool) → ClockIsStopped setting recovers one stopped → ClockIsStopped setting recovers other stands → stopped ≡ stands)
