-- What a recorder is told and says of the clock, of a board that answers, and of a time in which nobody listened. Lists have the latest
-- first.
use Rattle.std.specs.Prelude.{◌≡◌, ◌≢◌, ◌<◌, ◌≤◌, ℕ, not, Bool, true, false, List, ◌∷◌, ◌++◌, Option, Some, None}
use Rattle.std.specs.List.{list_all}
use Rattle.chess_rules.specs.Valid.{Valid}
use Rattle.board_cable.specs.declared.happened.What.TheVariants.{Wakes}
use Rattle.board_cable.specs.Silence.{is_silent}
use Rattle.board_cable.specs.Turns.{Turn, told}
use Rattle.board_events.specs.Settings.{Setting}
use Rattle.board_game.specs.Alarming.{ClockIsStopped}
use Rattle.board_game.specs.Games.{IsStateOf}
use Rattle.board_game.specs.History.{Came, News}
use Rattle.board_game.specs.declared.note.Note.TheVariants.{Line, Resumes}
use Rattle.board_standing.specs.declared.heard.Heard.TheVariants.{Stops as FallsSilent}
use Rattle.board_standing.specs.declared.state.Kind.TheVariants.{Silent}
use Rattle.board_standing.specs.declared.state.State.{State}
use Rattle.board_live.specs.declared.happened.What.{What}
use Rattle.board_live.specs.declared.happened.What.TheVariants.{Cable, Stops, Notes}
use Rattle.board_live.specs.Coming.{came}
use Rattle.board_live.specs.Live.{TellsClock}
use Rattle.board_live.specs.Moments.{Moment, begins}
use Rattle.board_live.specs.Saying.{is_live}

-- In a call each change is said, from stopped to running and back, and nothing else. When a call begins, a clock that is stopped is said.
abbrev pub ClockChangesAreSaid : Type 0
ClockChangesAreSaid = (setting : Setting) (recovers : Bool) (moment : Moment) (past : List Moment) (turn : Turn) (turns : List Turn) (before now : Bool) (news : Option Bool)
    → Valid setting.start → TellsClock setting recovers moment past turn turns news → is_live (moment ∷ past) ≡ true
    → ClockIsStopped setting recovers (came past turns) before → ClockIsStopped setting recovers (came (moment ∷ past) (turn ∷ turns)) now
    → (begins moment.what ≡ false → (before ≢ now → news ≡ Some now) × (before ≡ now → news ≡ None))
    × (begins moment.what ≡ true → (now ≡ true → news ≡ Some true) × (now ≡ false → news ≡ None))

-- If nobody has listened for ten seconds, the game is told that it resumes, after all that came before; for less, it is a wake to it.
abbrev pub UnheededResumes : Type 0
UnheededResumes = (at time : ℕ) (bytes : List ℕ) (past : List Moment) (turn : Turn) (turns : List Turn)
    → let all : List Came = came (record { at = at; what = Stops time; bytes = bytes } ∷ past) (turn ∷ turns) in
    (10000 ≤ time → (later : List Came) × (all ≡ later ++ News at Resumes ∷ came past turns))
    × (time < 10000 → all ≡ came (record { at = at; what = Cable Wakes; bytes = bytes } ∷ past) (turn ∷ turns))

-- Somebody else than the cable says that the board doesn't answer, which no host does.
abbrev pub tells_silence : What → Bool
tells_silence (Notes (Line FallsSilent)) = true
tells_silence other = false

-- Once a call has begun, SILENT isn't read of a board that answers.
abbrev pub AnsweringIsNotSilent : Type 0
AnsweringIsNotSilent = (setting : Setting) (recovers : Bool) (moment : Moment) (past : List Moment) (turn : Turn) (turns : List Turn) (state : State)
    → is_live (moment ∷ past) ≡ true → list_all (λ (one : Moment). not (tells_silence one.what)) (moment ∷ past) ≡ true
    → is_silent (told (turn ∷ turns)) ≡ false → IsStateOf setting recovers (came (moment ∷ past) (turn ∷ turns)) moment.at state → state.kind ≢ Silent
