-- A recorder that a host tells entries, and what it answers. Entries are listed with the latest first.
use Rattle.std.specs.Prelude.{◌≡◌, ℕ, Bool, true, false, List, ◌∷◌, drop, IfSome, Option}
use Rattle.board_cable.specs.Pace.{AsksAlike}
use Rattle.board_cable.specs.Whose.{HandledAlike}
use Rattle.board_cable.specs.Keeping.{kept}
use Rattle.board_cable.specs.Turns.{Told, Turn, told}
use Rattle.board_events.specs.declared.setup.Setup.{Setup}
use Rattle.board_events.specs.Settings.{Setting, setting_of}
use Rattle.board_game.specs.Alarming.{AlarmsAre}
use Rattle.board_game.specs.History.{Came}
use Rattle.board_game.specs.Report.{IsReport}
use Rattle.board_live.specs.declared.live.Answer.{Answer}
use Rattle.board_live.specs.Coming.{came}
use Rattle.board_live.specs.Due.{IsDue, MayChange, StaysAlike}
use Rattle.board_live.specs.Ending.{EndStays}
use Rattle.board_live.specs.Live.{Answers, HasBegun as LiveHasBegun, StandsFor as LiveStands}
use Rattle.board_live.specs.Moments.{cabled}
use Rattle.board_alarms.specs.declared.look.Look.{Look}
use Rattle.live_lines.specs.declared.recorder.Recorder.{Recorder}
use Rattle.live_lines.specs.Answers.{answer_text, capture_text}
use Rattle.live_lines.specs.Clock.{clock_after}
use Rattle.live_lines.specs.Entries.{brings_capture, wants_text}
use Rattle.live_lines.specs.Explaining.{ExplainsSaid}
use Rattle.live_lines.specs.Heard.{Heard, waiting}
use Rattle.live_lines.specs.Meaning.{moment_of, moments, time_of}
use Rattle.live_lines.specs.Text.{GivesText}

-- This was told, and the text reports it. A reader needs none of this: the contracts hold for whatever it says.
pub record StandsFor (recorder : Recorder) (setup : Setup) (recovers : Bool) (past : List Heard) (text : List ℕ) : Type 0 where
  pub clock : recorder.clock ≡ clock_after past
  pub times : recorder.times.items ≡ waiting past
  pub tags : recorder.tags ≡ setup.tags
  pub live : LiveStands recorder.live (setting_of setup) recovers (moments past) text

abbrev pub HasBegun : Recorder → Type 0
HasBegun recorder = LiveHasBegun recorder.live

-- Of the open alarms these are said: those behind so many that aren't.
abbrev pub SaysAlarms : Setting → Bool → List Came → ℕ → List Look → Type 0
SaysAlarms setting recovers past unsaid looks = (alarms : List Look) × AlarmsAre setting recovers past alarms × (looks ≡ drop unsaid alarms)

-- This is said to the last entry, with these new lines of the report: what `board_live` answers to it, what explains the board if it
-- is said to be wrong, the text of the game if the entry asks for it, alarms, and when the recorder is to be woken.
pub record IsSaidOf (setup : Setup) (recovers : Bool) (heard : Heard) (past : List Heard) (turn : Turn) (turns : List Turn) (more said : List ℕ) : Type 0 where
  pub answer : Answer
  pub fits : List ℕ
  pub game : List ℕ
  pub looks : List Look
  pub due : Option ℕ
  pub text : said ≡ answer_text (time_of heard past) answer (kept (turn ∷ turns)) more fits game looks due
  pub alarms : SaysAlarms (setting_of setup) recovers (came (moment_of heard past ∷ moments past) (turn ∷ turns)) answer.unsaid looks
  pub answers : Answers (setting_of setup) recovers (moment_of heard past) (moments past) turn turns answer
  pub explains : ExplainsSaid answer.state (setting_of setup) recovers (came (moment_of heard past ∷ moments past) (turn ∷ turns)) fits
  pub gives : GivesText (wants_text heard.entry.what) (setting_of setup) recovers setup.tags (came (moment_of heard past ∷ moments past) (turn ∷ turns)) game
  pub asks : AsksAlike (time_of heard past) (told (turn ∷ turns)) due
  pub handling : HandledAlike (time_of heard past) (told (turn ∷ turns)) due
  pub state : StaysAlike (setting_of setup) recovers (came (moment_of heard past ∷ moments past) (turn ∷ turns)) (time_of heard past) due
  pub changes : IfSome due (λ d. MayChange (setting_of setup) recovers (came (moment_of heard past ∷ moments past) (turn ∷ turns)) (told (turn ∷ turns)) (time_of heard past) d)
  pub end : EndStays (setting_of setup) recovers (came (moment_of heard past ∷ moments past) (turn ∷ turns)) (time_of heard past) due
  pub wakes : IsDue (setting_of setup) recovers (came (moment_of heard past ∷ moments past) (turn ∷ turns)) (told (turn ∷ turns)) (time_of heard past) due

-- A capture is answered by its report alone.
abbrev pub IsAnsweredBy : Bool → Setup → Bool → Heard → List Heard → List ℕ → List ℕ → Type 0
IsAnsweredBy true setup recovers heard past more said = said ≡ capture_text more
IsAnsweredBy false setup recovers heard past more said = (turn : Turn) × (turns : List Turn) × Told (cabled (moment_of heard past ∷ moments past)) (turn ∷ turns)
    × IsSaidOf setup recovers heard past turn turns more said

-- The entry is answered.
abbrev pub IsAnswered : Setup → Bool → Heard → List Heard → List ℕ → List ℕ → Type 0
IsAnswered setup recovers heard past more said = IsAnsweredBy (brings_capture heard.entry.what) setup recovers heard past more said

-- The text is the report of what came to the game.
abbrev pub Reports : Setup → Bool → List Heard → List ℕ → Type 0
Reports setup recovers past text = (turns : List Turn) × Told (cabled (moments past)) turns
    × IsReport (setting_of setup) recovers (came (moments past) turns) text
