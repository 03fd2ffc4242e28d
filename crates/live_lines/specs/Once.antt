-- That what is written follows from what was told. Entries are listed with the latest first.
use Rattle.std.specs.Prelude.{◌≡◌, ◌≤◌, ℕ, Bool, List, ◌++◌, length}
use Rattle.chess_rules.specs.Valid.{Valid}
use Rattle.board_events.specs.declared.setup.Setup.{Setup}
use Rattle.board_events.specs.Settings.{Setting, setting_of}
use Rattle.board_events.specs.Limits.{limit}
use Rattle.board_game.specs.History.{Came, bytes_of}
use Rattle.board_game.specs.Report.{IsReport}
use Rattle.chess_game.specs.Values.{TagValues}
use Rattle.live_lines.specs.Explaining.{Explains}
use Rattle.live_lines.specs.Heard.{Heard}
use Rattle.live_lines.specs.Recorder.{IsAnswered}
use Rattle.live_lines.specs.Streams.{Writes}
use Rattle.live_lines.specs.Text.{IsTextOf}

-- From a valid start what came has one text.
abbrev pub HasOneText : Type 0
HasOneText = (setting : Setting) (recovers : Bool) (tags : TagValues) (past : List Came) (one other : List ℕ) → Valid setting.start
    → IsTextOf setting recovers tags past one → IsTextOf setting recovers tags past other → one ≡ other

-- From a valid start what is said to explain the board follows from what came.
abbrev pub IsExplainedOnce : Type 0
IsExplainedOnce = (setting : Setting) (recovers : Bool) (past : List Came) (one other : List ℕ) → Valid setting.start
    → Explains setting recovers past one → Explains setting recovers past other → one ≡ other

-- From a valid start an entry has one answer, byte for byte: it follows from what was told, and from what the report has more with it.
abbrev pub HasOneAnswer : Type 0
HasOneAnswer = (setup : Setup) (recovers : Bool) (heard : Heard) (past : List Heard) (more said other : List ℕ) → Valid (setting_of setup).start
    → IsAnswered setup recovers heard past more said → IsAnswered setup recovers heard past more other → said ≡ other

-- From a valid start what came has one report.
abbrev pub HasOneReport : Type 0
HasOneReport = (setting : Setting) (recovers : Bool) (past : List Came) (one other : List ℕ) → Valid setting.start → length (bytes_of past) ≤ limit
    → IsReport setting recovers past one → IsReport setting recovers past other → one ≡ other

-- Answers are a function: from a valid start two runs that are told the same write the same bytes.
abbrev pub SaysOneThing : Type 0
SaysOneThing = (setup : Setup) (recovers : Bool) (past : List Heard) (report news said other : List ℕ) → Valid (setting_of setup).start
    → Writes setup recovers past report said → Writes setup recovers past news other → (report ≡ news) × (said ≡ other)

-- Later entries change nothing: what is written of more entries begins with what any run writes of the first ones.
abbrev pub LaterChangesNothing : Type 0
LaterChangesNothing = (setup : Setup) (recovers : Bool) (later past : List Heard) (report news said first : List ℕ) → Valid (setting_of setup).start
    → Writes setup recovers (later ++ past) report said → Writes setup recovers past news first → (more : List ℕ) × (said ≡ first ++ more)
