-- What holds of each text.
use Rattle.std.specs.Prelude.{◌≡◌, ◌↔◌, ◌<◌, ◌≤◌, ◌^◌, ℕ, Bool, false, List, [], ◌∷◌, ◌++◌, length}
use Rattle.std.specs.List.{AllByRecursion}
use Rattle.answer_lines.specs.declared.said.Said.{Said}
use Rattle.answer_lines.specs.Laws.{IsSaid}
use Rattle.answer_lines.specs.Ends.{EndFits}
use Rattle.board_endings.specs.declared.news.End.{End}
use Rattle.answer_lines.specs.Looks.{LooksFit}
use Rattle.board_events.specs.declared.setup.Setup.{Setup}
use Rattle.board_events.specs.Settings.{Setting}
use Rattle.board_events.specs.Commands.{past_of}
use Rattle.board_events.specs.Game.{IsGameOf}
use Rattle.board_game.specs.History.{AreShown, Came, bytes_of}
use Rattle.board_game.specs.Report.{IsReport}
use Rattle.board_live.specs.Moments.{Moment}
use Rattle.board_alarms.specs.declared.look.Look.{Look}
use Rattle.board_times.specs.declared.events.Event.{Event}
use Rattle.chess_game.specs.Games.{Content}
use Rattle.chess_game.specs.Values.{TagValues}
use Rattle.chess_rules.specs.Valid.{Valid}
use Rattle.dgt_frame.specs.Streams.{Timed}
use Rattle.pgn_book.specs.Pgn.{Pgn}
use Rattle.watched_streams.specs.Lines.{line}
use Rattle.live_lines.specs.declared.clock.Clock.{Clock}
use Rattle.live_lines.specs.declared.entries.Entry.{Entry}
use Rattle.live_lines.specs.declared.entries.What.{What}
use Rattle.live_lines.specs.declared.entries.What.TheVariants.{Wakes, WantsText}
use Rattle.live_lines.specs.Answers.{whole_text}
use Rattle.live_lines.specs.Clock.{clock_after}
use Rattle.live_lines.specs.Entries.{IsWhole, entry_text}
use Rattle.live_lines.specs.declared.next.Next.{Next}
use Rattle.live_lines.specs.Heard.{Heard, IsHeard}
use Rattle.live_lines.specs.History.{bytes_in, history_of}
use Rattle.live_lines.specs.Next.{IsNext, IsUnfinished, Tells}
use Rattle.live_lines.specs.Recorder.{IsAnswered}
use Rattle.live_lines.specs.Text.{IsTextOf}

-- A text begins with one entry at most.
abbrev pub IsToldOnce : Type 0
IsToldOnce = (one other : Entry) (bytes others more rest : List ℕ) → IsWhole one bytes → IsWhole other others
    → entry_text one bytes ++ more ≡ entry_text other others ++ rest → (one ≡ other) × (bytes ≡ others) × (more ≡ rest)

-- While more is wanted, no entry begins the text.
abbrev pub WaitsForIt : Type 0
WaitsForIt = (text : List ℕ) (entry : Entry) (bytes more : List ℕ) → IsUnfinished text → IsWhole entry bytes
    → text ≡ entry_text entry bytes ++ more → ⊥

-- An entry that was written is told, whatever stands behind it.
abbrev pub WrittenIsTold : Type 0
WrittenIsTold = (entry : Entry) (bytes rest : List ℕ) (next : Next) → IsWhole entry bytes → IsNext (entry_text entry bytes ++ rest) next
    → Tells next entry bytes rest

-- No entry has a time before that of another one that came earlier.
abbrev pub TimesGoOn : Type 0
TimesGoOn = (later past : List Heard) → (clock_after past).last ≤ (clock_after (later ++ past)).last

-- Whatever the file of times says, each byte of the capture comes once, and in its order: what is lost there costs times and no move.
abbrev pub EachByteComesOnce : Type 0
EachByteComesOnce = (clock : Clock) (events : List Event) (capture : List ℕ) (past : List Moment)
    → bytes_in (history_of clock events capture past) ≡ bytes_in past ++ capture

-- no control character
abbrev pub IsPrinted : ℕ → Type 0
IsPrinted byte = 31 < byte

-- a line of a report: the offset of a byte, and words without a control character
pub record ReportLine : Type 0 where
  pub offset : ℕ
  pub words : List ℕ
  pub one : AllByRecursion IsPrinted words

abbrev pub report_text : List ReportLine → List ℕ
report_text [] = []
report_text (told ∷ lines) = line told.offset told.words ++ report_text lines

-- The text has such lines, and nothing else.
abbrev pub HasLines : List ℕ → Type 0
HasLines text = (lines : List ReportLine) × (text ≡ report_text lines)

-- Answers that stand one behind the other are read in one way: which bytes the capture gets, which lines are the report's, what
-- explains the board, what the text of the game is, how it ends, which alarms there are, and what is said.
abbrev pub IsAnsweredInOneWay : Type 0
IsAnsweredInOneWay = (kept others lines news fits typed game text more rest : List ℕ) (end last : End) (looks alarms : List Look) (one other : Said)
    → length kept < 2 ^ 64 → length others < 2 ^ 64 → length fits < 2 ^ 64 → length typed < 2 ^ 64 → length game < 2 ^ 64 → length text < 2 ^ 64
    → HasLines lines → HasLines news → EndFits end → EndFits last → LooksFit looks → LooksFit alarms → IsSaid one → IsSaid other
    → whole_text kept lines fits game end looks one ++ more ≡ whole_text others news typed text last alarms other ++ rest
    → (kept ≡ others) × (lines ≡ news) × (fits ≡ typed) × (game ≡ text) × (end ≡ last) × (looks ≡ alarms) × (one ≡ other) × (more ≡ rest)

-- From a valid start, what a report has more after more has come has such lines.
abbrev pub ReportsHaveLines : Type 0
ReportsHaveLines = (setting : Setting) (recovers : Bool) (past later : List Came) (text more : List ℕ) → Valid setting.start
    → IsReport setting recovers past text → IsReport setting recovers later (text ++ more) → HasLines more

-- what was told, with a wake for each entry that asks for the text
abbrev pub as_wake : What → What
as_wake WantsText = Wakes
as_wake what = what

abbrev pub with_wakes : List Heard → List Heard
with_wakes [] = []
with_wakes (heard ∷ past) = record heard { entry = record { at = heard.entry.at; what = as_wake heard.entry.what } } ∷ with_wakes past

-- An entry that asks for the text tells nothing but a time: all later answers are as if it had been a wake.
abbrev pub TextsAreNoNews : Type 0
TextsAreNoNews = (setup : Setup) (recovers : Bool) (heard : Heard) (past : List Heard) (more said : List ℕ)
    → (IsHeard heard past ↔ IsHeard heard (with_wakes past)) × (IsAnswered setup recovers heard past more said ↔ IsAnswered setup recovers heard (with_wakes past) more said)

-- If no pairs are recovered, the text is that of the game that all bytes show, with the same tags: so `record` writes it.
abbrev pub TextsAreRecorded : Type 0
TextsAreRecorded = (setting : Setting) (tags : TagValues) (past : List Came) (events : List Timed) (text : List ℕ) → AreShown (bytes_of past) events
    → IsTextOf setting false tags past text → (game : Content) × IsGameOf game setting tags (past_of events) × Pgn game text
