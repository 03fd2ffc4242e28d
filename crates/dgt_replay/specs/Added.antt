-- What `record` makes of a capture to which a typed line was added, by itself and behind `recover`.
use Rattle.std.specs.Prelude.{◌≡◌, ℕ, Bool, List, [], ◌++◌, Option, true, false, ⊤}
use Rattle.adding.specs.Answers.{IsAnswered, position_of}
use Rattle.adding.specs.Making.{plies_with, sign_with}
use Rattle.adding.specs.Stays.{HasGame}
use Rattle.adding.specs.declared.adding.Answer.{Answer}
use Rattle.adding.specs.declared.adding.Answer.TheVariants.{Added, Refused}
use Rattle.board_events.specs.declared.setup.Setup.{Setup}
use Rattle.board_events.specs.Settings.{setting_of}
use Rattle.board_session.specs.declared.report.Report.{Report}
use Rattle.board_session.specs.Recording.{RecordsGame}
use Rattle.chess_rules.specs.Valid.{Valid}
use Rattle.recovery.specs.Weaving.{Recovers}
use Rattle.settle_core.specs.declared.plies.Outcome.{Outcome}
use Rattle.settle_core.specs.declared.plies.Ply.{Ply}
use Rattle.typed_lines.specs.declared.reading.Typed.{Typed}
use Rattle.typed_lines.specs.Lines.{ReadsLine}

-- the bytes that are added; none where the line is refused
abbrev pub added_by : Answer → List ℕ
added_by (Added said added) = added.items
added_by (Refused said reason) = []

abbrev pub IsAdded : Answer → Type 0
IsAdded (Added said added) = ⊤
IsAdded (Refused said reason) = ⊥

-- These plies and this sign are those of the capture's game, read by itself or behind `recover`, with what the line says
-- in the position that it has reached.
abbrev pub AreWithLine : Setup → Bool → List ℕ → List ℕ → List Ply → Option Outcome → Type 0
AreWithLine setup recovers capture line plies sign = (before : List Ply) × (old : Option Outcome) × HasGame (setting_of setup) recovers capture before old
    × ((said : Typed) × ReadsLine (position_of (setting_of setup) before) line said × (plies ≡ plies_with before said) × (sign ≡ sign_with said))

-- Of a capture with the bytes that a line adds, `record` writes the plies of the capture and those that were typed, or
-- the plies of the capture and the result.
abbrev pub AddedLinesAreRecorded : Type 0
AddedLinesAreRecorded = (setup : Setup) (report : Report) (capture line : List ℕ) (answer : Answer) (sent sent' written written' : Option (List ℕ)) → Valid setup.start
    → IsAnswered (setting_of setup) false capture line answer → IsAdded answer
    → (r : RecordsGame setup report (capture ++ added_by answer) sent sent' written written') → AreWithLine setup false capture line r.game.plies r.game_is.sign

-- Where the line was added to the capture as `recover` gives it, `record` writes so of what `recover` gives of the capture
-- with these bytes.
abbrev pub AddedLinesAreRecovered : Type 0
AddedLinesAreRecovered = (setup : Setup) (report : Report) (capture line woven text : List ℕ) (answer : Answer) (sent sent' written written' : Option (List ℕ)) → Valid setup.start
    → IsAnswered (setting_of setup) true capture line answer → IsAdded answer
    → Recovers (setting_of setup) (capture ++ added_by answer) woven text
    → (r : RecordsGame setup report woven sent sent' written written') → AreWithLine setup true capture line r.game.plies r.game_is.sign
