-- What the text that `live` gives of a game has to do with what `record` writes.
use Rattle.std.specs.Prelude.{ℕ, true, false, List, Option}
use Rattle.std.specs.Io.KnownBytes.{Appends}
use Rattle.chess_rules.specs.Valid.{Valid}
use Rattle.board_events.specs.declared.setup.Setup.{Setup}
use Rattle.board_events.specs.Settings.{setting_of}
use Rattle.board_game.specs.History.{Came, bytes_of}
use Rattle.board_session.specs.declared.report.Report.{Report}
use Rattle.board_session.specs.Recording.{RecordsGame}
use Rattle.live_lines.specs.Text.{IsTextOf}
use Rattle.recovery.specs.Weaving.{Recovers}

-- Where no pairs are recovered, `record` writes that text of the bytes of the game.
abbrev pub LiveTextsAreRecorded : Type 0
LiveTextsAreRecorded = (setup : Setup) (report : Report) (past : List Came) (text : List ℕ) (sent sent' written written' : Option (List ℕ)) → Valid setup.start
    → IsTextOf (setting_of setup) false setup.tags past text
    → RecordsGame setup report (bytes_of past) sent sent' written written' → Appends written written' text

-- Where they are, `record` writes it of what `recover` gives of those bytes.
abbrev pub LiveTextsAreRecovered : Type 0
LiveTextsAreRecovered = (setup : Setup) (report : Report) (past : List Came) (woven lines text : List ℕ) (sent sent' written written' : Option (List ℕ)) → Valid setup.start
    → IsTextOf (setting_of setup) true setup.tags past text → Recovers (setting_of setup) (bytes_of past) woven lines
    → RecordsGame setup report woven sent sent' written written' → Appends written written' text
