-- What `record` makes of the new capture of a game that went back, by itself and behind `recover`. Plies stand in their order.
use Rattle.std.specs.Prelude.{◌≡◌, ◌⊎◌, ℕ, Bool, List, Option, None, Some, true, false, take}
use Rattle.chess_game.specs.Games.{Content}
use Rattle.chess_rules.specs.Valid.{Valid}
use Rattle.dgt_frame.specs.declared.events.Event.{Event}
use Rattle.settle_core.specs.Settler.{SettlerState, HasSettled, plies_of}
use Rattle.board_captures.specs.Reading.{IsRead}
use Rattle.board_events.specs.declared.setup.Setup.{Setup}
use Rattle.board_events.specs.Session.{entries_in}
use Rattle.board_events.specs.Settings.{Setting, setting_of}
use Rattle.board_session.specs.declared.report.Report.{Report}
use Rattle.board_session.specs.Recording.{RecordsGame}
use Rattle.going_back.specs.Back.{HasOneMore}
use Rattle.going_back.specs.Naming.{Names}
use Rattle.recovery.specs.Weaving.{Recovers}
use Rattle.dgt_replay.specs.Back.{AnswersBack}

-- This game has exactly the plies of the capture's game, read by itself or behind `recover`, up to the one that the text
-- names, with their clocks, and no result; or one more, which that game hadn't there.
abbrev pub HasStayed : Setting → Bool → List ℕ → List ℕ → Content → Type 0
HasStayed setting recovers capture to recorded = (past : List Event) × (game : SettlerState) × (k : ℕ) × IsRead setting recovers capture past
    × HasSettled game setting.start (entries_in setting past) × Names game.start (plies_of game) to k
    × (((recorded.plies ≡ take k (plies_of game)) × (recorded.result ≡ None)) ⊎ HasOneMore (plies_of game) (take k (plies_of game)) recorded.plies)

-- Of the new capture `record` writes that game.
abbrev pub WentBackIsRecorded : Type 0
WentBackIsRecorded = (setup : Setup) (report : Report) (capture to made line : List ℕ) (sent sent' written written' : Option (List ℕ)) → Valid setup.start
    → AnswersBack (setting_of setup) false to capture (Some made) line
    → (r : RecordsGame setup report made sent sent' written written') → HasStayed (setting_of setup) false capture to r.game

-- Where the capture was read as `recover` gives it, `record` writes so of what `recover` gives of the new one.
abbrev pub WentBackIsRecovered : Type 0
WentBackIsRecovered = (setup : Setup) (report : Report) (capture to made line woven text : List ℕ) (sent sent' written written' : Option (List ℕ)) → Valid setup.start
    → AnswersBack (setting_of setup) true to capture (Some made) line
    → Recovers (setting_of setup) made woven text
    → (r : RecordsGame setup report woven sent sent' written written') → HasStayed (setting_of setup) true capture to r.game
