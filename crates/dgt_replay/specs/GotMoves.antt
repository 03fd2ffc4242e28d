-- What `record` makes of the new capture of a game that got other moves, by itself and behind `recover`. Plies stand in their order.
use Rattle.std.specs.Prelude.{◌≡◌, ◌⊎◌, ℕ, Bool, List, Option, Some, true, false}
use Rattle.chess_game.specs.Games.{Content}
use Rattle.chess_rules.specs.Valid.{Valid}
use Rattle.dgt_frame.specs.declared.events.Event.{Event}
use Rattle.settle_core.specs.declared.plies.Ply.{Ply}
use Rattle.settle_core.specs.Settler.{SettlerState, HasSettled, plies_of}
use Rattle.board_captures.specs.Reading.{IsRead}
use Rattle.board_events.specs.declared.setup.Setup.{Setup}
use Rattle.board_events.specs.Session.{entries_in}
use Rattle.board_events.specs.Settings.{Setting, setting_of}
use Rattle.board_session.specs.declared.report.Report.{Report}
use Rattle.board_session.specs.Recording.{RecordsGame}
use Rattle.going_back.specs.Back.{HasOneMore}
use Rattle.going_back.specs.Replacing.{Wants}
use Rattle.recovery.specs.Weaving.{Recovers}
use Rattle.dgt_replay.specs.Instead.{AnswersInstead}

-- This game has the plies of the capture's game, read by itself or behind `recover`, up to the number with which the line begins,
-- and then the moves of the line, with the clocks of those that stand as they stood; or one more, which that game hadn't there.
abbrev pub HasGot : Setting → Bool → List ℕ → List ℕ → Content → Type 0
HasGot setting recovers capture text recorded = (past : List Event) × (game : SettlerState) × IsRead setting recovers capture past
    × HasSettled game setting.start (entries_in setting past)
    × ((stays come : ℕ) × (plies : List Ply) × Wants game.start (plies_of game) text stays come plies
    × ((recorded.plies ≡ plies) ⊎ HasOneMore (plies_of game) plies recorded.plies))

-- Of the new capture `record` writes that game.
abbrev pub GotMovesIsRecorded : Type 0
GotMovesIsRecorded = (setup : Setup) (report : Report) (capture text made line : List ℕ) (sent sent' written written' : Option (List ℕ)) → Valid setup.start
    → AnswersInstead (setting_of setup) false text capture (Some made) line
    → (r : RecordsGame setup report made sent sent' written written') → HasGot (setting_of setup) false capture text r.game

-- Where the capture was read as `recover` gives it, `record` writes so of what `recover` gives of the new one.
abbrev pub GotMovesIsRecovered : Type 0
GotMovesIsRecovered = (setup : Setup) (report : Report) (capture text made line woven lines : List ℕ) (sent sent' written written' : Option (List ℕ)) → Valid setup.start
    → AnswersInstead (setting_of setup) true text capture (Some made) line
    → Recovers (setting_of setup) made woven lines
    → (r : RecordsGame setup report woven sent sent' written written') → HasGot (setting_of setup) true capture text r.game
