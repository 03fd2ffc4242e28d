-- What `follow`, `watch` and `recover` have to do with the game that `record` writes.
use Rattle.std.specs.Prelude.{ℕ, List, ◌++◌, Option, Some, reverse}
use Rattle.std.specs.Io.KnownBytes.{Appends}
use Rattle.chess_rules.specs.Valid.{Valid}
use Rattle.dgt_frame.specs.Streams.{Shows, Timed}
use Rattle.settle_core.specs.declared.plies.Outcome.{Outcome}
use Rattle.settle_core.specs.Entries.{Entry, deduplicated}
use Rattle.settle_core.specs.Folding.{score_of}
use Rattle.unseen_pairs.specs.Recovering.{FoldsRecovering}
use Rattle.chess_game.specs.Games.{Content, Result}
use Rattle.board_events.specs.declared.setup.Setup.{Setup}
use Rattle.board_events.specs.Commands.{past_of}
use Rattle.board_events.specs.Session.{entries_in}
use Rattle.board_events.specs.Settings.{Setting, setting_of}
use Rattle.board_session.specs.declared.report.Report.{Report}
use Rattle.board_session.specs.Recording.{RecordsGame}
use Rattle.board_listing.specs.declared.listing.Listing.TheVariants.{Game, Watched}
use Rattle.board_listing.specs.EventLines.{rest_line}
use Rattle.board_listing.specs.GivenGame.{AreInStream, GameLine, Gives, text_of}
use Rattle.board_listing.specs.Listings.{ListsAll}
use Rattle.board_listing.specs.WatchLaws.{game_lines}
use Rattle.recovery.specs.Invented.{AreShownOrTold}
use Rattle.recovery.specs.Weaving.{Recovers}

-- Where `record` writes the PGN text of a game of a whole stream, `follow` writes, of the same bytes and as it is set
-- up, lines that give this game, and the line of the rest.
abbrev pub FollowTellsTheGame : Type 0
FollowTellsTheGame = (setup : Setup) (report : Report) (bytes : List ℕ) (sent sent' written written' told told' : Option (List ℕ))
    → (recorded : RecordsGame setup report bytes sent sent' written written')
    → ListsAll (Game setup.start setup.first setup.rotated) (Some bytes) told told'
    → (lines : List GameLine) × (rest : ℕ) × Appends told told' (text_of lines ++ rest_line rest)
    × Gives setup.start lines (reverse recorded.game.plies) recorded.game.result × AreInStream lines

-- So does `watch`: its lines, without those that it adds, give this game.
abbrev pub WatchTellsTheGame : Type 0
WatchTellsTheGame = (setup : Setup) (report : Report) (bytes : List ℕ) (sent sent' written written' told told' : Option (List ℕ))
    → (recorded : RecordsGame setup report bytes sent sent' written written')
    → ListsAll (Watched setup.start setup.first setup.rotated) (Some bytes) told told'
    → (lines : List GameLine) × (rest : ℕ) × Appends told told' (text_of lines ++ rest_line rest)
    × Gives setup.start (game_lines lines) (reverse recorded.game.plies) recorded.game.result × AreInStream lines

-- The game is that of these bytes where unseen pairs are recovered: its plies and its result are what their pictures
-- give, of which one that equals the one before counts no further time.
pub record IsRecoveredFrom (game : Content) (setting : Setting) (bytes : List ℕ) : Type 0 where
  pub events : List Timed
  pub rest : ℕ
  pub shows : Shows bytes events rest
  pub sign : Option Outcome
  pub waiting : List Entry
  pub folds : FoldsRecovering setting.start (deduplicated (entries_in setting (past_of events))) (score_of game.plies sign) waiting
  pub result_is : Result setting.start game.plies sign game.result

-- Of bytes with what is put in `record` writes the game of the bytes where unseen pairs are recovered.
abbrev pub RecordsRecovered : Type 0
RecordsRecovered = (setup : Setup) (report : Report) (bytes woven text : List ℕ) (sent sent' written written' : Option (List ℕ)) → Valid setup.start
    → Recovers (setting_of setup) bytes woven text → (r : RecordsGame setup report woven sent sent' written written')
    → IsRecoveredFrom r.game (setting_of setup) bytes

-- Nothing is invented: each ply of that game was shown by the bytes, or it is one of a pair whose line was written.
abbrev pub RecordsShownOrTold : Type 0
RecordsShownOrTold = (setup : Setup) (report : Report) (bytes woven text : List ℕ) (sent sent' written written' : Option (List ℕ)) → Valid setup.start
    → (w : Recovers (setting_of setup) bytes woven text) → (r : RecordsGame setup report woven sent sent' written written')
    → AreShownOrTold (setting_of setup) (reverse r.game.plies) (past_of w.events) text
