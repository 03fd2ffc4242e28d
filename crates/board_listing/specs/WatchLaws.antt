-- What the lines of `watch` have to do with those of `follow` and `pictures`. Lines, events, plies and pictures are
-- listed with the latest first.
use Rattle.std.specs.Prelude.{◌≡◌, ◌<◌, ℕ, Bool, true, List, [], ◌∷◌, ◌++◌, codes, drop, length, map, reverse, Option, None, ⊤}
use Rattle.std.specs.List.{AllByRecursion, filter, flat_map}
use Rattle.chess_rules.specs.declared.parts.Parts.{Parts}
use Rattle.chess_rules.specs.Valid.{Valid}
use Rattle.dgt_frame.specs.declared.First.{First}
use Rattle.dgt_frame.specs.declared.events.Event.{Event}
use Rattle.dgt_frame.specs.declared.events.Event.TheVariants.{Message, Fault}
use Rattle.dgt_frame.specs.declared.events.Message.TheVariants.{Dump, Update, Time, Other}
use Rattle.dgt_frame.specs.Streams.{Timed}
use Rattle.settle_core.specs.declared.plies.Outcome.{Outcome}
use Rattle.settle_core.specs.declared.plies.Ply.{Ply}
use Rattle.settle_core.specs.Folding.{moves_of}
use Rattle.settle_core.specs.GameResult.{IsResult}
use Rattle.settle_core.specs.Settling.{reached}
use Rattle.chess_game.specs.Games.{Content}
use Rattle.chess_game.specs.Values.{TagValues}
use Rattle.board_events.specs.Entries.{Idle}
use Rattle.board_events.specs.Game.{IsGameOf}
use Rattle.board_events.specs.History.{reading_at}
use Rattle.board_events.specs.Limits.{limit}
use Rattle.board_events.specs.Pictures.{pictures}
use Rattle.board_events.specs.Settings.{Setting}
use Rattle.board_listing.specs.GameText.{TellsEvents}
use Rattle.board_listing.specs.GivenGame.{AreInStream, EndsLines, GameLine, Gives, text_of}
use Rattle.board_listing.specs.PictureLines.{placement_line}
use Rattle.board_listing.specs.WatchLines.{position_words, tells_game, tells_picture, tells_position}
use Rattle.board_listing.specs.WatchText.{ShowsReading, Watches, WatchesEvent}

-- the lines without those that tell a picture, a position or what the clocks show
abbrev pub game_lines : List GameLine → List GameLine
game_lines lines = filter (λ told. tells_game told.words) lines

-- the lines that tell a picture
abbrev pub watched_pictures : List GameLine → List GameLine
watched_pictures lines = filter (λ told. tells_picture told.words) lines

-- Without the lines that `watch` adds, its text is that of `follow`.
abbrev pub WatchTellsWhatFollowTells : Type 0
WatchTellsWhatFollowTells = (setting : Setting) (events : List Timed) (lines : List GameLine) → Watches setting events lines
    → TellsEvents setting events (text_of (game_lines lines))

-- what a line of a picture says behind its first word, as a line
abbrev pub said_of_picture : GameLine → List ℕ
said_of_picture told = drop (length (codes "picture ")) told.words ++ codes "\n"

-- The lines that tell a picture are, without offset and word, those of `pictures`.
abbrev pub WatchShowsThePictures : Type 0
WatchShowsThePictures = (setting : Setting) (events : List Timed) (lines : List GameLine) → Watches setting events lines
    → flat_map said_of_picture (reverse (watched_pictures lines)) ≡ flat_map placement_line (reverse (pictures setting.rotated (map (λ t. t.event) events)))

-- Each line that tells a position has that which the lines of `follow` before it give.
abbrev pub NamesPositions : Parts → List GameLine → Type 0
NamesPositions start [] = ⊤
NamesPositions start (told ∷ earlier) = (tells_position told.words ≡ true → (plies : List Ply) × (result : Option Outcome)
    × Gives start (game_lines earlier) plies result × (told.words ≡ position_words (reached start (moves_of plies)))) × NamesPositions start earlier

-- The positions are those that the moves lead to. The start has this result: none, but where it is checkmate or
-- stalemate.
abbrev pub WatchNamesThePositions : Type 0
WatchNamesThePositions = (setting : Setting) (begin : Option Outcome) (events : List Timed) (lines : List GameLine) → Valid setting.start
    → IsResult setting.start None begin → AllByRecursion (λ x. x.offset < limit) events → Watches setting events lines → NamesPositions setting.start lines

-- Each of these events has an offset that a stream within the limit has.
abbrev pub FitInStream : List Timed → Type 0
FitInStream events = AllByRecursion (λ x. x.offset < limit) events

-- The lines of `watch`, without those that it adds, give the game of the events.
abbrev pub WatchLinesGiveTheGame : Type 0
WatchLinesGiveTheGame = (setting : Setting) (tags : TagValues) (events : List Timed) (lines : List GameLine) (game : Content) → Valid setting.start
    → FitInStream events → Watches setting events lines → IsGameOf game setting tags (map (λ t. t.event) events)
    → Gives setting.start (game_lines lines) (reverse game.plies) game.result × AreInStream lines

-- A text of `watch` tells its lines: those of two lists of events, whatever their settings, have one text only if they
-- are the same lines. The line of the rest may stand behind them.
abbrev pub WatchTextTellsItsLines : Type 0
WatchTextTellsItsLines = (setting begin : Setting) (events others : List Timed) (lines told : List GameLine) (last end : List ℕ)
    → Valid setting.start → Valid begin.start → FitInStream events → FitInStream others → Watches setting events lines → Watches begin others told
    → EndsLines last → EndsLines end → text_of lines ++ last ≡ text_of told ++ end → (lines ≡ told) × (last ≡ end)

-- The last dump has these codes, and no update and no fault came after it.
abbrev pub LastDumpIs : List ℕ → List Event → Type 0
LastDumpIs codes [] = ⊥
LastDumpIs codes (Message (Dump others) ∷ past) = codes ≡ others
LastDumpIs codes (Message (Update field code) ∷ past) = ⊥
LastDumpIs codes (Message (Time times) ∷ past) = LastDumpIs codes past
LastDumpIs codes (Message (Other id size) ∷ past) = LastDumpIs codes past
LastDumpIs codes (Fault kind ∷ past) = ⊥

-- An idle event has no line of `watch`.
pub record IdleEventsTellNothing : Type 0 where
  pub nothing : (setting : Setting) (past : List Event) (x : Timed) (lines : List GameLine) → Idle setting.first setting.rotated past x.event
      → WatchesEvent setting past x lines → lines ≡ []
  -- a dump is idle if the last one was the same, and no update and no fault came after it
  pub dumps : (first : First) (rotated : Bool) (past : List Event) (codes : List ℕ) → LastDumpIs codes past → Idle first rotated past (Message (Dump codes))
  -- so is each message but a dump, an update and a time
  pub others : (first : First) (rotated : Bool) (past : List Event) (id size : ℕ) → Idle first rotated past (Message (Other id size))
  -- a time has no line but that of the clocks
  pub times : (setting : Setting) (past : List Event) (offset : ℕ) (times : List ℕ) (lines : List GameLine)
      → WatchesEvent setting past (record { offset = offset; event = Message (Time times) }) lines
      → ShowsReading offset (reading_at setting.first past) (reading_at setting.first (Message (Time times) ∷ past)) lines
