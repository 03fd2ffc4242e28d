-- The lines of `watch`. Lines and events are listed with the latest first, and plies and entries too.
use Rattle.std.specs.Prelude.{◌≡◌, ◌≢◌, ◌<◌, ◌⊎◌, ℕ, true, if◌then◌else◌, List, [], ◌∷◌, ◌++◌, map, Option}
use Rattle.std.specs.List.{AllByRecursion, flat_map}
use Rattle.chess_clock.specs.declared.Reading.{Reading}
use Rattle.chess_rules.specs.declared.parts.Parts.{Parts}
use Rattle.dgt_frame.specs.declared.events.Event.{Event}
use Rattle.dgt_frame.specs.Streams.{Timed}
use Rattle.settle_core.specs.Entries.{deduplicated}
use Rattle.settle_core.specs.Folding.{Folds, Score}
use Rattle.board_events.specs.History.{reading_at}
use Rattle.board_events.specs.Pictures.{pictures}
use Rattle.board_events.specs.Settings.{Setting}
use Rattle.board_events.specs.Session.{entries_in}
use Rattle.board_listing.specs.GameText.{TellsEvent, reached_by}
use Rattle.board_listing.specs.GivenGame.{GameLine, text_of}
use Rattle.board_listing.specs.WatchLines.{picture_words, position_words, reading_words, tells_change, tells_game}

-- the line with this offset and these words
abbrev pub line_with : ℕ → List ℕ → GameLine
line_with offset words = record { offset = offset; words = words }

-- The line of the picture that was shown: none where the pictures are those before it, and else that of the newest.
abbrev pub ShowsPicture : ℕ → List (List ℕ) → List (List ℕ) → List GameLine → Type 0
ShowsPicture offset old new lines = ((new ≡ old) × (lines ≡ []))
    ⊎ ((picture : List ℕ) × (new ≡ picture ∷ old) × (lines ≡ line_with offset (picture_words picture) ∷ []))

-- The line of what the clocks show, where it has become something else.
abbrev pub ShowsReading : ℕ → Option Reading → Option Reading → List GameLine → Type 0
ShowsReading offset old new lines = ((new ≡ old) × (lines ≡ [])) ⊎ ((new ≢ old) × (lines ≡ line_with offset (reading_words new) ∷ []))

-- a line of `follow`, and the position directly behind it where it tells a move, a correction or a result
abbrev pub with_position : Parts → GameLine → List GameLine
with_position p told = if tells_change told.words then line_with told.offset (position_words p) ∷ told ∷ [] else told ∷ []

-- One line of `follow` with this offset: it has none of the kinds that `watch` adds, and no control character, so that
-- it is no two lines.
pub record IsGameLine (offset : ℕ) (told : GameLine) : Type 0 where
  pub offset_is : told.offset ≡ offset
  pub kind : tells_game told.words ≡ true
  pub one : AllByRecursion (λ byte. 31 < byte) told.words

-- The lines of an event after these: its picture, then the lines of `follow` with the position that the game has now
-- reached, then what the clocks show.
pub record WatchesEvent (setting : Setting) (past : List Event) (x : Timed) (lines : List GameLine) : Type 0 where
  pub pictured : List GameLine
  pub followed : List GameLine
  pub timed : List GameLine
  pub score : Score
  pub picture_is : ShowsPicture x.offset (pictures setting.rotated past) (pictures setting.rotated (x.event ∷ past)) pictured
  pub follows : TellsEvent setting past x (text_of followed)
  pub each : AllByRecursion (IsGameLine x.offset) followed
  pub folds : Folds setting.start (deduplicated (entries_in setting (x.event ∷ past))) score
  pub reading_is : ShowsReading x.offset (reading_at setting.first past) (reading_at setting.first (x.event ∷ past)) timed
  pub lines_are : lines ≡ timed ++ (flat_map (with_position (reached_by setting.start score)) followed ++ pictured)

-- The lines of these events, one event after the other. First of all, with offset 0, stands the position at the start.
abbrev pub Watches : Setting → List Timed → List GameLine → Type 0
Watches setting [] lines = lines ≡ line_with 0 (position_words setting.start) ∷ []
Watches setting (x ∷ past) lines = (before more : List GameLine) × Watches setting past before
    × WatchesEvent setting (map (λ t. t.event) past) x more × (lines ≡ more ++ before)
