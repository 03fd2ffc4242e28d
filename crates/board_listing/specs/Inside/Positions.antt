-- What a watcher tells of a picture, with the positions.
use Rattle.std.specs.Prelude.{◌≡◌, ◌≢◌, ◌⊎◌, ℕ, List, [], ◌++◌, Option}
use Rattle.chess_rules.specs.declared.parts.Parts.{Parts}
use Rattle.settle_core.specs.declared.plies.Outcome.{Outcome}
use Rattle.settle_core.specs.declared.plies.Seen.{Seen}
use Rattle.settle_core.specs.declared.plies.Seen.TheVariants.{Same, Moved, Sign, Replaced, Waits}
use Rattle.settle_core.specs.Folding.{Score}
use Rattle.watched_streams.specs.Lines.{line}
use Rattle.board_listing.specs.GameLines.{result_words}
use Rattle.board_listing.specs.GameText.{HasResult, TellsSeen, reached_by}
use Rattle.board_listing.specs.WatchLines.{position_words}

-- The text is what is told of what a picture shows, and behind a ply the position.
abbrev pub TellsSeenAndPosition : ℕ → Parts → Score → List ℕ → Seen → List ℕ → Type 0
TellsSeenAndPosition offset start score shown (Moved m) text = (told : List ℕ) × TellsSeen offset start score shown (Moved m) told
    × (text ≡ told ++ line offset (position_words (reached_by start score)))
TellsSeenAndPosition offset start score shown (Replaced m) text = (told : List ℕ) × TellsSeen offset start score shown (Replaced m) told
    × (text ≡ told ++ line offset (position_words (reached_by start score)))
TellsSeenAndPosition offset start score shown (Sign outcome) text = TellsSeen offset start score shown (Sign outcome) text
TellsSeenAndPosition offset start score shown Waits text = TellsSeen offset start score shown Waits text
TellsSeenAndPosition offset start score shown Same text = ⊥

-- The text tells the result and the position where the result has become another one.
abbrev pub TellsResultAndPosition : ℕ → Option Outcome → Option Outcome → Parts → List ℕ → Type 0
TellsResultAndPosition offset old new p text = ((new ≡ old) × (text ≡ []))
    ⊎ ((new ≢ old) × (text ≡ line offset (result_words new) ++ line offset (position_words p)))

-- Where this score stands, the lines of what this picture showed were added, with the positions.
pub record AddsNewsAndPositions (offset : ℕ) (start : Parts) (score : Score) (shown : List ℕ) (seen : Seen) (old new : Option Outcome) (lines lines' : List ℕ) : Type 0 where
  pub first : List ℕ
  pub second : List ℕ
  pub first_is : TellsSeenAndPosition offset start score shown seen first
  pub second_is : TellsResultAndPosition offset old new (reached_by start score) second
  pub result_is : HasResult start score new
  pub lines_are : lines' ≡ lines ++ (first ++ second)
