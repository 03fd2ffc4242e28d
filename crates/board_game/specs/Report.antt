-- The lines of the report. Items and lines are listed with the latest first.
use Rattle.std.specs.Prelude.{◌≡◌, ℕ, Bool, List, [], ◌∷◌, ◌++◌}
use Rattle.board_events.specs.Settings.{Setting}
use Rattle.board_listing.specs.GivenGame.{GameLine, text_of}
use Rattle.board_listing.specs.WatchLines.{position_words}
use Rattle.board_listing.specs.WatchText.{WatchesEvent}
use Rattle.recovery.specs.Weaving.{TellsRecovered}
use Rattle.watched_streams.specs.Lines.{line}
use Rattle.board_game.specs.History.{Came, Item, Sent, Pair, Noted, Makes, events_of}

-- the first line: the position at the start
abbrev pub first_line : Setting → List ℕ
first_line setting = line 0 (position_words setting.start)

-- The text tells these items, one after the other, behind the first line: each event as `watch` tells it after the events
-- before, and each pair as `recover` does. News of the line has no line.
abbrev pub Reports : Setting → List Item → List ℕ → Type 0
Reports setting [] text = text ≡ first_line setting
Reports setting (Sent chunk x ∷ items) text = (before : List ℕ) × (lines : List GameLine) × Reports setting items before
    × WatchesEvent setting (events_of items) x lines × (text ≡ before ++ text_of lines)
Reports setting (Pair chunk offset r ∷ items) text = (before more : List ℕ) × Reports setting items before × TellsRecovered offset r more
    × (text ≡ before ++ more)
Reports setting (Noted time note ∷ items) text = Reports setting items text

-- The text is the report of what came.
abbrev pub IsReport : Setting → Bool → List Came → List ℕ → Type 0
IsReport setting recovers past text = (items : List Item) × Makes setting recovers past items × Reports setting items text
