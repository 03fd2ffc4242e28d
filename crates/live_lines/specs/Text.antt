-- The text of the game so far. Items are listed with the latest first.
use Rattle.std.specs.Prelude.{◌≡◌, ℕ, Bool, true, false, List, []}
use Rattle.board_events.specs.Game.{IsGameOf}
use Rattle.board_events.specs.Settings.{Setting}
use Rattle.board_game.specs.History.{Came, Item, Makes, events_of}
use Rattle.chess_game.specs.Games.{Content}
use Rattle.chess_game.specs.Values.{TagValues}
use Rattle.pgn_book.specs.Pgn.{Pgn}

-- The text is that of the game, with these tags: the game is folded from the events of all bytes, and from those that
-- are put in for recovered pairs.
abbrev pub IsTextOf : Setting → Bool → TagValues → List Came → List ℕ → Type 0
IsTextOf setting recovers tags past text = (items : List Item) × (game : Content) × Makes setting recovers past items
    × IsGameOf game setting tags (events_of items) × Pgn game text

-- The text is given if the entry asks for it, and only then.
abbrev pub GivesText : Bool → Setting → Bool → TagValues → List Came → List ℕ → Type 0
GivesText true setting recovers tags past text = IsTextOf setting recovers tags past text
GivesText false setting recovers tags past text = text ≡ []
