-- What holds of all games and texts.
use Rattle.std.specs.Prelude.{◌≡◌, ◌≤◌, ◌+◌, ◌*◌, ℕ, List, length}
use Rattle.chess_game.specs.Games.{Content}
use Rattle.pgn_book.specs.Pgn.{Pgn}

-- No two games have one text.
abbrev pub TextsTellGames : Type 0
TextsTellGames = (one other : Content) (text : List ℕ) → Pgn one text → Pgn other text → one ≡ other

-- A game has at most one text.
abbrev pub GamesTellTexts : Type 0
GamesTellTexts = (game : Content) (one other : List ℕ) → Pgn game one → Pgn game other → one ≡ other

-- A text has at most 33 bytes for each ply, and 2,000 more: Black's move may have a number, `9999...`, a SAN of seven
-- bytes and a clock comment of sixteen, each with the byte before it.
abbrev pub TextsAreShort : Type 0
TextsAreShort = (game : Content) (text : List ℕ) → Pgn game text → length text ≤ 33 * length game.plies + 2000
