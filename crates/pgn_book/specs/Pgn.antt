-- The PGN export text of a game.
use Rattle.std.specs.Prelude.{◌≡◌, ◌≢◌, ℕ, List, [], ◌∷◌, ◌++◌, codes, ◌==◌, ◌||◌, if◌then◌else◌}
use Rattle.std.specs.List.{flat_map}
use Rattle.chess_rules.specs.declared.parts.Parts.{Parts}
use Rattle.chess_rules.specs.Initial.{initial}
use Rattle.chess_text.specs.Fen.{fen}
use Rattle.chess_game.specs.declared.values.Tag.{Tag}
use Rattle.chess_game.specs.TagNames.{all_tags, tag_name}
use Rattle.chess_game.specs.Values.{TagValues, value_of}
use Rattle.chess_game.specs.Games.{Content, IsGame}
use Rattle.pgn_book.specs.Lines.{IsMovetext}
use Rattle.pgn_book.specs.Movetext.{ShownMove, ArePliesShown, result_text, game_tokens}

-- a quotation mark (34) and a backslash (92) have a backslash before them
abbrev pub escape : ℕ → List ℕ
escape b = if b == 34 || b == 92 then 92 ∷ b ∷ [] else b ∷ []

abbrev pub escaped : List ℕ → List ℕ
escaped value = flat_map escape value

-- `[Name "Value"]` and LF
abbrev pub tag_line : List ℕ → List ℕ → List ℕ
tag_line name value = codes "[" ++ (name ++ (codes " \"" ++ (escaped value ++ codes "\"]\n")))

-- the lines of these tags, in this order
abbrev pub tag_lines : TagValues → List Tag → List ℕ
tag_lines values = flat_map (λ tag. tag_line (tag_name tag) (value_of tag values))

-- the tags that every game has, in their order
unfoldable pub roster : TagValues → List ℕ → List ℕ
roster values result = tag_lines values all_tags ++ tag_line (codes "Result") result

-- FEN and SetUp, exactly where the start is not the initial position
pub data IsSetUp (start : Parts) (lines : List ℕ) : Type 0 where
  at_initial : start ≡ initial → lines ≡ [] → IsSetUp start lines
  elsewhere :
      start ≢ initial
      → lines ≡ tag_line (codes "FEN") (fen start) ++ tag_line (codes "SetUp") (codes "1")
      → IsSetUp start lines

-- The text is that of the game: the tags, an empty line, the movetext, an empty line.
pub record Pgn (game : Content) (text : List ℕ) : Type 0 where
  pub is_game : IsGame game
  pub set_up : List ℕ
  pub is_set_up : IsSetUp game.start set_up
  pub moves : List ShownMove
  pub are_moves : ArePliesShown game.start game.plies moves
  pub movetext : List ℕ
  pub is_movetext : IsMovetext (game_tokens moves game.result) movetext
  pub is_text : text ≡ roster game.tags (result_text game.result) ++ (set_up ++ 10 ∷ movetext ++ 10 ∷ [])
