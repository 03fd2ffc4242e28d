-- What `positions` prints of the moves of its input.
use Rattle.std.specs.Prelude.{◌≡◌, ◌⊎◌, ◌+◌, ◌<◌, ◌≤◌, ℕ, List, [], ◌∷◌, ◌++◌, codes, decimal, length, Option, IfSome, ⊤, true}
use Rattle.std.specs.Io.KnownBytes.{Appends, Keeps}
use Rattle.chess_rules.specs.declared.chess_move.Move.{Move}
use Rattle.chess_rules.specs.declared.parts.Parts.{Parts}
use Rattle.chess_rules.specs.After.{after}
use Rattle.chess_rules.specs.Legal.{Legal}
use Rattle.chess_text.specs.Fen.{fen}
use Rattle.chess_text.specs.San.{San}
use Rattle.settle_core.specs.Settling.{position_after}
use Rattle.watched_streams.specs.Output.{AppendsPart}
use Rattle.text_subcommands.specs.Messages.{IsTooLong, Tells}
use Rattle.text_subcommands.specs.Words.{words}
use Rattle.watched_streams.specs.Input.{ReadsWithin}
use Rattle.text_subcommands.specs.Streams.{Streams}

-- the most bytes of the input
abbrev pub line_limit : ℕ
line_limit = 1048576

-- Each word is the SAN of the move in its place, and that is legal in the position after those before it.
abbrev pub NamesMoves : Parts → List (List ℕ) → List Move → Type 0
NamesMoves p [] [] = ⊤
NamesMoves p (word ∷ more) (m ∷ moves) = Legal p m × San p m word × NamesMoves (after p m) more moves
NamesMoves p found moves = ⊥

-- No legal move of the position has this SAN.
abbrev pub NamesNoMove : Parts → List ℕ → Type 0
NamesNoMove p word = (m : Move) → Legal p m → ¬ San p m word

-- the FEN of the position, and of that after each of the moves, one a line
abbrev pub fen_lines : Parts → List Move → List ℕ
fen_lines p [] = fen p ++ codes "\n"
fen_lines p (m ∷ moves) = fen p ++ codes "\n" ++ fen_lines (after p m) moves

-- The first words are moves, and the word after them is none.
abbrev pub StopsAtWord : Parts → List (List ℕ) → List Move → Type 0
StopsAtWord start found moves = (before after : List (List ℕ)) × (word : List ℕ) × (found ≡ before ++ word ∷ after)
    × NamesMoves start before moves × NamesNoMove (position_after start moves) word

-- All words of the input, which is within the limit, are moves, and their positions were written.
abbrev pub PlaysAll : Parts → Option (List ℕ) → Option (List ℕ) → Option (List ℕ) → Type 0
PlaysAll start input written written' = (moves : List Move) × IfSome input (λ bytes. (length bytes ≤ line_limit) × NamesMoves start (words bytes) moves)
    × Appends written written' (fen_lines start moves)

-- the message about the word of this number that is no move
abbrev pub word_message : ℕ → List ℕ
word_message number = codes "move " ++ decimal number ++ codes ": not a legal move\n"

-- The message about a refused input, and what was written: nothing of an input that is longer than the limit; else the
-- positions up to the first word that is no move, of which the message says the number, from 1.
abbrev pub RefusesMoves : Parts → Option (List ℕ) → Option (List ℕ) → Option (List ℕ) → List ℕ → Type 0
RefusesMoves start input written written' message =
    (IfSome input (λ bytes. line_limit < length bytes) × Keeps written written' × IsTooLong message)
    ⊎ ((moves : List Move) × IfSome input (λ bytes. (length bytes ≤ line_limit) × StopsAtWord start (words bytes) moves)
    × Appends written written' (fen_lines start moves) × (message ≡ word_message (length moves + 1)))

-- A first part was written of the positions up to the end, or up to the first word that is no move.
abbrev pub PlaysPart : Parts → Option (List ℕ) → Option (List ℕ) → Option (List ℕ) → Type 0
PlaysPart start input written written' = (moves : List Move) × IfSome input (λ bytes. (before after : List (List ℕ)) × (words bytes ≡ before ++ after) × NamesMoves start before moves)
    × AppendsPart written written' (fen_lines start moves)

-- The moves that the input names were played from the start, and each position was written; or why not was said.
pub record Plays (start : Parts) (status : ℕ) (s : Streams) : Type 0 where
  pub done : status ≡ 0 → PlaysAll start s.input s.written s.written'
  -- the message of a refused input says what was written of it too
  pub tells : Tells status (RefusesMoves start s.input s.written s.written') s.said s.said' s.reader_failed s.out_failed s.err_failed
  -- a stream has failed: a first part stands, and nothing where it is the reader
  pub fault : status ≡ 3 → PlaysPart start s.input s.written s.written'
  pub unread : s.reader_failed ≡ true → Keeps s.written s.written'
  pub read : s.reader_failed ≡ true → status ≡ 3
  pub memory : status ≡ 4 → Keeps s.written s.written'
  -- at most one byte past the limit was read
  pub bounded : ReadsWithin line_limit s.input s.input'
