-- What `moves` prints.
use Rattle.std.specs.Prelude.{◌≡◌, ℕ, List, [], ◌∷◌, ◌++◌, ◌⊎◌, codes, Option, false}
use Rattle.std.specs.Io.KnownBytes.{Appends, Keeps}
use Rattle.chess_rules.specs.declared.chess_move.Move.{Move}
use Rattle.chess_rules.specs.declared.parts.Parts.{Parts}
use Rattle.chess_rules.specs.Moves.{ListsLegal}
use Rattle.chess_text.specs.San.{San}
use Rattle.watched_streams.specs.Output.{AppendsPart}
use Rattle.chess_text.specs.Start.{HasNoStart, StartsAt}
use Rattle.text_subcommands.specs.Messages.{Tells}
use Rattle.text_subcommands.specs.Refusals.{RefusesStart}
use Rattle.text_subcommands.specs.Streams.{Streams}

-- The text has these moves in SAN, one a line, in their order.
abbrev pub TellsMoves : Parts → List Move → List ℕ → Type 0
TellsMoves p [] text = text ≡ []
TellsMoves p (m ∷ moves) text = (san rest : List ℕ) × San p m san × (text ≡ san ++ codes "\n" ++ rest) × TellsMoves p moves rest

-- The legal moves of the position were written so: each once, by origin, target and promotion.
abbrev pub PrintsMoves : Parts → Option (List ℕ) → Option (List ℕ) → Type 0
PrintsMoves p written written' = (moves : List Move) × (text : List ℕ) × ListsLegal p moves × TellsMoves p moves text × Appends written written' text

-- A first part was written of the lines of the first of them, or nothing.
abbrev pub PrintsPart : Parts → Option (List ℕ) → Option (List ℕ) → Type 0
PrintsPart p written written' = Keeps written written' ⊎ ((first more : List Move) × (text : List ℕ) × ListsLegal p (first ++ more) × TellsMoves p first text × AppendsPart written written' text)

-- The legal moves were written of the position that has the FEN, or of the initial one; or why not was said.
pub record Prints (fen : Option (List ℕ)) (status : ℕ) (s : Streams) : Type 0 where
  pub done : (start : Parts) → StartsAt fen start → status ≡ 0 → PrintsMoves start s.written s.written'
  -- where no position has the FEN, status 1 comes, or 4; and 1 never else
  pub refuses : HasNoStart fen → (status ≡ 1) ⊎ (status ≡ 4)
  pub refused : status ≡ 1 → HasNoStart fen
  -- the output has failed, and a first part of the lines stands
  pub fault : (start : Parts) → StartsAt fen start → status ≡ 3 → PrintsPart start s.written s.written'
  -- nothing was written of a FEN that is refused, or where memory ran out
  pub silent : (status ≡ 1) ⊎ (status ≡ 4) → Keeps s.written s.written'
  pub tells : Tells status (RefusesStart fen) s.said s.said' false s.out_failed s.err_failed
