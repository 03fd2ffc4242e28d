-- What becomes of options that are refused, and what is said of a start.
use Rattle.std.specs.Prelude.{◌≡◌, ◌⊎◌, List, ℕ, Option, MatchOption, false}
use Rattle.chess_text.specs.declared.fen.FenError.{FenError}
use Rattle.chess_text.specs.Fen.{RefusedFirst}
use Rattle.text_subcommands.specs.Messages.{fen_message, Tells}
use Rattle.std.specs.Io.KnownBytes.{Keeps}
use Rattle.text_subcommands.specs.Streams.{Streams}

-- The message about a refused FEN.
abbrev pub RefusesStart : Option (List ℕ) → List ℕ → Type 0
RefusesStart fen message = MatchOption fen ⊥ (λ text. (error : FenError) × RefusedFirst text error × (message ≡ fen_message error))

-- Nothing was read, and nothing written to the output.
abbrev pub Untouched : Streams → Type 0
Untouched s = Keeps s.input s.input' × Keeps s.written s.written'

-- The options are refused with such a message, or memory ran out before; nothing was read, and nothing written to the
-- output.
pub record Refuses (May : List ℕ → Type 0) (status : ℕ) (s : Streams) : Type 0 where
  pub known : (status ≡ 1) ⊎ (status ≡ 4)
  pub untouched : Untouched s
  pub tells : Tells status May s.said s.said' false false s.err_failed
