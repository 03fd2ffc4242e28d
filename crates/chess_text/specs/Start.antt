-- The position that a game starts from.
use Rattle.std.specs.Prelude.{◌≡◌, List, ℕ, Option, Some, None, option_map}
use Rattle.std.specs.Borrow.{Bor}
use Rattle.chess_rules.specs.declared.parts.Parts.{Parts}
use Rattle.chess_rules.specs.Initial.{initial}
use Rattle.chess_rules.specs.Valid.{Valid}
use Rattle.chess_text.specs.Fen.{TellsPosition}

-- The start: the position that the FEN tells, or the initial position where none is given.
abbrev pub StartsAt : Option (List ℕ) → Parts → Type 0
StartsAt None start = start ≡ initial
StartsAt (Some text) start = Valid start × TellsPosition text start

-- No position has the FEN.
abbrev pub HasNoStart : Option (List ℕ) → Type 0
HasNoStart fen = (start : Parts) → StartsAt fen start → ⊥

-- the text that is given, where one is
abbrev pub given : Option (Bor (List ℕ)) → Option (List ℕ)
given = option_map (λ text. text.now)
