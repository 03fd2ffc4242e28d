-- The value of a FEN tag is one that a reader keeps.
use Rattle.std.proofs.Common.{◌≡◌, ℕ, List, true, false, sym, subst, arith}
use Rattle.chess_rules.specs.declared.parts.Parts.{Parts}
use Rattle.chess_rules.specs.Valid.{Valid}
use Rattle.chess_text.specs.Fen.{fen}
use Rattle.chess_text.specs.Laws.{FensArePlain}
use Rattle.chess_game.specs.Values.{IsText, IsShort}
use Rattle.pgn_book.specs.Inside.Parse.{HasStart, has_fen, fen_part, fen_at, value_at}

-- the value is the start's FEN
pub fen_is : (start : Parts) (bytes : List ℕ) → has_fen bytes ≡ true → HasStart start (fen_at bytes) → value_at false (fen_part bytes) ≡ fen start
fen_is start bytes e s = rw e at s

pub fen_kept : FensArePlain → (start : Parts) (value : List ℕ) → Valid start → value ≡ fen start → IsText value × IsShort value
fen_kept plain start value v e =
    let P : List ℕ → Type 0 = λ xs. IsText xs × IsShort xs in
    let f = plain start v in
    let kept : P (fen start) = (λ k d lt. let b = f.bytes k d lt in (b.0, b.1), omega (arith, f.short)) in
    subst P (sym e) kept
