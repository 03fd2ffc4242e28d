-- The tokens of a game fit a line, and none is empty.
use Rattle.std.proofs.Common.{ℕ, ◌<◌, Bool, true, false, List, [], ◌∷◌, ◌++◌, length, All, Option, None, Some, is_some, sym, subst, arith, length-append}
use Rattle.std.specs.Prelude.{decimal, codes}
use Rattle.std.specs.List.{AllByRecursion}
use Rattle.std.specs.Option.{ForSome}
use Rattle.std.proofs.lemmas.Fmt.{decimal_nonempty, length-decimal-le}
use Rattle.std.proofs.lemmas.List.Elements.{recursion_from_All}
use Rattle.chess_clock.specs.declared.Hms.{Hms}
use Rattle.chess_rules.specs.declared.pieces.Kind.{Kind}
use Rattle.chess_rules.specs.declared.pieces.Kind.TheVariants.{Pawn, Rook, Knight, Bishop, King, Queen}
use Rattle.chess_rules.specs.declared.pieces.Side.{Side}
use Rattle.chess_rules.specs.declared.pieces.Side.TheVariants.{White, Black}
use Rattle.chess_rules.specs.declared.chess_move.Move.{Move}
use Rattle.chess_rules.specs.declared.parts.Parts.{Parts}
use Rattle.chess_rules.specs.declared.lines.Wing.{Wing}
use Rattle.chess_rules.specs.declared.lines.Wing.TheVariants.{KingSide, QueenSide}
use Rattle.chess_rules.specs.After.{after, wing_of}
use Rattle.chess_rules.specs.Valid.{Valid}
use Rattle.chess_rules.proofs.Staying.{valid_after}
use Rattle.chess_text.specs.San.{San, IsBody, castling, pawn, piece, castling_text, pawn_text, letter, is_capture, mark_text}
use Rattle.chess_text.specs.Laws.{TextsArePlain, IsSanText}
use Rattle.chess_text.proofs.FenTexts.{All-append}
use Rattle.settle_core.specs.declared.plies.Outcome.{Outcome}
use Rattle.settle_core.specs.declared.plies.Outcome.TheVariants.{WhiteWins, BlackWins, Drawn}
use Rattle.settle_core.specs.declared.plies.Ply.{Ply}
use Rattle.settle_core.specs.Settling.{Line}
use Rattle.settle_core.specs.Folding.{moves_of}
use Rattle.chess_clock.specs.Clock.{IsTime}
use Rattle.chess_game.specs.Games.{IsTimed}
use Rattle.pgn_book.specs.Lines.{IsToken}
use Rattle.pgn_book.specs.Movetext.{ShownMove, ArePliesShown, number_token, number_tokens, clock_tokens, move_tokens, tokens_of, result_text, game_tokens}

-- ---- what a move's text is, whatever the move

abbrev pub BeginsWithLetter : List ℕ → Type 0
BeginsWithLetter [] = Unit {0}
BeginsWithLetter (b ∷ bs) = (64 < b) × (b < 123)

castling_letter : (wing : Wing) (more : List ℕ) → BeginsWithLetter (castling_text wing ++ more)
castling_letter KingSide more = (omega arith, omega arith)
castling_letter QueenSide more = (omega arith, omega arith)

pawn_letter : (capture : Bool) (m : Move) (more : List ℕ) → BeginsWithLetter (pawn_text capture m ++ more)
pawn_letter true m more = (omega arith, omega arith)
pawn_letter false m more = (omega arith, omega arith)

kind_letter : (kind : Kind) → (64 < letter kind) × (letter kind < 123)
kind_letter Pawn = (omega arith, omega arith)
kind_letter Rook = (omega arith, omega arith)
kind_letter Knight = (omega arith, omega arith)
kind_letter Bishop = (omega arith, omega arith)
kind_letter King = (omega arith, omega arith)
kind_letter Queen = (omega arith, omega arith)

body_letter : (p : Parts) (m : Move) (body more : List ℕ) → IsBody p m body → BeginsWithLetter (body ++ more)
body_letter p m body more (castling c e) = subst (λ (b : List ℕ). BeginsWithLetter (b ++ more)) (sym e) (castling_letter (wing_of m) more)
body_letter p m body more (pawn c e) = subst (λ (b : List ℕ). BeginsWithLetter (b ++ more)) (sym e) (pawn_letter (is_capture p m) m more)
body_letter p m body more (piece kind stands no_pawn no_castling origin needed e) = subst (λ (b : List ℕ). BeginsWithLetter (b ++ more)) (sym e) (kind_letter kind)

pub san_letter : (p : Parts) (m : Move) (text : List ℕ) → San p m text → BeginsWithLetter text
san_letter p m text s = subst BeginsWithLetter (sym s.is_text) (body_letter p m s.body (mark_text s.mark) s.is_body)

-- ---- a move that fits

pub record Fits (shown : ShownMove) : Type 0 where
  pub number : shown.number < 10000
  pub plain : IsSanText shown.san
  pub letter : BeginsWithLetter shown.san
  pub clock : ForSome shown.clock IsTime

shown_fit : TextsArePlain → (p : Parts) (plies : List Ply) (moves : List ShownMove) → Valid p → Line p (moves_of plies) → AllByRecursion IsTimed plies
    → ArePliesShown p plies moves → AllByRecursion Fits moves
shown_fit plain p [] [] v line timed are = tt
shown_fit plain p [] (shown ∷ moves) v line timed are = absurd are
shown_fit plain p (ply ∷ plies) [] v line timed are = absurd are
shown_fit plain p (ply ∷ plies) (shown ∷ moves) v line timed are =
    let is = are.0 in (
      record {
        number = omega (arith, is.number, v.counters.fullmove);
        plain = plain p ply.mv shown.san v line.0 is.san;
        letter = san_letter p ply.mv shown.san is.san;
        clock = subst (λ (o : Option Hms). ForSome o IsTime) (sym is.clock) timed.0;
      },
      shown_fit plain (after p ply.mv) plies moves (valid_after p ply.mv v line.0) line.1 timed.1 are.1,
    )

pub moves_fit : TextsArePlain → (p : Parts) (plies : List Ply) (moves : List ShownMove) → Valid p → Line p (moves_of plies) → All IsTimed plies
    → ArePliesShown p plies moves → AllByRecursion Fits moves
moves_fit plain p plies moves v line timed are = shown_fit plain p plies moves v line (recursion_from_All IsTimed plies timed) are

-- ---- tokens

number_fits : (side : Side) (n : ℕ) → n < 10000 → IsToken (number_token side n)
number_fits White n lt =
    let low = decimal_nonempty n (omega arith) in
    let high = length-decimal-le 4 n (omega arith) lt (omega arith) in
    (omega (arith, length-append (decimal n) (codes ".")), omega (arith, length-append (decimal n) (codes ".")))
number_fits Black n lt =
    let low = decimal_nonempty n (omega arith) in
    let high = length-decimal-le 4 n (omega arith) lt (omega arith) in
    (omega (arith, length-append (decimal n) (codes "...")), omega (arith, length-append (decimal n) (codes "...")))

numbers_fit : (side : Side) (n : ℕ) (wanted : Bool) → n < 10000 → AllByRecursion IsToken (number_tokens side n wanted)
numbers_fit White n wanted lt = (number_fits White n lt, tt)
numbers_fit Black n true lt = (number_fits Black n lt, tt)
numbers_fit Black n false lt = tt

clocks_fit : (clock : Option Hms) → AllByRecursion IsToken (clock_tokens clock)
clocks_fit None = tt
clocks_fit (Some t) = ((omega arith, omega arith), tt)

tokens_fit : (wanted : Bool) (moves : List ShownMove) → AllByRecursion Fits moves → AllByRecursion IsToken (tokens_of wanted moves)
tokens_fit wanted [] h = tt
tokens_fit wanted (shown ∷ moves) h =
    let plain = h.0.plain in
    All-append IsToken (move_tokens wanted shown) (tokens_of (is_some shown.clock) moves)
    (All-append IsToken (number_tokens shown.side shown.number wanted) (shown.san ∷ clock_tokens shown.clock) (numbers_fit shown.side shown.number wanted h.0.number)
    ((omega (arith, plain.low), omega (arith, plain.high)), clocks_fit shown.clock))
    (tokens_fit (is_some shown.clock) moves h.1)

result_fits : (result : Option Outcome) → IsToken (result_text result)
result_fits (Some WhiteWins) = (omega arith, omega arith)
result_fits (Some BlackWins) = (omega arith, omega arith)
result_fits (Some Drawn) = (omega arith, omega arith)
result_fits None = (omega arith, omega arith)

pub game_fits : (moves : List ShownMove) (result : Option Outcome) → AllByRecursion Fits moves → AllByRecursion IsToken (game_tokens moves result) × (0 < length (game_tokens moves result))
game_fits moves result h =
    (All-append IsToken (tokens_of true moves) (result_text result ∷ []) (tokens_fit true moves h) (result_fits result, tt), omega (arith, length-append (tokens_of true moves) (result_text result ∷ [])))
