-- A text has 2 to 7 printable bytes.
use Rattle.std.proofs.Common.{◌≡◌, ℕ, ◌+◌, ◌<◌, ◌≤◌, Bool, true, false, List, [], ◌∷◌, ◌++◌, length, Option, None, Some, sym, subst, arith, length-append}
use Rattle.std.specs.Prelude.{All}
use Rattle.std.proofs.lemmas.List.Elements.{All-cons, All-append, All-nil}
use Rattle.chess_rules.specs.declared.pieces.Kind.{Kind}
use Rattle.chess_rules.specs.declared.pieces.Kind.TheVariants.{Pawn, Rook, Knight, Bishop, King, Queen}
use Rattle.chess_rules.specs.declared.chess_move.Move.{Move}
use Rattle.chess_rules.specs.declared.parts.Parts.{Parts}
use Rattle.chess_rules.specs.declared.lines.Wing.{Wing}
use Rattle.chess_rules.specs.declared.lines.Wing.TheVariants.{KingSide, QueenSide}
use Rattle.chess_rules.specs.After.{wing_of}
use Rattle.chess_text.specs.Squares.{file_byte, rank_byte, square_text}
use Rattle.chess_text.specs.San.{IsBody, castling, pawn, piece, letter, castling_text, cross, pawn_cross, promotion_text, pawn_text, origin_text, piece_text, mark_text, is_capture}
use Rattle.chess_text.specs.Laws.{IsSanByte, IsSanText, TextsArePlain}
use Rattle.chess_text.specs.declared.san.Origin.{Origin}
use Rattle.chess_text.specs.declared.san.Origin.TheVariants.{Nothing, ByFile, ByRank, ByBoth}
use Rattle.chess_text.specs.declared.san.Mark.{Mark}
use Rattle.chess_text.specs.declared.san.Mark.TheVariants.{Quiet, Check, Mate}
use Rattle.chess_text.proofs.Facts.{from_low}

-- so many printable bytes
record Plain (least most : ℕ) (text : List ℕ) : Type 0 where
  low : least ≤ length text
  high : length text ≤ most
  bytes : All IsSanByte text

join : (a b c d : ℕ) (x y : List ℕ) → Plain a b x → Plain c d y → Plain (a + c) (b + d) (x ++ y)
join a b c d x y p q =
    let l : a ≤ length x = p.low in
    let h : length x ≤ b = p.high in
    let l' : c ≤ length y = q.low in
    let h' : length y ≤ d = q.high in
    let n : length (x ++ y) ≡ length x + length y = length-append x y in
    record { low = omega arith; high = omega arith; bytes = All-append IsSanByte x y p.bytes q.bytes }

nothing : Plain 0 0 []
nothing = record { low = omega arith; high = omega arith; bytes = All-nil IsSanByte }

one : (b : ℕ) → 32 < b → b < 127 → Plain 1 1 (b ∷ [])
one b l h = record { low = omega arith; high = omega arith; bytes = All-cons IsSanByte b [] (l, h) (All-nil IsSanByte) }

wider : (a b c d : ℕ) (x : List ℕ) → c ≤ a → b ≤ d → Plain a b x → Plain c d x
wider a b c d x l h p = let l' : a ≤ length x = p.low in let h' : length x ≤ b = p.high in record { low = omega arith; high = omega arith; bytes = p.bytes }

file_plain : (s : ℕ) → Plain 1 1 (file_byte s ∷ [])
file_plain s = one (file_byte s) (omega arith) (omega arith)

rank_plain : (s : ℕ) → s < 64 → Plain 1 1 (rank_byte s ∷ [])
rank_plain s lt = one (rank_byte s) (omega arith) (omega arith)

square_plain : (s : ℕ) → s < 64 → Plain 2 2 (square_text s)
square_plain s lt = join 1 1 1 1 (file_byte s ∷ []) (rank_byte s ∷ []) (file_plain s) (rank_plain s lt)

letter_plain : (k : Kind) → Plain 1 1 (letter k ∷ [])
letter_plain King = one 75 (omega arith) (omega arith)
letter_plain Queen = one 81 (omega arith) (omega arith)
letter_plain Rook = one 82 (omega arith) (omega arith)
letter_plain Bishop = one 66 (omega arith) (omega arith)
letter_plain Knight = one 78 (omega arith) (omega arith)
letter_plain Pawn = one 80 (omega arith) (omega arith)

cross_plain : (c : Bool) → Plain 0 1 (cross c)
cross_plain true = wider 1 1 0 1 _ (omega arith) (omega arith) (one 120 (omega arith) (omega arith))
cross_plain false = wider 0 0 0 1 _ (omega arith) (omega arith) nothing

pawn_cross_plain : (c : Bool) (s : ℕ) → Plain 0 2 (pawn_cross c s)
pawn_cross_plain true s = wider 2 2 0 2 _ (omega arith) (omega arith) (join 1 1 1 1 (file_byte s ∷ []) (120 ∷ []) (file_plain s) (one 120 (omega arith) (omega arith)))
pawn_cross_plain false s = wider 0 0 0 2 _ (omega arith) (omega arith) nothing

promotion_plain : (o : Option Kind) → Plain 0 2 (promotion_text o)
promotion_plain (Some k) = wider 2 2 0 2 _ (omega arith) (omega arith) (join 1 1 1 1 (61 ∷ []) (letter k ∷ []) (one 61 (omega arith) (omega arith)) (letter_plain k))
promotion_plain None = wider 0 0 0 2 _ (omega arith) (omega arith) nothing

origin_plain : (o : Origin) (s : ℕ) → s < 64 → Plain 0 2 (origin_text o s)
origin_plain Nothing s lt = wider 0 0 0 2 _ (omega arith) (omega arith) nothing
origin_plain ByFile s lt = wider 1 1 0 2 _ (omega arith) (omega arith) (file_plain s)
origin_plain ByRank s lt = wider 1 1 0 2 _ (omega arith) (omega arith) (rank_plain s lt)
origin_plain ByBoth s lt = wider 2 2 0 2 _ (omega arith) (omega arith) (square_plain s lt)

mark_plain : (a : Mark) → Plain 0 1 (mark_text a)
mark_plain Quiet = wider 0 0 0 1 _ (omega arith) (omega arith) nothing
mark_plain Check = wider 1 1 0 1 _ (omega arith) (omega arith) (one 43 (omega arith) (omega arith))
mark_plain Mate = wider 1 1 0 1 _ (omega arith) (omega arith) (one 35 (omega arith) (omega arith))

king_side : Plain 3 3 (castling_text KingSide)
king_side = join 1 1 2 2 (79 ∷ []) (45 ∷ 79 ∷ []) (one 79 (omega arith) (omega arith)) (join 1 1 1 1 (45 ∷ []) (79 ∷ []) (one 45 (omega arith) (omega arith)) (one 79 (omega arith) (omega arith)))

castling_plain : (w : Wing) → Plain 2 6 (castling_text w)
castling_plain KingSide = wider 3 3 2 6 _ (omega arith) (omega arith) king_side
castling_plain QueenSide = wider 5 5 2 6 _ (omega arith) (omega arith) (join 3 3 2 2 (79 ∷ 45 ∷ 79 ∷ []) (45 ∷ 79 ∷ []) king_side (join 1 1 1 1 (45 ∷ []) (79 ∷ []) (one 45 (omega arith) (omega arith)) (one 79 (omega arith) (omega arith))))

pawn_plain : (c : Bool) (m : Move) → m.to < 64 → Plain 2 6 (pawn_text c m)
pawn_plain c m lt = join 0 2 2 4 _ _ (pawn_cross_plain c m.from) (join 2 2 0 2 _ _ (square_plain m.to lt) (promotion_plain m.promotion))

piece_plain : (k : Kind) (o : Origin) (c : Bool) (m : Move) → m.from < 64 → m.to < 64 → Plain 2 6 (piece_text k o c m)
piece_plain k o c m lf lt =
    wider 3 6 2 6 _ (omega arith) (omega arith)
    (join 1 1 2 5 (letter k ∷ []) _ (letter_plain k) (join 0 2 2 3 _ _ (origin_plain o m.from lf) (join 0 1 2 2 _ _ (cross_plain c) (square_plain m.to lt))))

body_plain : (p : Parts) (m : Move) (x : List ℕ) → m.from < 64 → m.to < 64 → IsBody p m x → Plain 2 6 x
body_plain p m x lf lt (castling c e) = rw e (castling_plain (wing_of m))
body_plain p m x lf lt (pawn c e) = rw e (pawn_plain (is_capture p m) m lt)
body_plain p m x lf lt (piece k s no_pawn no_castling o need e) = rw e (piece_plain k o (is_capture p m) m lf lt)

pub texts_plain : TextsArePlain
texts_plain p m text v l s =
    let body : Plain 2 6 s.body = body_plain p m s.body (from_low p m v l) l.on_board s.is_body in
    let all : Plain 2 7 (s.body ++ mark_text s.mark) = join 2 6 0 1 s.body (mark_text s.mark) body (mark_plain s.mark) in
    let P : List ℕ → Type 0 = λ q. IsSanText q in
    subst P (sym s.is_text) (record { low = all.low; high = all.high; bytes = all.bytes })
