-- What the bytes of a text tell.
use Rattle.std.proofs.Common.{◌≡◌, ◌≢◌, ℕ, ◌+◌, ◌-◌, ◌/◌, ◌%◌, ◌<◌, ◌≤◌, Bool, true, false, eqb, ltb, cond, List, [], ◌∷◌, ◌++◌, length, Option, None, Some, refl, sym, ap, ◌∙◌, append_assoc, arith, rules, tests}
use Rattle.std.specs.Prelude.{◌||◌, ◌&&◌, filter}
use Rattle.std.proofs.lemmas.List.Elements.{filter-append}
use Rattle.std.proofs.lemmas.List.{append-nil}
use Rattle.chess_rules.specs.declared.pieces.Kind.{Kind}
use Rattle.chess_rules.specs.declared.pieces.Kind.TheVariants.{Pawn, Rook, Knight, Bishop, King, Queen}
use Rattle.chess_rules.specs.declared.chess_move.Move.{Move}
use Rattle.chess_rules.specs.declared.lines.Wing.{Wing}
use Rattle.chess_rules.specs.declared.lines.Wing.TheVariants.{KingSide, QueenSide}
use Rattle.chess_rules.specs.Board.{file, row}
use Rattle.chess_text.specs.Squares.{file_byte, rank_byte, square_text}
use Rattle.chess_text.specs.San.{letter, castling_text, cross, pawn_cross, promotion_text, pawn_text, origin_text, piece_text, mark_text}
use Rattle.chess_text.specs.declared.san.Origin.{Origin}
use Rattle.chess_text.specs.declared.san.Origin.TheVariants.{Nothing, ByFile, ByRank, ByBoth}
use Rattle.chess_text.specs.declared.san.Mark.{Mark}
use Rattle.chess_text.specs.declared.san.Mark.TheVariants.{Quiet, Check, Mate}

-- the cells of lists that are equal
pub head_is : (a b : ℕ) (xs ys : List ℕ) → a ∷ xs ≡ b ∷ ys → (a ≡ b) × (xs ≡ ys)
head_is a b xs ys e = (cc, cc)

pub square_is : (s t : ℕ) → s < 64 → t < 64 → square_text s ≡ square_text t → s ≡ t
square_is s t ls lt e =
    let h = head_is (file_byte s) (file_byte t) (rank_byte s ∷ []) (rank_byte t ∷ []) e in
    let a : file_byte s ≡ file_byte t = h.0 in
    let b : rank_byte s ≡ rank_byte t = (head_is (rank_byte s) (rank_byte t) [] [] h.1).0 in
    omega arith

-- ---- letters

-- the kind of a letter
abbrev pub kind_at : ℕ → Kind
kind_at b = cond (eqb b 75) King (cond (eqb b 81) Queen (cond (eqb b 82) Rook (cond (eqb b 66) Bishop (cond (eqb b 78) Knight Pawn))))

pub kind_at-letter : (k : Kind) → kind_at (letter k) ≡ k
kind_at-letter King = refl
kind_at-letter Queen = refl
kind_at-letter Rook = refl
kind_at-letter Bishop = refl
kind_at-letter Knight = refl
kind_at-letter Pawn = refl

pub letter_is : (k l : Kind) → letter k ≡ letter l → k ≡ l
letter_is k l e = sym (kind_at-letter k) ∙ ap kind_at e ∙ kind_at-letter l

pub letter_head : (k : Kind) → (letter k < 97) × (letter k ≢ 79)
letter_head King = (omega arith, λ e. omega arith)
letter_head Queen = (omega arith, λ e. omega arith)
letter_head Rook = (omega arith, λ e. omega arith)
letter_head Bishop = (omega arith, λ e. omega arith)
letter_head Knight = (omega arith, λ e. omega arith)
letter_head Pawn = (omega arith, λ e. omega arith)

pub mark_short : (k : Mark) → length (mark_text k) ≤ 1
mark_short Quiet = omega arith
mark_short Check = omega arith
mark_short Mate = omega arith

-- ---- the first byte

abbrev pub head : List ℕ → ℕ
head [] = 0
head (b ∷ bs) = b

pub castling_head : (w : Wing) (a : Mark) → head (castling_text w ++ mark_text a) ≡ 79
castling_head KingSide a = refl
castling_head QueenSide a = refl

pub pawn_head : (c : Bool) (m : Move) (a : Mark) → 97 ≤ head (pawn_text c m ++ mark_text a)
pawn_head true m a = omega arith
pawn_head false m a = omega arith

-- ---- castling

pub castling_is : (v w : Wing) (a b : Mark) → castling_text v ++ mark_text a ≡ castling_text w ++ mark_text b → v ≡ w
castling_is KingSide KingSide a b e = refl
castling_is KingSide QueenSide a b e = absurd (omega (arith, ap length e, mark_short a))
castling_is QueenSide KingSide a b e = absurd (omega (arith, ap length e, mark_short b))
castling_is QueenSide QueenSide a b e = refl

-- ---- pawns

pub promotion_is : (o p : Option Kind) (a b : Mark) → promotion_text o ++ mark_text a ≡ promotion_text p ++ mark_text b → o ≡ p
promotion_is None None a b e = refl
promotion_is None (Some l) a b e = absurd (omega (arith, ap length e, mark_short a))
promotion_is (Some k) None a b e = absurd (omega (arith, ap length e, mark_short b))
promotion_is (Some k) (Some l) a b e =
    let h = head_is 61 61 (letter k ∷ mark_text a) (letter l ∷ mark_text b) e in
    ap Some (letter_is k l (head_is (letter k) (letter l) (mark_text a) (mark_text b) h.1).0)

pub record IsSamePawn (c d : Bool) (s t u v : ℕ) (x y : List ℕ) : Type 0 where
  pub capture : c ≡ d
  pub files : c ≡ true → file s ≡ file t
  pub to : u ≡ v
  pub rest : x ≡ y

pub pawn_is :
    (c d : Bool) (s t u v : ℕ) (x y : List ℕ)
    → u < 64
    → v < 64
    → pawn_cross c s ++ (square_text u ++ x) ≡ pawn_cross d t ++ (square_text v ++ y)
    → IsSamePawn c d s t u v x y
pawn_is true true s t u v x y lu lv e =
    let h = head_is (file_byte s) (file_byte t) (120 ∷ square_text u ++ x) (120 ∷ square_text v ++ y) e in
    let h1 = head_is 120 120 (square_text u ++ x) (square_text v ++ y) h.1 in
    let h2 = head_is (file_byte u) (file_byte v) (rank_byte u ∷ x) (rank_byte v ∷ y) h1.1 in
    let h3 = head_is (rank_byte u) (rank_byte v) x y h2.1 in
    record { capture = refl; files = λ _. omega (arith, h.0); to = omega (arith, h2.0, h3.0); rest = h3.1 }
pawn_is true false s t u v x y lu lv e =
    let h = head_is (file_byte s) (file_byte v) (120 ∷ square_text u ++ x) (rank_byte v ∷ y) e in
    let h1 = head_is 120 (rank_byte v) (square_text u ++ x) y h.1 in
    absurd (omega (arith, h1.0))
pawn_is false true s t u v x y lu lv e =
    let h = head_is (file_byte u) (file_byte t) (rank_byte u ∷ x) (120 ∷ square_text v ++ y) e in
    let h1 = head_is (rank_byte u) 120 x (square_text v ++ y) h.1 in
    absurd (omega (arith, h1.0))
pawn_is false false s t u v x y lu lv e =
    let h2 = head_is (file_byte u) (file_byte v) (rank_byte u ∷ x) (rank_byte v ∷ y) e in
    let h3 = head_is (rank_byte u) (rank_byte v) x y h2.1 in
    record { capture = refl; files = λ q. absurd cc; to = omega (arith, h2.0, h3.0); rest = h3.1 }

pub pawn_regroup : (c : Bool) (m : Move) (a : List ℕ) → pawn_text c m ++ a ≡ pawn_cross c m.from ++ (square_text m.to ++ (promotion_text m.promotion ++ a))
pawn_regroup c m a =
    append_assoc (pawn_cross c m.from) (square_text m.to ++ promotion_text m.promotion) a
    ∙ ap (λ (x : List ℕ). pawn_cross c m.from ++ x) (append_assoc (square_text m.to) (promotion_text m.promotion) a)

-- ---- other pieces: the bytes of squares

abbrev is_place : ℕ → Bool
is_place b = (ltb 96 b && ltb b 105) || (ltb 48 b && ltb b 57)

file_place : (s : ℕ) → is_place (file_byte s) ≡ true
file_place s = let a : 96 < 97 + s % 8 = omega arith in let b : 97 + s % 8 < 105 = omega arith in search (rules, tests, arith)

rank_place : (s : ℕ) → s < 64 → is_place (rank_byte s) ≡ true
rank_place s lt = let a : 48 < 56 - s / 8 = omega arith in let b : 56 - s / 8 < 57 = omega arith in grind (arith, tests)

letter_place : (k : Kind) → is_place (letter k) ≡ false
letter_place King = refl
letter_place Queen = refl
letter_place Rook = refl
letter_place Bishop = refl
letter_place Knight = refl
letter_place Pawn = refl

origin_places : (o : Origin) (s : ℕ) → s < 64 → filter is_place (origin_text o s) ≡ origin_text o s
origin_places Nothing s lt = refl
origin_places ByFile s lt = rw (file_place s) refl
origin_places ByRank s lt = rw (rank_place s lt) refl
origin_places ByBoth s lt = rw (file_place s, rank_place s lt) refl

cross_places : (c : Bool) → filter is_place (cross c) ≡ []
cross_places true = refl
cross_places false = refl

mark_places : (k : Mark) → filter is_place (mark_text k) ≡ []
mark_places Quiet = refl
mark_places Check = refl
mark_places Mate = refl

piece_places :
    (k : Kind) (o : Origin) (c : Bool) (m : Move) (a : Mark)
    → m.from < 64
    → m.to < 64
    → filter is_place (piece_text k o c m ++ mark_text a) ≡ origin_text o m.from ++ square_text m.to
piece_places k o c m a lf lt =
    let origin = origin_text o m.from in
    let target = square_text m.to in
    let tail : filter is_place (cross c ++ target) ≡ target = filter-append is_place (cross c) target ∙ ap (λ (x : List ℕ). x ++ filter is_place target) (cross_places c) ∙ origin_places ByBoth m.to lt in
    let body : filter is_place (origin ++ (cross c ++ target)) ≡ origin ++ target = filter-append is_place origin (cross c ++ target) ∙ ap (λ (x : List ℕ). x ++ filter is_place (cross c ++ target)) (origin_places o m.from lf) ∙ ap (λ (x : List ℕ). origin ++ x) tail in
    let front : filter is_place (piece_text k o c m) ≡ origin ++ target = rw (letter_place k) body in
    filter-append is_place (piece_text k o c m) (mark_text a) ∙ ap (λ (x : List ℕ). filter is_place (piece_text k o c m) ++ x) (mark_places a) ∙ append-nil (filter is_place (piece_text k o c m)) ∙ front

-- what is said of the origin
abbrev pub SaysSame : Origin → Origin → ℕ → ℕ → Type 0
SaysSame Nothing Nothing s t = Unit {0}
SaysSame ByFile ByFile s t = file s ≡ file t
SaysSame ByRank ByRank s t = row s ≡ row t
SaysSame ByBoth ByBoth s t = s ≡ t
SaysSame o p s t = ⊥

origin_is : (o p : Origin) (s t u v : ℕ) → s < 64 → t < 64 → u < 64 → v < 64 → origin_text o s ++ square_text u ≡ origin_text p t ++ square_text v → SaysSame o p s t × (u ≡ v)
origin_is Nothing Nothing s t u v ls lt lu lv e = (tt, square_is u v lu lv e)
origin_is Nothing ByFile s t u v ls lt lu lv e = absurd (omega (arith, ap length e))
origin_is Nothing ByRank s t u v ls lt lu lv e = absurd (omega (arith, ap length e))
origin_is Nothing ByBoth s t u v ls lt lu lv e = absurd (omega (arith, ap length e))
origin_is ByFile Nothing s t u v ls lt lu lv e = absurd (omega (arith, ap length e))
origin_is ByFile ByFile s t u v ls lt lu lv e = let h = head_is (file_byte s) (file_byte t) (square_text u) (square_text v) e in (omega (arith, h.0), square_is u v lu lv h.1)
origin_is ByFile ByRank s t u v ls lt lu lv e = let h = head_is (file_byte s) (rank_byte t) (square_text u) (square_text v) e in absurd (omega (arith, h.0))
origin_is ByFile ByBoth s t u v ls lt lu lv e = absurd (omega (arith, ap length e))
origin_is ByRank Nothing s t u v ls lt lu lv e = absurd (omega (arith, ap length e))
origin_is ByRank ByFile s t u v ls lt lu lv e = let h = head_is (rank_byte s) (file_byte t) (square_text u) (square_text v) e in absurd (omega (arith, h.0))
origin_is ByRank ByRank s t u v ls lt lu lv e = let h = head_is (rank_byte s) (rank_byte t) (square_text u) (square_text v) e in (omega (arith, h.0), square_is u v lu lv h.1)
origin_is ByRank ByBoth s t u v ls lt lu lv e = absurd (omega (arith, ap length e))
origin_is ByBoth Nothing s t u v ls lt lu lv e = absurd (omega (arith, ap length e))
origin_is ByBoth ByFile s t u v ls lt lu lv e = absurd (omega (arith, ap length e))
origin_is ByBoth ByRank s t u v ls lt lu lv e = absurd (omega (arith, ap length e))
origin_is ByBoth ByBoth s t u v ls lt lu lv e =
    let h = head_is (file_byte s) (file_byte t) (rank_byte s ∷ square_text u) (rank_byte t ∷ square_text v) e in
    let k = head_is (rank_byte s) (rank_byte t) (square_text u) (square_text v) h.1 in
    (omega (arith, h.0, k.0), square_is u v lu lv k.1)

pub record IsSamePiece (k l : Kind) (o p : Origin) (m n : Move) : Type 0 where
  pub kind : k ≡ l
  pub says : SaysSame o p m.from n.from
  pub to : m.to ≡ n.to

pub piece_is :
    (k l : Kind) (o p : Origin) (c d : Bool) (m n : Move) (a b : Mark)
    → m.from < 64
    → m.to < 64
    → n.from < 64
    → n.to < 64
    → piece_text k o c m ++ mark_text a ≡ piece_text l p d n ++ mark_text b
    → IsSamePiece k l o p m n
piece_is k l o p c d m n a b mf mt nf nt e =
    let first = head_is (letter k) (letter l) _ _ e in
    let seen : origin_text o m.from ++ square_text m.to ≡ origin_text p n.from ++ square_text n.to = sym (piece_places k o c m a mf mt) ∙ ap (λ (x : List ℕ). filter is_place x) e ∙ piece_places l p d n b nf nt in
    let same = origin_is o p m.from n.from m.to n.to mf nf mt nt seen in
    record { kind = letter_is k l first.0; says = same.0; to = same.1 }
