-- A text aims at each legal move that it names.
use Rattle.std.proofs.Common.{◌≡◌, ◌≢◌, ℕ, ◌+◌, ◌-◌, ◌*◌, ◌/◌, ◌%◌, ◌<◌, ◌≤◌, ◌==◌, Bool, true, false, List, [], ◌∷◌, ◌++◌, Option, None, Some, get_or, refl, sym, ap, subst, ◌∙◌, append_assoc, arith}
use Rattle.std.proofs.lemmas.Bool.{cond-false, ne_eqb}
use Rattle.chess_rules.specs.declared.pieces.Side.{Side}
use Rattle.chess_rules.specs.declared.pieces.Kind.{Kind}
use Rattle.chess_rules.specs.declared.pieces.Kind.TheVariants.{Pawn, Rook, Knight, Bishop, King, Queen}
use Rattle.chess_rules.specs.declared.chess_move.Move.{Move}
use Rattle.chess_rules.specs.declared.parts.Parts.{Parts}
use Rattle.chess_rules.specs.declared.lines.Wing.{Wing}
use Rattle.chess_rules.specs.declared.lines.Wing.TheVariants.{KingSide, QueenSide}
use Rattle.chess_rules.specs.Legal.{Legal, Castles}
use Rattle.chess_rules.specs.Valid.{Valid}
use Rattle.chess_rules.proofs.Tells.{wing-homes}
use Rattle.chess_rules.proofs.Reaching.{king_stands}
use Rattle.chess_text.specs.Squares.{file_byte, rank_byte, square_text}
use Rattle.chess_text.specs.San.{San, IsBody, castling, pawn, piece, letter, castling_text, cross, pawn_cross, promotion_text, pawn_text, origin_text, piece_text, mark_text, is_capture}
use Rattle.chess_text.specs.Inside.Aim.{last_in, kind_at, target_by, promotion_by, aim_by, castling_aim, aim_at, IsAimedAt}
use Rattle.chess_text.specs.declared.aim.Aim.{Aim}
use Rattle.chess_text.specs.declared.san.Origin.{Origin}
use Rattle.chess_text.specs.declared.san.Origin.TheVariants.{Nothing, ByFile, ByRank, ByBoth}
use Rattle.chess_text.specs.declared.san.Mark.{Mark}
use Rattle.chess_text.specs.declared.san.Mark.TheVariants.{Quiet, Check, Mate}
use Rattle.chess_text.proofs.Facts.{promotes_none, castles}
use Rattle.chess_text.proofs.Texts.{kind_at-letter, letter_head, pawn_regroup}
use Rattle.chess_text.proofs.Lasts.{above, below, inside, HasNone, none_empty, none_one, none_join, HasLast, last_one, last_before, last_after}

kind_at-small : (b : ℕ) → 97 ≤ b → kind_at b ≡ Pawn
kind_at-small b h =
    let a75 : (b == 75) ≡ false = ne_eqb _ _ (λ e. omega arith) in
    let a81 : (b == 81) ≡ false = ne_eqb _ _ (λ e. omega arith) in
    let a82 : (b == 82) ≡ false = ne_eqb _ _ (λ e. omega arith) in
    let a66 : (b == 66) ≡ false = ne_eqb _ _ (λ e. omega arith) in
    let a78 : (b == 78) ≡ false = ne_eqb _ _ (λ e. omega arith) in
    rw (a75, a81, a82, a66, a78) refl

-- ---- what follows the target

mark_none_file : (a : Mark) → HasNone 97 104 (mark_text a)
mark_none_file Quiet = none_empty 97 104
mark_none_file Check = none_one 97 104 43 refl
mark_none_file Mate = none_one 97 104 35 refl

mark_none_rank : (a : Mark) → HasNone 49 56 (mark_text a)
mark_none_rank Quiet = none_empty 49 56
mark_none_rank Check = none_one 49 56 43 refl
mark_none_rank Mate = none_one 49 56 35 refl

mark_none_equals : (a : Mark) → HasNone 61 61 (mark_text a)
mark_none_equals Quiet = none_empty 61 61
mark_none_equals Check = none_one 61 61 43 refl
mark_none_equals Mate = none_one 61 61 35 refl

mark_none_letter : (a : Mark) → HasNone 66 82 (mark_text a)
mark_none_letter Quiet = none_empty 66 82
mark_none_letter Check = none_one 66 82 43 refl
mark_none_letter Mate = none_one 66 82 35 refl

-- letters are from B to R
pub record IsLetter (b : ℕ) : Type 0 where
  pub low : 66 ≤ b
  pub high : b ≤ 82

letter_range : (k : Kind) → IsLetter (letter k)
letter_range King = record { low = omega arith; high = omega arith }
letter_range Queen = record { low = omega arith; high = omega arith }
letter_range Rook = record { low = omega arith; high = omega arith }
letter_range Bishop = record { low = omega arith; high = omega arith }
letter_range Knight = record { low = omega arith; high = omega arith }
letter_range Pawn = record { low = omega arith; high = omega arith }

letter_none_file : (k : Kind) → HasNone 97 104 (letter k ∷ [])
letter_none_file k = let h : IsLetter (letter k) = letter_range k in let l : letter k ≤ 82 = h.high in none_one 97 104 (letter k) (below 97 104 (letter k) (omega arith))

letter_none_rank : (k : Kind) → HasNone 49 56 (letter k ∷ [])
letter_none_rank k = let h : IsLetter (letter k) = letter_range k in let l : 66 ≤ letter k = h.low in none_one 49 56 (letter k) (above 49 56 (letter k) (omega arith))

letter_none_equals : (k : Kind) → HasNone 61 61 (letter k ∷ [])
letter_none_equals k = let h : IsLetter (letter k) = letter_range k in let l : 66 ≤ letter k = h.low in none_one 61 61 (letter k) (above 61 61 (letter k) (omega arith))

promotion_none_file : (o : Option Kind) → HasNone 97 104 (promotion_text o)
promotion_none_file None = none_empty 97 104
promotion_none_file (Some k) = none_join 97 104 (61 ∷ []) (letter k ∷ []) (none_one 97 104 61 refl) (letter_none_file k)

promotion_none_rank : (o : Option Kind) → HasNone 49 56 (promotion_text o)
promotion_none_rank None = none_empty 49 56
promotion_none_rank (Some k) = none_join 49 56 (61 ∷ []) (letter k ∷ []) (none_one 49 56 61 refl) (letter_none_rank k)

-- ---- the target

square_file : (t : ℕ) → t < 64 → HasLast 97 104 (file_byte t) (square_text t)
square_file t lt =
    last_before 97 104 (file_byte t) (file_byte t ∷ []) (rank_byte t ∷ [])
    (last_one 97 104 (file_byte t) (inside 97 104 (file_byte t) (omega arith) (omega arith)))
    (none_one 97 104 (rank_byte t) (below 97 104 (rank_byte t) (omega arith)))

square_rank : (t : ℕ) → t < 64 → HasLast 49 56 (rank_byte t) (square_text t)
square_rank t lt =
    last_after 49 56 (rank_byte t) (file_byte t ∷ []) (rank_byte t ∷ [])
    (last_one 49 56 (rank_byte t) (inside 49 56 (rank_byte t) (omega arith) (omega arith)))

file_none_equals : (s : ℕ) → HasNone 61 61 (file_byte s ∷ [])
file_none_equals s = none_one 61 61 (file_byte s) (above 61 61 (file_byte s) (omega arith))

rank_none_equals : (s : ℕ) → HasNone 61 61 (rank_byte s ∷ [])
rank_none_equals s = none_one 61 61 (rank_byte s) (below 61 61 (rank_byte s) (omega arith))

square_none_equals : (s : ℕ) → HasNone 61 61 (square_text s)
square_none_equals s = none_join 61 61 (file_byte s ∷ []) (rank_byte s ∷ []) (file_none_equals s) (rank_none_equals s)

pub target : (front tail : List ℕ) (t : ℕ) → t < 64 → HasNone 97 104 tail → HasNone 49 56 tail
    → target_by (last_in 97 104 (front ++ (square_text t ++ tail))) (last_in 49 56 (front ++ (square_text t ++ tail))) ≡ Some t
target front tail t lt nf nr =
    let f : HasLast 97 104 (file_byte t) (front ++ (square_text t ++ tail)) = last_after 97 104 _ front _ (last_before 97 104 _ (square_text t) tail (square_file t lt) nf) in
    let r : HasLast 49 56 (rank_byte t) (front ++ (square_text t ++ tail)) = last_after 49 56 _ front _ (last_before 49 56 _ (square_text t) tail (square_rank t lt) nr) in
    let same : 8 * (56 - (56 - t / 8)) + (97 + t % 8 - 97) ≡ t = omega arith in
    ap (λ (o : Option ℕ). target_by o (last_in 49 56 (front ++ (square_text t ++ tail)))) f.last ∙ ap (λ (o : Option ℕ). target_by (Some (file_byte t)) o) r.last ∙ ap (λ (n : ℕ). Some n) same

-- ---- the promotion

promotion_none : (text : List ℕ) → HasNone 61 61 text → promotion_by (last_in 61 61 text) (last_in 66 82 text) ≡ None
promotion_none text h = ap (λ (o : Option ℕ). promotion_by o (last_in 66 82 text)) h.none

promotion_some : (front : List ℕ) (k : Kind) (a : Mark) → promotion_by (last_in 61 61 (front ++ (promotion_text (Some k) ++ mark_text a))) (last_in 66 82 (front ++ (promotion_text (Some k) ++ mark_text a))) ≡ Some k
promotion_some front k a =
    let q : IsLetter (letter k) = letter_range k in
    let e : HasLast 61 61 61 (front ++ (promotion_text (Some k) ++ mark_text a)) =
    last_after 61 61 61 front _
    (last_before 61 61 61 (61 ∷ letter k ∷ []) (mark_text a)
    (last_before 61 61 61 (61 ∷ []) (letter k ∷ []) (last_one 61 61 61 refl) (letter_none_equals k)) (mark_none_equals a)) in
    let l : HasLast 66 82 (letter k) (front ++ (promotion_text (Some k) ++ mark_text a)) =
    last_after 66 82 (letter k) front _
    (last_before 66 82 (letter k) (61 ∷ letter k ∷ []) (mark_text a)
    (last_after 66 82 (letter k) (61 ∷ []) (letter k ∷ []) (last_one 66 82 (letter k) (inside 66 82 (letter k) q.low q.high))) (mark_none_letter a)) in
    ap (λ (o : Option ℕ). promotion_by o (last_in 66 82 (front ++ (promotion_text (Some k) ++ mark_text a)))) e.last
    ∙ ap (λ (o : Option ℕ). promotion_by (Some 61) o) l.last ∙ ap (λ (x : Kind). Some x) (kind_at-letter k)

-- ---- castling

castling_aims : (side : Side) (w : Wing) (a : Mark) → aim_at side (castling_text w ++ mark_text a) ≡ Some (castling_aim side w)
castling_aims side KingSide Quiet = refl
castling_aims side KingSide Check = refl
castling_aims side KingSide Mate = refl
castling_aims side QueenSide Quiet = refl
castling_aims side QueenSide Check = refl
castling_aims side QueenSide Mate = refl

-- ---- the rest

-- what text_aim finds
pub record Finds (text : List ℕ) (k : Kind) (t : ℕ) (o : Option Kind) : Type 0 where
  pub head : get_or text 0 0 ≢ 79
  pub kind : kind_at (get_or text 0 0) ≡ k
  pub to : target_by (last_in 97 104 text) (last_in 49 56 text) ≡ Some t
  pub promotion : promotion_by (last_in 61 61 text) (last_in 66 82 text) ≡ o

finds_aim : (side : Side) (text : List ℕ) (k : Kind) (t : ℕ) (o : Option Kind) → Finds text k t o → aim_at side text ≡ Some (record { kind = k; to = t; promotion = o })
finds_aim side text k t o h =
    let no : (get_or text 0 0 == 79) ≡ false = ne_eqb _ _ h.head in
    cond-false _ _ _ no
    ∙ ap (λ (x : Kind). aim_by x (target_by (last_in 97 104 text) (last_in 49 56 text)) (promotion_by (last_in 61 61 text) (last_in 66 82 text))) h.kind
    ∙ ap (λ (x : Option ℕ). aim_by k x (promotion_by (last_in 61 61 text) (last_in 66 82 text))) h.to
    ∙ ap (λ (x : Option Kind). aim_by k (Some t) x) h.promotion

pawn_first : (c : Bool) (m : Move) (a : List ℕ) → 97 ≤ get_or (pawn_text c m ++ a) 0 0
pawn_first true m a = omega arith
pawn_first false m a = omega arith

pawn_cross_none : (c : Bool) (s : ℕ) → HasNone 61 61 (pawn_cross c s)
pawn_cross_none true s = none_join 61 61 (file_byte s ∷ []) (120 ∷ []) (file_none_equals s) (none_one 61 61 120 refl)
pawn_cross_none false s = none_empty 61 61

pawn_promotion :
    (front : List ℕ) (t : ℕ) (o : Option Kind) (a : Mark)
    → HasNone 61 61 front
    → promotion_by (last_in 61 61 (front ++ (square_text t ++ (promotion_text o ++ mark_text a)))) (last_in 66 82 (front ++ (square_text t ++ (promotion_text o ++ mark_text a)))) ≡ o
pawn_promotion front t None a h = promotion_none (front ++ (square_text t ++ mark_text a)) (none_join 61 61 front _ h (none_join 61 61 (square_text t) (mark_text a) (square_none_equals t) (mark_none_equals a)))
pawn_promotion front t (Some k) a h =
    let P : List ℕ → Type 0 = λ q. promotion_by (last_in 61 61 q) (last_in 66 82 q) ≡ Some k in
    subst P (append_assoc front (square_text t) (promotion_text (Some k) ++ mark_text a)) (promotion_some (front ++ square_text t) k a)

pawn_finds : (c : Bool) (m : Move) (a : Mark) → m.to < 64 → Finds (pawn_text c m ++ mark_text a) Pawn m.to m.promotion
pawn_finds c m a lt =
    let first : 97 ≤ get_or (pawn_text c m ++ mark_text a) 0 0 = pawn_first c m (mark_text a) in
    let T : List ℕ → Type 0 = λ q. target_by (last_in 97 104 q) (last_in 49 56 q) ≡ Some m.to in
    let P : List ℕ → Type 0 = λ q. promotion_by (last_in 61 61 q) (last_in 66 82 q) ≡ m.promotion in
    let same = sym (pawn_regroup c m (mark_text a)) in
    record {
      head = λ e. omega arith;
      kind = kind_at-small _ first;
      to =
          subst T same
          (target (pawn_cross c m.from) (promotion_text m.promotion ++ mark_text a) m.to lt
          (none_join 97 104 (promotion_text m.promotion) (mark_text a) (promotion_none_file m.promotion) (mark_none_file a))
          (none_join 49 56 (promotion_text m.promotion) (mark_text a) (promotion_none_rank m.promotion) (mark_none_rank a)));
      promotion = subst P same (pawn_promotion (pawn_cross c m.from) m.to m.promotion a (pawn_cross_none c m.from));
    }

origin_none : (o : Origin) (s : ℕ) → HasNone 61 61 (origin_text o s)
origin_none Nothing s = none_empty 61 61
origin_none ByFile s = file_none_equals s
origin_none ByRank s = rank_none_equals s
origin_none ByBoth s = square_none_equals s

cross_none : (c : Bool) → HasNone 61 61 (cross c)
cross_none true = none_one 61 61 120 refl
cross_none false = none_empty 61 61

-- the target at the end of what precedes the mark
piece_regroup : (k : Kind) (o : Origin) (c : Bool) (m : Move) (a : List ℕ) → piece_text k o c m ++ a ≡ (letter k ∷ origin_text o m.from ++ cross c) ++ (square_text m.to ++ a)
piece_regroup k o c m a =
    append_assoc (letter k ∷ origin_text o m.from) (cross c ++ square_text m.to) a
    ∙ ap (λ (x : List ℕ). letter k ∷ origin_text o m.from ++ x) (append_assoc (cross c) (square_text m.to) a)
    ∙ sym (append_assoc (letter k ∷ origin_text o m.from) (cross c) (square_text m.to ++ a))

piece_finds : (k : Kind) (o : Origin) (c : Bool) (m : Move) (a : Mark) → m.to < 64 → Finds (piece_text k o c m ++ mark_text a) k m.to None
piece_finds k o c m a lt =
    let T : List ℕ → Type 0 = λ q. target_by (last_in 97 104 q) (last_in 49 56 q) ≡ Some m.to in
    let N : List ℕ → Type 0 = λ q. HasNone 61 61 q in
    let same = sym (piece_regroup k o c m (mark_text a)) in
    let front = letter k ∷ origin_text o m.from ++ cross c in
    let no_equals : HasNone 61 61 (piece_text k o c m ++ mark_text a) =
    subst N same
    (none_join 61 61 front (square_text m.to ++ mark_text a)
    (none_join 61 61 (letter k ∷ []) (origin_text o m.from ++ cross c) (letter_none_equals k) (none_join 61 61 (origin_text o m.from) (cross c) (origin_none o m.from) (cross_none c)))
    (none_join 61 61 (square_text m.to) (mark_text a) (square_none_equals m.to) (mark_none_equals a))) in
    record {
      head = λ e. (letter_head k).1 e;
      kind = kind_at-letter k;
      to = subst T same (target front (mark_text a) m.to lt (mark_none_file a) (mark_none_rank a));
      promotion = promotion_none (piece_text k o c m ++ mark_text a) no_equals;
    }

aims_by : (p : Parts) (m : Move) (x : List ℕ) (a : Mark) → Valid p → Legal p m → IsBody p m x → (aim : Aim) × (aim_at p.side (x ++ mark_text a) ≡ Some aim) × IsAimedAt p m aim
aims_by p m x a v l (castling c e) =
    let w : (wing : Wing) × Castles p m wing = castles p m l.goes c in
    let q : Castles p m w.0 = w.1 in
    let same : x ≡ castling_text w.0 = e ∙ ap castling_text (wing-homes p.side w.0 m q.from q.to) in (
      castling_aim p.side w.0,
      ap (λ (y : List ℕ). aim_at p.side (y ++ mark_text a)) same ∙ castling_aims p.side w.0 a,
      record { kind = king_stands p m w.0 v q; to = q.to; promotion = q.promotion },
    )
aims_by p m x a v l (pawn c e) = (
  record { kind = Pawn; to = m.to; promotion = m.promotion },
  ap (λ (y : List ℕ). aim_at p.side (y ++ mark_text a)) e ∙ finds_aim p.side _ Pawn m.to m.promotion (pawn_finds (is_capture p m) m a l.on_board),
  record { kind = c; to = refl; promotion = refl },
)
aims_by p m x a v l (piece k s no_pawn no_castling o need e) = (
  record { kind = k; to = m.to; promotion = None },
  ap (λ (y : List ℕ). aim_at p.side (y ++ mark_text a)) e ∙ finds_aim p.side _ k m.to None (piece_finds k o (is_capture p m) m a l.on_board),
  record { kind = s; to = refl; promotion = promotes_none p m k l.goes s no_pawn },
)

-- a text aims at each legal move that it names
pub aims : (p : Parts) (m : Move) (text : List ℕ) → Valid p → Legal p m → San p m text → (aim : Aim) × (aim_at p.side text ≡ Some aim) × IsAimedAt p m aim
aims p m text v l s =
    let q = aims_by p m s.body s.mark v l s.is_body in
    (q.0, ap (aim_at p.side) s.is_text ∙ q.1, q.2)
