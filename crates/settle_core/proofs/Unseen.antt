-- Where two plies were not seen: the picture after them settles no move, and none in the place of the last one.
use Rattle.std.proofs.Common.{◌≡◌, ◌≢◌, ◌⊎◌, ◌+◌, ◌/◌, ℕ, Bool, true, false, inl, inr, List, [], ◌∷◌, Option, Some, None, IsTrue, if◌then◌else◌, unwrap_or, refl, sym, ap, subst, ◌∙◌}
use Rattle.std.proofs.lemmas.Bool.{cases_eq, and_parts}
use Rattle.std.proofs.lemmas.Option.{same_Some}
use Rattle.chess_rules.specs.declared.pieces.Side.{Side}
use Rattle.chess_rules.specs.declared.pieces.Side.TheVariants.{White, Black}
use Rattle.chess_rules.specs.declared.pieces.Kind.{Kind}
use Rattle.chess_rules.specs.declared.pieces.Kind.TheVariants.{Pawn, Rook, King}
use Rattle.chess_rules.specs.declared.chess_move.Move.{Move}
use Rattle.chess_rules.specs.declared.parts.Parts.{Parts}
use Rattle.chess_rules.specs.declared.lines.Wing.{Wing}
use Rattle.chess_rules.specs.declared.lines.Wing.TheVariants.{KingSide, QueenSide}
use Rattle.chess_rules.specs.Board.{Board, on, piece_of, other, row, Ahead, forward}
use Rattle.chess_rules.specs.After.{after, right_after, has_right, king_home, rook_home}
use Rattle.chess_rules.specs.Legal.{Goes, step, pawn_step, capture, double_step, en_passant, castling, Legal, TakesEnPassant}
use Rattle.chess_rules.specs.Valid.{Valid, IsAtHome, IsTarget}
use Rattle.chess_rules.specs.Picture.{picture}
use Rattle.chess_rules.specs.Laws.{MovesOnePiece, MovesKingAndRook}
use Rattle.chess_rules.proofs.LawLemmas.{pieces_tell_moves, moves_move_pieces, moves_stay_valid, pictures_tell_boards}
use Rattle.chess_rules.proofs.Shifts.{kind_of, same_unless, side_of}
use Rattle.chess_rules.proofs.Replacing.{king_no_pawn, none_piece, other-other, sides_differ}
use Rattle.settle_core.specs.Settling.{Settles, reached, Played}
use Rattle.settle_core.specs.Folding.{Replaces}
use Rattle.settle_core.specs.Laws.{TwoUnseenWait, ThreeUnseenSettleNothing}
use Rattle.settle_core.proofs.Boards.{king_no_rook, empty_differs, kind_differs, one_kept, castled_quiet}
use Rattle.settle_core.proofs.Pieces.{piece_or_not, theirs_stood, picture_moves}
use Rattle.settle_core.proofs.Apart.{no_sign_valid}
use Rattle.settle_core.proofs.Stages.{valid_reached}
use Rattle.settle_core.proofs.Pawns.{Advances, NextRow, pawn_attack_row, pawn_advances, pawn_stood, one_back, passed, no_half, no_target, not_back, not_beside, not_between}

-- the same side by another name
pub as_side : (b : Board) (s : ℕ) (k : Kind) (x y : Side) → x ≡ y → on b s ≡ piece_of x k → on b s ≡ piece_of y k
as_side b s k x y e h = h ∙ ap (λ (z : Side). piece_of z k) e

-- what each legal move does
record Went (p : Parts) (m : Move) : Type 0 where
  pub was : Kind
  pub stood : on p.board m.from ≡ piece_of p.side was
  pub left : on (after p m).board m.from ≡ None
  pub is : Kind
  pub came : on (after p m).board m.to ≡ piece_of p.side is
  pub free : (k : Kind) → on p.board m.to ≢ piece_of p.side k
  pub apart : m.from ≢ m.to

went : (p : Parts) (m : Move) → Valid p → Legal p m → Went p m
went p m v l =
    elim (moves_move_pieces p m v l) [
      | inl o ↦ record { was = o.kind; stood = o.stands; left = o.left; is = _; came = o.came; free = o.free; apart = o.apart }
      | inr c ↦ record {
        was = King;
        stood = c.king;
        left = c.king_left;
        is = King;
        came = c.king_came;
        free = λ k e. none_piece (sym c.target_empty ∙ e);
        apart = λ e. none_piece (sym c.target_empty ∙ ap (on p.board) (sym e) ∙ c.king);
      }
    ]

-- a piece of the mover that has not come stood there
pub one_only :
    (p : Parts) (m : Move) (o : MovesOnePiece p m) (s : ℕ) (k : Kind)
    → s ≢ m.to → on (after p m).board s ≡ piece_of p.side k → on p.board s ≡ piece_of p.side k
one_only p m o s k nt h =
    let nf : s ≢ m.from = empty_differs (after p m).board s m.from p.side k h o.left in
    let nx : s ≢ o.taken = empty_differs (after p m).board s o.taken p.side k h o.gone in
    sym (o.others s nf nt nx) ∙ h

-- where the move takes a piece: on the square of arrival, or en passant
pub taken_on :
    (p : Parts) (m : Move) (o : MovesOnePiece p m) (s : ℕ) (k : Kind)
    → on p.board s ≡ piece_of (other p.side) k
    → on (after p m).board s ≢ piece_of (other p.side) k
    → (s ≡ m.to) ⊎ ((s ≡ o.taken) × TakesEnPassant p m × (on p.board s ≡ piece_of (other p.side) Pawn) × Ahead (forward (other p.side)) 1 m.to s)
taken_on p m o s k h gone =
    let nf : s ≢ m.from = λ e. sides_differ p.side (ap side_of (sym o.stands ∙ ap (on p.board) (sym e) ∙ h)) in
    let A : ℕ → Type 0 = λ t. Ahead (forward (other p.side)) 1 m.to t in
    elim (cases_eq s m.to) [
      | inl e ↦ inl e
      | inr nt ↦
          elim (cases_eq s o.taken) [
            | inr nx ↦ absurd (gone (o.others s nf nt nx ∙ h))
            | inl e ↦
                elim o.passes [
                  | inl from ↦ absurd (nf (e ∙ from))
                  | inr x ↦ inr (e, x.0, ap (on p.board) e ∙ x.1, subst A (sym e) x.2)
                ]
          ]
    ]

-- how a move takes the piece on s
record TakenAt (p : Parts) (m : Move) (s : ℕ) : Type 0 where
  pub one : MovesOnePiece p m
  pub way : (s ≡ m.to) ⊎ ((s ≡ one.taken) × TakesEnPassant p m × (on p.board s ≡ piece_of (other p.side) Pawn) × Ahead (forward (other p.side)) 1 m.to s)

taken_at :
    (p : Parts) (m : Move) (s : ℕ) (k : Kind)
    → Valid p → Legal p m
    → on p.board s ≡ piece_of (other p.side) k
    → on (after p m).board s ≢ piece_of (other p.side) k
    → TakenAt p m s
taken_at p m s k v l h gone =
    elim (moves_move_pieces p m v l) [
      | inr c ↦ absurd (gone (castled_quiet p m c s k h))
      | inl o ↦ record { one = o; way = taken_on p m o s k h gone }
    ]

-- a right that stands after a move stood before
right_of : (p : Parts) (m : Move) (side : Side) (wing : Wing) → has_right (after p m).rights side wing ≡ right_after p m side wing
right_of p m White KingSide = refl
right_of p m White QueenSide = refl
right_of p m Black KingSide = refl
right_of p m Black QueenSide = refl

right_before : (p : Parts) (m : Move) (side : Side) (wing : Wing) → IsTrue (has_right (after p m).rights side wing) → IsTrue (has_right p.rights side wing)
right_before p m side wing h = (and_parts _ _ (sym (right_of p m side wing) ∙ h)).0

some_if : (b : Bool) (x t : ℕ) → (if b then Some x else None) ≡ Some t → x ≡ t
some_if true x t e = ap (λ (o : Option ℕ). unwrap_or o 0) e
some_if false x t e = absurd (let never : ⊥ = cc in never)

-- Three moves, one after the other, give the board that another move gives in the place of the first.
pub record Rounds (g : Parts) (l m n k : Move) : Type 0 where
  pub valid : Valid g
  pub first : Legal g l
  pub second : Legal (after g l) m
  pub third : Legal (after (after g l) m) n
  pub instead : Legal g k
  pub boards : (after g k).board ≡ (after (after (after g l) m) n).board

valid_second : (g : Parts) (l m n k : Move) → Rounds g l m n k → Valid (after g l)
valid_second g l m n k r = moves_stay_valid g l r.valid r.first

valid_third : (g : Parts) (l m n k : Move) → Rounds g l m n k → Valid (after (after g l) m)
valid_third g l m n k r = moves_stay_valid (after g l) m (valid_second g l m n k r) r.second

-- a piece of the side that began, after the second move, stood before it
mine_before : (g : Parts) (l m n k : Move) (s : ℕ) (j : Kind) → Rounds g l m n k
    → on (after (after g l) m).board s ≡ piece_of g.side j → on (after g l).board s ≡ piece_of g.side j
mine_before g l m n k s j r h =
    as_side _ s j (other (other g.side)) g.side (other-other g.side)
    (theirs_stood (after g l) m s j (valid_second g l m n k r) r.second (as_side _ s j g.side (other (other g.side)) (sym (other-other g.side)) h))

-- a piece of the other side, after the third move, stood before it
theirs_before : (g : Parts) (l m n k : Move) (s : ℕ) (j : Kind) → Rounds g l m n k
    → on (after (after (after g l) m) n).board s ≡ piece_of (other g.side) j → on (after (after g l) m).board s ≡ piece_of (other g.side) j
theirs_before g l m n k s j r h =
    as_side _ s j (other (other (other g.side))) (other g.side) (other-other (other g.side))
    (theirs_stood (after (after g l) m) n s j (valid_third g l m n k r) r.third
    (as_side _ s j (other g.side) (other (other (other g.side))) (sym (other-other (other g.side))) h))

-- the piece that the third move moves, before the second
third_stood : (g : Parts) (l m n k : Move) (o : MovesOnePiece (after (after g l) m) n) → Rounds g l m n k → on (after g l).board n.from ≡ piece_of g.side o.kind
third_stood g l m n k o r = mine_before g l m n k n.from o.kind r (as_side _ n.from o.kind (other (other g.side)) g.side (other-other g.side) o.stands)

-- where the third move leaves a square on which a piece stood at first, the other move leaves it too
third_from :
    (g : Parts) (l m n k : Move) (o : MovesOnePiece (after (after g l) m) n) (ok : MovesOnePiece g k)
    → Rounds g l m n k
    → on g.board n.from ≡ piece_of g.side o.kind
    → n.from ≡ k.from
third_from g l m n k o ok r h =
    let none : on (after g k).board n.from ≡ None = ap (λ (b : Board). on b n.from) r.boards ∙ o.left in
    same_unless n.from k.from (λ d. none_piece (sym none ∙ one_kept g k ok n.from o.kind d h))

-- the square that the first move left is filled again by the third, if at all
first_from :
    (g : Parts) (l m n k : Move) (s : ℕ) (j : Kind) (o : MovesOnePiece (after (after g l) m) n)
    → Rounds g l m n k
    → on (after g l).board s ≡ None
    → on (after g k).board s ≡ piece_of g.side j
    → s ≡ n.to
first_from g l m n k s j o r none h =
    let in_q : on (after (after (after g l) m) n).board s ≡ piece_of g.side j = sym (ap (λ (b : Board). on b s) r.boards) ∙ h in
    same_unless s n.to
    (λ d.
    let in_a : on (after (after g l) m).board s ≡ piece_of (other (other g.side)) j =
    one_only (after (after g l) m) n o s j d (as_side _ s j g.side (other (other g.side)) (sym (other-other g.side)) in_q) in
    none_piece (sym none ∙ mine_before g l m n k s j r (as_side _ s j (other (other g.side)) g.side (other-other g.side) in_a)))

-- two moves of one side, of two pieces, are not one move
two_pieces :
    (g : Parts) (l m n k : Move) (ol : MovesOnePiece g l) (o : MovesOnePiece (after (after g l) m) n) (ok : MovesOnePiece g k)
    → Rounds g l m n k
    → n.from ≢ l.to
    → l.from ≢ n.to
    → ⊥
two_pieces g l m n k ol o ok r ne ne' =
    let in_p : on (after g l).board n.from ≡ piece_of g.side o.kind = third_stood g l m n k o r in
    let f : n.from ≡ k.from = third_from g l m n k o ok r (one_only g l ol n.from o.kind ne in_p) in
    let f' : l.from ≡ k.from = same_unless l.from k.from (λ d. ne' (first_from g l m n k l.from ol.kind o r ol.left (one_kept g k ok l.from ol.kind d ol.stands))) in
    none_piece (sym ol.left ∙ ap (on (after g l).board) (f' ∙ sym f) ∙ in_p)

-- the third move does not castle where the other move is of one piece
third_one : (g : Parts) (l m n k : Move) → Rounds g l m n k → MovesOnePiece g k → MovesOnePiece (after (after g l) m) n
third_one g l m n k r ok =
    let a : Parts = after (after g l) m in
    let same : other (other g.side) ≡ g.side = other-other g.side in
    elim (moves_move_pieces a n (valid_third g l m n k r) r.third) [
      | inl o ↦ o
      | inr c ↦
          let home : IsAtHome g.board a.side c.wing =
          r.valid.rights a.side c.wing (right_before g l a.side c.wing (right_before (after g l) m a.side c.wing c.castles.right)) in
          let king : king_home a.side ≡ k.from =
          same_unless (king_home a.side) k.from
          (λ d.
          let none : on (after g k).board (king_home a.side) ≡ None =
          ap (λ (b : Board). on b (king_home a.side)) r.boards ∙ ap (on (after a n).board) (sym c.castles.from) ∙ c.king_left in
          none_piece (sym none ∙ one_kept g k ok (king_home a.side) King d (as_side g.board _ King a.side g.side same home.king))) in
          let rook : rook_home a.side c.wing ≡ k.from =
          same_unless (rook_home a.side c.wing) k.from
          (λ d.
          let none : on (after g k).board (rook_home a.side c.wing) ≡ None =
          ap (λ (b : Board). on b (rook_home a.side c.wing)) r.boards ∙ c.rook_left in
          none_piece (sym none ∙ one_kept g k ok (rook_home a.side c.wing) Rook d (as_side g.board _ Rook a.side g.side same home.rook))) in
          absurd (king_no_rook (ap kind_of (sym home.king ∙ ap (on g.board) (king ∙ sym rook) ∙ home.rook)))
    ]

-- the piece that the second move moved is taken by the third, or stands where the first took one of its kind
third_took : (g : Parts) (l m n k : Move) (w : Went (after g l) m) → Rounds g l m n k
    → on (after (after (after g l) m) n).board m.to ≢ piece_of (other g.side) w.is → TakenAt (after (after g l) m) n m.to
third_took g l m n k w r gone =
    let same : other (other (other g.side)) ≡ other g.side = other-other (other g.side) in
    taken_at (after (after g l) m) n m.to w.is (valid_third g l m n k r) r.third
    (as_side _ m.to w.is (other g.side) (other (other (other g.side))) (sym same) w.came)
    (λ e. gone (as_side _ m.to w.is (other (other (other g.side))) (other g.side) same e))

record FirstTook (g : Parts) (l m : Move) (j : Kind) : Type 0 where
  pub stood : on g.board m.to ≡ piece_of (other g.side) j
  pub taken : TakenAt g l m.to

first_took : (g : Parts) (l m n k : Move) (w : Went (after g l) m) → Rounds g l m n k
    → on (after (after (after g l) m) n).board m.to ≡ piece_of (other g.side) w.is → FirstTook g l m w.is
first_took g l m n k w r stays =
    let in_k : on (after g k).board m.to ≡ piece_of (other g.side) w.is = ap (λ (b : Board). on b m.to) r.boards ∙ stays in
    let in_g : on g.board m.to ≡ piece_of (other g.side) w.is = theirs_stood g k m.to w.is r.valid r.instead in_k in
    record { stood = in_g; taken = taken_at g l m.to w.is r.valid r.first in_g (w.free w.is) }

-- a piece that the third move moves does not stand where the second came
not_where_second : (g : Parts) (l m n k : Move) (w : Went (after g l) m) (o : MovesOnePiece (after (after g l) m) n) → m.to ≡ l.to → n.from ≢ l.to
not_where_second g l m n k w o e q =
    let mine : on (after (after g l) m).board n.from ≡ piece_of g.side o.kind = as_side _ n.from o.kind (other (other g.side)) g.side (other-other g.side) o.stands in
    sides_differ g.side (ap side_of (sym mine ∙ ap (on (after (after g l) m).board) (q ∙ sym e) ∙ w.came))

-- after a capture en passant no pawn of the other side goes to the square of the pawn that was taken
no_second :
    (g : Parts) (l m : Move) (ol : MovesOnePiece g l)
    → Valid g → Valid (after g l)
    → TakesEnPassant g l
    → Ahead (forward (other g.side)) 1 l.to m.to
    → m.to ≡ ol.taken
    → on (after g l).board m.from ≡ piece_of (other g.side) Pawn
    → Goes (after g l) m
    → ⊥
no_second g l m ol v w x ahead e h (step s) = s.no_pawn (ap kind_of (sym s.stands ∙ h))
no_second g l m ol v w x ahead e h (pawn_step s) =
    let same : m.from ≡ l.to = one_back (other g.side) m.from l.to m.to s.goes ahead in
    sides_differ g.side (ap side_of (sym ol.came ∙ ap (on (after g l).board) (sym same) ∙ h))
no_second g l m ol v w x ahead e h (capture s) = none_piece (sym ol.gone ∙ ap (on (after g l).board) (sym e) ∙ s.taken)
no_second g l m ol v w x ahead e h (double_step s) =
    none_piece (sym (s.passed_empty l.to (passed (other g.side) m.from l.to m.to s.goes ahead)) ∙ ol.came)
no_second g l m ol v w x ahead e h (en_passant s) =
    let one : IsTarget g.board g.side l.to = v.target l.to x.target in
    let two : IsTarget (after g l).board (other g.side) m.to = w.target m.to s.target in
    no_target g.side l.to m.to one.on_row two.on_row ahead
no_second g l m ol v w x ahead e h (castling wing s) =
    let home : IsAtHome (after g l).board (other g.side) wing = w.rights (other g.side) wing s.right in
    king_no_pawn (ap kind_of (sym home.king ∙ ap (on (after g l).board) (sym s.from) ∙ h))

-- the other move takes the second move's piece on the square that it left
took_there : (g : Parts) (l m n k : Move) (w : Went (after g l) m) (ok : MovesOnePiece g k) → Rounds g l m n k → m.from ≡ k.to → ⊥
took_there g l m n k w ok r e =
    let a : Parts = after (after g l) m in
    let o : MovesOnePiece a n = third_one g l m n k r ok in
    let in_k : on (after g k).board m.from ≡ piece_of g.side (unwrap_or k.promotion ok.kind) = ap (on (after g k).board) e ∙ ok.came in
    let in_q : on (after a n).board m.from ≡ piece_of (other (other g.side)) (unwrap_or k.promotion ok.kind) =
    as_side _ m.from _ g.side (other (other g.side)) (sym (other-other g.side)) (sym (ap (λ (b : Board). on b m.from) r.boards) ∙ in_k) in
    let f : m.from ≡ n.to = same_unless m.from n.to (λ d. none_piece (sym w.left ∙ one_only a n o m.from _ d in_q)) in
    elim (piece_or_not (on (after a n).board m.to) (piece_of (other g.side) w.is)) [
      | inr gone ↦
          let t : TakenAt a n m.to = third_took g l m n k w r gone in
          elim t.way [
            | inl same ↦ w.apart (f ∙ sym same)
            | inr x ↦
                let half : (m.from + m.to) / 2 ≡ n.to = some_if _ _ n.to (x.1).target in
                let A : ℕ → Type 0 = λ s. Ahead (forward (other (other (other g.side)))) 1 s m.to in
                no_half (other (other (other g.side))) m.from m.to (half ∙ sym f) (subst A (sym f) x.3)
          ]
      | inl stays ↦
          let t : FirstTook g l m w.is = first_took g l m n k w r stays in
          elim t.taken.way [
            | inl same ↦
                two_pieces g l m n k t.taken.one o ok r (not_where_second g l m n k w o same)
                (λ q. none_piece (sym t.taken.one.left ∙ ap (on (after g l).board) (q ∙ sym f) ∙ w.stood))
            | inr x ↦
                let pawn : w.is ≡ Pawn = ap kind_of (sym t.stood ∙ x.2) in
                no_second g l m t.taken.one r.valid (valid_second g l m n k r) x.1 x.3 x.0
                (pawn_stood (after g l) m (valid_second g l m n k r) r.second (w.came ∙ ap (piece_of (other g.side)) pawn)) r.second.goes
          ]
    ]

-- it takes it en passant: the second move is a pawn's
record Passant (g : Parts) (l m n k : Move) : Type 0 where
  pub one : MovesOnePiece g k
  pub takes : TakesEnPassant g k
  pub ahead : Ahead (forward (other g.side)) 1 k.to m.from
  pub advances : Advances (other g.side) (row m.from) (row m.to)
  pub came : on (after g k).board k.to ≡ piece_of g.side Pawn

passant :
    (g : Parts) (l m n k : Move) (w : Went (after g l) m) (ok : MovesOnePiece g k)
    → Rounds g l m n k
    → TakesEnPassant g k
    → on g.board m.from ≡ piece_of (other g.side) Pawn
    → Ahead (forward (other g.side)) 1 k.to m.from
    → Passant g l m n k
passant g l m n k w ok r x pawn ahead =
    let in_g : on g.board m.from ≡ piece_of (other g.side) w.was = theirs_stood g l m.from w.was r.valid r.first w.stood in
    let was : w.was ≡ Pawn = ap kind_of (sym in_g ∙ pawn) in
    let kk : ok.kind ≡ Pawn = ap kind_of (sym ok.stands ∙ x.stands) in
    record {
      one = ok;
      takes = x;
      ahead = ahead;
      advances = pawn_advances (after g l) m (valid_second g l m n k r) r.second (w.stood ∙ ap (piece_of (other g.side)) was);
      came = ok.came ∙ ap (λ (q : Option Kind). piece_of g.side (unwrap_or q ok.kind)) x.promotion ∙ ap (piece_of g.side) kk;
    }

-- the third move comes to its square
passant_third : (g : Parts) (l m n k : Move) (w : Went (after g l) m) (x : Passant g l m n k) → Rounds g l m n k → k.to ≡ n.to → ⊥
passant_third g l m n k w x r e =
    let a : Parts = after (after g l) m in
    let o : MovesOnePiece a n = third_one g l m n k r x.one in
    elim (piece_or_not (on (after a n).board m.to) (piece_of (other g.side) w.is)) [
      | inr gone ↦
          let t : TakenAt a n m.to = third_took g l m n k w r gone in
          elim t.way [
            | inl same ↦ not_back (other g.side) k.to m.from m.to x.ahead x.advances (same ∙ sym e)
            | inr y ↦
                let A : ℕ → Type 0 = λ s. Ahead (forward (other (other (other g.side)))) 1 s m.to in
                let B : Side → Type 0 = λ z. Ahead (forward z) 1 k.to m.to in
                not_beside (other g.side) k.to m.from m.to x.ahead x.advances (subst B (other-other (other g.side)) (subst A (sym e) y.3))
          ]
      | inl stays ↦
          let t : FirstTook g l m w.is = first_took g l m n k w r stays in
          elim t.taken.way [
            | inl same ↦
                two_pieces g l m n k t.taken.one o x.one r (not_where_second g l m n k w o same)
                (λ q. x.one.free t.taken.one.kind (ap (on g.board) (e ∙ sym q) ∙ t.taken.one.stands))
            | inr y ↦
                let A : ℕ → Type 0 = λ s. Ahead (forward (other g.side)) 1 s m.to in
                let same : l.to ≡ k.to = same_Some l.to k.to (sym (y.1).target ∙ x.takes.target) in
                not_beside (other g.side) k.to m.from m.to x.ahead x.advances (subst A same y.3)
          ]
    ]

-- castling brings no pawn
castled_pawn : (p : Parts) (m : Move) (c : MovesKingAndRook p m) (s : ℕ) → on (after p m).board s ≡ piece_of p.side Pawn → on p.board s ≡ piece_of p.side Pawn
castled_pawn p m c s h =
    let b : Board = (after p m).board in
    sym (c.others s (empty_differs b s _ p.side Pawn h c.king_left) (kind_differs b s _ p.side Pawn King (λ e. king_no_pawn (sym e)) h c.king_came)
    (empty_differs b s _ p.side Pawn h c.rook_left) (kind_differs b s _ p.side Pawn Rook (λ e. cc) h c.rook_came)) ∙ h

-- the first move comes to its square
passant_first : (g : Parts) (l m n k : Move) (x : Passant g l m n k) → Rounds g l m n k → k.to ≢ n.to → ⊥
passant_first g l m n k x r ne =
    let a : Parts = after (after g l) m in
    let p : Parts = after g l in
    let back : other (other g.side) ≡ g.side = other-other g.side in
    let o : MovesOnePiece a n = third_one g l m n k r x.one in
    let in_q : on (after a n).board k.to ≡ piece_of g.side Pawn = sym (ap (λ (b : Board). on b k.to) r.boards) ∙ x.came in
    let in_a : on a.board k.to ≡ piece_of (other (other g.side)) Pawn = one_only a n o k.to Pawn ne (as_side _ k.to Pawn g.side (other (other g.side)) (sym back) in_q) in
    let in_p : on p.board k.to ≡ piece_of g.side Pawn = mine_before g l m n k k.to Pawn r (as_side _ k.to Pawn (other (other g.side)) g.side back in_a) in
    elim (moves_move_pieces g l r.valid r.first) [
      | inr c ↦ x.one.free Pawn (castled_pawn g l c k.to in_p)
      | inl ol ↦
          let t : k.to ≡ l.to = same_unless k.to l.to (λ d. x.one.free Pawn (one_only g l ol k.to Pawn d in_p)) in
          let pawn : on g.board l.from ≡ piece_of g.side Pawn = pawn_stood g l r.valid r.first (ap (on p.board) (sym t) ∙ in_p) in
          let one : Advances g.side (row l.from) (row l.to) = pawn_advances g l r.valid r.first pawn in
          let stood : on p.board n.from ≡ piece_of g.side o.kind = third_stood g l m n k o r in
          let nq : n.from ≢ l.to = λ q. none_piece (sym o.left ∙ ap (on (after a n).board) (q ∙ sym t) ∙ in_q) in
          let in_g : on g.board n.from ≡ piece_of g.side o.kind = one_only g l ol n.from o.kind nq stood in
          let f : n.from ≡ k.from = third_from g l m n k o x.one r in_g in
          let nk : o.kind ≡ Pawn = ap kind_of (sym in_g ∙ ap (on g.board) f ∙ x.takes.stands) in
          let two : Advances a.side (row n.from) (row n.to) = pawn_advances a n (valid_third g l m n k r) r.third (o.stands ∙ ap (piece_of a.side) nk) in
          let d : l.from ≢ k.from = λ q. none_piece (sym ol.left ∙ ap (on p.board) (q ∙ sym f) ∙ stood) in
          let to : l.from ≡ n.to = first_from g l m n k l.from Pawn o r ol.left (one_kept g k x.one l.from Pawn d pawn) in
          let next : NextRow g.side (row k.from) (row k.to) = pawn_attack_row g.board g.side k.from k.to x.takes.attacks in
          let S : Side → Type 0 = λ z. Advances z (row n.from) (row n.to) in
          let F : ℕ → Type 0 = λ s. Advances g.side (row s) (row n.to) in
          let T : ℕ → Type 0 = λ s. Advances g.side (row k.from) (row s) in
          let K : ℕ → Type 0 = λ s. Advances g.side (row l.from) (row s) in
          not_between g.side (row k.from) (row l.from) (row k.to) next (subst T (sym to) (subst F f (subst S back two))) (subst K (sym t) one)
    ]

-- three moves do not give the board that one move gives
pub no_round : (g : Parts) (l m n k : Move) → ¬ Rounds g l m n k
no_round g l m n k r =
    let w : Went (after g l) m = went (after g l) m (valid_second g l m n k r) r.second in
    let in_g : on g.board m.from ≡ piece_of (other g.side) w.was = theirs_stood g l m.from w.was r.valid r.first w.stood in
    let gone : on (after g k).board m.from ≢ piece_of (other g.side) w.was =
    λ e. none_piece (sym w.left ∙ theirs_before g l m n k m.from w.was r (sym (ap (λ (b : Board). on b m.from) r.boards) ∙ e)) in
    let t : TakenAt g k m.from = taken_at g k m.from w.was r.valid r.instead in_g gone in
    elim t.way [
      | inl e ↦ took_there g l m n k w t.one r e
      | inr x ↦
          let y : Passant g l m n k = passant g l m n k w t.one r x.1 x.2 x.3 in
          elim (cases_eq k.to n.to) [ inl e ↦ passant_third g l m n k w y r e | inr ne ↦ passant_first g l m n k y r ne ]
    ]

-- after two moves, no one move has been made
two_settle_nothing : (p : Parts) (m n x : Move) → Valid p → Legal p m → Legal (after p m) n → ¬ Settles p (picture (after (after p m) n)) x
two_settle_nothing p m n x v lm ln h =
    let w : Valid (after p m) = moves_stay_valid p m v lm in
    let boards : (after p x).board ≡ (after (after p m) n).board = pictures_tell_boards (after p x) (after (after p m) n) (sym h.shows) in
    let same : x ≡ m =
    pieces_tell_moves p x m v h.legal lm
    (λ s k g.
    let in_q : on (after (after p m) n).board s ≡ piece_of p.side k = sym (ap (λ (b : Board). on b s) boards) ∙ g in
    as_side _ s k (other (other p.side)) p.side (other-other p.side)
    (theirs_stood (after p m) n s k w ln (as_side _ s k p.side (other (other p.side)) (sym (other-other p.side)) in_q))) in
    picture_moves (after p m) n w ln (h.shows ∙ ap (λ (y : Move). picture (after p y)) same)

two_replace_nothing :
    (start : Parts) (moves : List Move) (m n k : Move)
    → Valid start → Played start moves → Legal (reached start moves) m → Legal (after (reached start moves) m) n
    → ¬ Replaces start moves (picture (after (after (reached start moves) m) n)) k
two_replace_nothing start [] m n k v played lm ln h = h
two_replace_nothing start (last ∷ earlier) m n k v played lm ln h =
    let g : Parts = reached start earlier in
    let q : Parts = after (after (after g last) m) n in
    no_round g last m n k
    (record {
      valid = valid_reached start earlier v played.1;
      first = played.0;
      second = lm;
      third = ln;
      instead = (h.0).legal;
      boards = pictures_tell_boards (after g k) q (sym (h.0).shows);
    })

pub two_unseen_wait : TwoUnseenWait
two_unseen_wait start moves m reply v played lm ln =
    let p : Parts = reached start moves in
    let w : Valid p = valid_reached start moves v played in
    let last : Valid (after (after p m) reply) = moves_stay_valid (after p m) reply (moves_stay_valid p m w lm) ln in (
      λ x. two_settle_nothing p m reply x w lm ln,
      λ outcome. no_sign_valid (after (after p m) reply) (picture (after (after p m) reply)) last refl p outcome,
      λ k. two_replace_nothing start moves m reply k v played lm ln,
    )

pub three_settle_nothing : ThreeUnseenSettleNothing
three_settle_nothing p m reply next v lm ln lo =
    let a : Parts = after (after p m) reply in
    let w : Valid a = moves_stay_valid (after p m) reply (moves_stay_valid p m v lm) ln in (
      λ n h.
          no_round p m reply next n
          (record {
            valid = v;
            first = lm;
            second = ln;
            third = lo;
            instead = h.legal;
            boards = pictures_tell_boards (after p n) (after a next) (sym h.shows);
          }),
      λ over outcome. no_sign_valid (after a next) (picture (after a next)) (moves_stay_valid a next w lo) refl over outcome,
    )
