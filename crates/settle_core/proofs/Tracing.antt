-- What two pictures tell of the move between them.
use Rattle.std.proofs.Common.{◌≡◌, ◌≢◌, ℕ, ◌⊎◌, ◌==◌, ◌&&◌, ◌||◌, not, Bool, true, false, inl, inr, None, Some, Option, unwrap_or, refl, sym, ap, subst, ◌∙◌, arith}
use Rattle.std.proofs.lemmas.Bool.{cases_Bool, cases_eq, and_from, and_parts, ne_eqb, eq-eqb, both_ways, cond-true, cond-false}
use Rattle.chess_rules.specs.declared.pieces.Side.{Side}
use Rattle.chess_rules.specs.declared.pieces.Side.TheVariants.{White, Black}
use Rattle.chess_rules.specs.declared.pieces.Kind.{Kind}
use Rattle.chess_rules.specs.declared.pieces.Kind.TheVariants.{Pawn, Rook, Knight, Bishop, King, Queen}
use Rattle.chess_rules.specs.declared.pieces.Piece.{Piece}
use Rattle.chess_rules.specs.declared.chess_move.Move.{Move}
use Rattle.chess_rules.specs.declared.parts.Parts.{Parts}
use Rattle.chess_rules.specs.Board.{Board, on, piece_of, other, row, last_row}
use Rattle.chess_rules.specs.After.{after, board_after, rook_home, crossed}
use Rattle.chess_rules.specs.Legal.{Legal, NamesPromotion, IsOfficer}
use Rattle.chess_rules.specs.Valid.{Valid, HasOneKing}
use Rattle.chess_rules.specs.Picture.{code, code_of_piece}
use Rattle.chess_rules.specs.Laws.{MovesOnePiece, MovesKingAndRook}
use Rattle.chess_rules.proofs.LawLemmas.{moves_move_pieces, moves_stay_valid}
use Rattle.chess_rules.proofs.Shifts.{same_unless}
use Rattle.chess_rules.proofs.Replacing.{king_no_pawn, none_piece}
use Rattle.chess_rules.proofs.Staying.{own_or_other}
use Rattle.settle_core.proofs.Boards.{one_kept}
use Rattle.settle_core.specs.Candidate.{is_king_code, side_number, lands}
use Rattle.settle_core.specs.Inside.Reading.{is_pawn_code, leaves, officer_of, promotion_between}
use Rattle.settle_core.proofs.Pieces.{same_code, theirs_stood, code_no_zero}

-- the tests on codes
pub record Lands (kings : Bool) (x y : ℕ) : Type 0 where
  pub differ : x ≢ y
  pub some : y ≢ 0
  pub king : kings ≡ true → is_king_code y ≡ true

pub lands_from : (kings : Bool) (x y : ℕ) → Lands kings x y → lands kings x y ≡ true
lands_from true x y h =
    and_from _ _ (ap not (ne_eqb x y h.differ)) (and_from _ _ (ap not (ne_eqb y 0 h.some)) (h.king refl))
lands_from false x y h =
    and_from _ _ (ap not (ne_eqb x y h.differ)) (and_from _ _ (ap not (ne_eqb y 0 h.some)) refl)

not_true : {b : Bool} → not b ≡ true → b ≡ true → ⊥
not_true {b = true} e h = let never : ⊥ = cc in never
not_true {b = false} e h = let never : ⊥ = cc in never

pub lands_parts : (kings : Bool) (x y : ℕ) → lands kings x y ≡ true → Lands kings x y
lands_parts kings x y h =
    let a = and_parts (not (x == y)) (not (y == 0) && (not kings || is_king_code y)) h in
    let b = and_parts (not (y == 0)) (not kings || is_king_code y) a.1 in
    record {
      differ = λ e. not_true a.0 (eq-eqb x y e);
      some = λ e. not_true b.0 (eq-eqb y 0 e);
      king = λ e. let P : Bool → Type 0 = λ t. (not t || is_king_code y) ≡ true in subst P e b.1;
    }

pub record Leaves (c x y : ℕ) : Type 0 where
  pub none : y ≡ 0
  pub king : is_king_code c ≡ true → x ≡ c
  pub piece : is_king_code c ≡ false → side_number x ≡ side_number c

pub eqb_true : (a b : ℕ) → (a == b) ≡ true → a ≡ b
eqb_true a b h = elim (cases_eq a b) [ inl e ↦ e | inr ne ↦ absurd (both_ways _ (ne_eqb a b ne) h) ]

pub leaves_from : (c x y : ℕ) → Leaves c x y → leaves c x y ≡ true
leaves_from c x y h =
    and_from _ _ (eq-eqb y 0 h.none)
    (elim (cases_Bool (is_king_code c)) [
      | inl e ↦ cond-true (is_king_code c) (x == c) (side_number x == side_number c) e ∙ eq-eqb x c (h.king e)
      | inr e ↦ cond-false (is_king_code c) (x == c) (side_number x == side_number c) e ∙ eq-eqb _ _ (h.piece e)
    ])

pub leaves_parts : (c x y : ℕ) → leaves c x y ≡ true → Leaves c x y
leaves_parts c x y h =
    let a = and_parts (y == 0) _ h in
    record {
      none = eqb_true y 0 a.0;
      king = λ e. eqb_true x c (sym (cond-true (is_king_code c) (x == c) (side_number x == side_number c) e) ∙ a.1);
      piece = λ e. eqb_true _ _ (sym (cond-false (is_king_code c) (x == c) (side_number x == side_number c) e) ∙ a.1);
    }

-- the codes of pieces
abbrev pub number_of : Side → ℕ
number_of White = 1
number_of Black = 2

pub side_code : (side : Side) (k : Kind) → side_number (code_of_piece side k) ≡ number_of side
side_code White Pawn = refl
side_code White Rook = refl
side_code White Knight = refl
side_code White Bishop = refl
side_code White King = refl
side_code White Queen = refl
side_code Black Pawn = refl
side_code Black Rook = refl
side_code Black Knight = refl
side_code Black Bishop = refl
side_code Black King = refl
side_code Black Queen = refl

pub number_same : (a b : Side) → number_of a ≡ number_of b → a ≡ b
number_same White White e = refl
number_same Black Black e = refl
number_same White Black e = absurd (let never : ⊥ = omega arith in never)
number_same Black White e = absurd (let never : ⊥ = omega arith in never)

pub number_some : (a : Side) → 0 ≡ number_of a → ⊥
number_some White e = omega arith
number_some Black e = omega arith

-- a piece of this side stands where its number is shown
pub own_code : (side : Side) (o : Option Piece) → side_number (code o) ≡ number_of side → (k : Kind) × (o ≡ piece_of side k)
own_code side None e = absurd (number_some side e)
own_code side (Some piece) e =
    let same : piece.side ≡ side = number_same piece.side side (sym (side_code piece.side piece.kind) ∙ e) in
    (piece.kind, ap (λ (s : Side). piece_of s piece.kind) same)

pub king_code_is : (side : Side) → is_king_code (code_of_piece side King) ≡ true
king_code_is White = refl
king_code_is Black = refl

pub king_kind : (side : Side) (k : Kind) → is_king_code (code_of_piece side k) ≡ true → k ≡ King
king_kind side King e = refl
king_kind White Pawn e = absurd (let never : ⊥ = cc in never)
king_kind White Rook e = absurd (let never : ⊥ = cc in never)
king_kind White Knight e = absurd (let never : ⊥ = cc in never)
king_kind White Bishop e = absurd (let never : ⊥ = cc in never)
king_kind White Queen e = absurd (let never : ⊥ = cc in never)
king_kind Black Pawn e = absurd (let never : ⊥ = cc in never)
king_kind Black Rook e = absurd (let never : ⊥ = cc in never)
king_kind Black Knight e = absurd (let never : ⊥ = cc in never)
king_kind Black Bishop e = absurd (let never : ⊥ = cc in never)
king_kind Black Queen e = absurd (let never : ⊥ = cc in never)

pub king_piece : (o : Option Piece) → is_king_code (code o) ≡ true → (side : Side) × (o ≡ piece_of side King)
king_piece None e = absurd (let never : ⊥ = cc in never)
king_piece (Some piece) e = (piece.side, ap (λ (k : Kind). piece_of piece.side k) (king_kind piece.side piece.kind e))

-- the promotion between two codes
pub promotes_pawn : (side : Side) (o : Option Kind) → IsOfficer o ⊎ (o ≡ None) → promotion_between (code_of_piece side Pawn) (code_of_piece side (unwrap_or o Pawn)) ≡ o
promotes_pawn White (Some Queen) h = refl
promotes_pawn White (Some Rook) h = refl
promotes_pawn White (Some Bishop) h = refl
promotes_pawn White (Some Knight) h = refl
promotes_pawn White None h = refl
promotes_pawn Black (Some Queen) h = refl
promotes_pawn Black (Some Rook) h = refl
promotes_pawn Black (Some Bishop) h = refl
promotes_pawn Black (Some Knight) h = refl
promotes_pawn Black None h = refl
promotes_pawn side (Some Pawn) (inl h) = absurd h
promotes_pawn side (Some King) (inl h) = absurd h
promotes_pawn side (Some Pawn) (inr e) = absurd (let never : ⊥ = cc in never)
promotes_pawn side (Some King) (inr e) = absurd (let never : ⊥ = cc in never)

pub no_pawn_code : (side : Side) (k : Kind) → k ≢ Pawn → is_pawn_code (code_of_piece side k) ≡ false
no_pawn_code side Pawn ne = absurd (ne refl)
no_pawn_code White Rook ne = refl
no_pawn_code White Knight ne = refl
no_pawn_code White Bishop ne = refl
no_pawn_code White King ne = refl
no_pawn_code White Queen ne = refl
no_pawn_code Black Rook ne = refl
no_pawn_code Black Knight ne = refl
no_pawn_code Black Bishop ne = refl
no_pawn_code Black King ne = refl
no_pawn_code Black Queen ne = refl

pub promotes_none : (side : Side) (k : Kind) (y : ℕ) → k ≢ Pawn → promotion_between (code_of_piece side k) y ≡ None
promotes_none side k y ne = cond-false (is_pawn_code (code_of_piece side k)) (officer_of y) None (no_pawn_code side k ne)

pub promotes :
    (side : Side) (k : Kind) (m : Move)
    → NamesPromotion side k m
    → promotion_between (code_of_piece side k) (code_of_piece side (unwrap_or m.promotion k)) ≡ m.promotion
promotes side Pawn m h =
    promotes_pawn side m.promotion
    (elim (cases_eq (row m.to) (last_row side)) [
      | inl l ↦ inl (h.last l)
      | inr l ↦ inr (h.before l)
    ])
promotes side Rook m h = promotes_none side Rook (code_of_piece side (unwrap_or m.promotion Rook)) (λ e. cc) ∙ sym h
promotes side Knight m h = promotes_none side Knight (code_of_piece side (unwrap_or m.promotion Knight)) (λ e. cc) ∙ sym h
promotes side Bishop m h = promotes_none side Bishop (code_of_piece side (unwrap_or m.promotion Bishop)) (λ e. cc) ∙ sym h
promotes side King m h = promotes_none side King (code_of_piece side (unwrap_or m.promotion King)) (λ e. cc) ∙ sym h
promotes side Queen m h = promotes_none side Queen (code_of_piece side (unwrap_or m.promotion Queen)) (λ e. cc) ∙ sym h

-- What the codes before and after a move tell of it.
pub record IsTraced (p : Parts) (m : Move) : Type 0 where
  pub side : Side
  pub arrived : Kind
  pub lands : Lands false (code (on p.board m.to)) (code (on (board_after p m) m.to))
  pub code_to : on (board_after p m) m.to ≡ piece_of side arrived
  pub only_king : (s : ℕ) → Lands true (code (on p.board s)) (code (on (board_after p m) s)) → s ≡ m.to
  pub only_piece : arrived ≢ King → (s : ℕ) → Lands false (code (on p.board s)) (code (on (board_after p m) s)) → s ≡ m.to
  pub leaves : Leaves (code (piece_of side arrived)) (code (on p.board m.from)) (code (on (board_after p m) m.from))
  pub only_left : (s : ℕ) → Leaves (code (piece_of side arrived)) (code (on p.board s)) (code (on (board_after p m) s)) → s ≡ m.from
  pub promotes : promotion_between (code (on p.board m.from)) (code (piece_of side arrived)) ≡ m.promotion
  pub apart : m.from ≢ m.to
  pub third : ℕ
  pub fourth : ℕ
  pub alone : arrived ≢ King → third ≡ fourth
  pub others : (s : ℕ) → s ≢ m.from → s ≢ m.to → s ≢ third → s ≢ fourth → on (board_after p m) s ≡ on p.board s

pub piece_some : (side : Side) (k : Kind) → code (piece_of side k) ≢ 0
piece_some side k e = code_no_zero side k e

-- a king's own square
pub king_from :
    (p : Parts) (s t : ℕ) → Valid p → on p.board t ≡ piece_of p.side King → code (on p.board s) ≡ code (piece_of p.side King) → s ≡ t
king_from p s t v h e =
    let one : HasOneKing p.board p.side = v.kings p.side in
    one.alone s (same_code _ (piece_of p.side King) e) ∙ sym (one.alone t h)

pub traced_one : (p : Parts) (m : Move) → Valid p → MovesOnePiece p m → IsTraced p m
traced_one p m v o =
    let c : Board = board_after p m in
    let k' : Kind = unwrap_or m.promotion o.kind in
    let only : (s : ℕ) → Lands false (code (on p.board s)) (code (on c s)) → s ≡ m.to =
    λ s h. same_unless s m.to (λ nt.
    elim (cases_eq s m.from) [
      | inl e ↦ h.some (ap (λ x. code (on c x)) e ∙ ap code o.left)
      | inr nf ↦
          elim (cases_eq s o.taken) [
            | inl e ↦ h.some (ap (λ x. code (on c x)) e ∙ ap code o.gone)
            | inr nx ↦ h.differ (ap code (sym (o.others s nf nt nx)))
          ]
    ]) in
    record {
      side = p.side;
      arrived = k';
      lands = record {
        differ = λ e. o.free k' (same_code _ (piece_of p.side k') (e ∙ ap code o.came));
        some = λ e. piece_some p.side k' (sym (ap code o.came) ∙ e);
        king = λ e. let never : ⊥ = cc in absurd never;
      };
      code_to = o.came;
      only_king = λ s h. only s (record { differ = h.differ; some = h.some; king = λ e. let never : ⊥ = cc in absurd never });
      only_piece = λ ne. only;
      leaves = record {
        none = ap code o.left;
        king = λ e.
            let q : k' ≡ King = king_kind p.side k' e in
            ap code o.stands ∙ ap (λ (k : Kind). code (piece_of p.side k)) (o.no_new_king q ∙ sym q);
        piece = λ e. ap (λ x. side_number (code x)) o.stands ∙ side_code p.side o.kind ∙ sym (side_code p.side k');
      };
      only_left = λ s h.
          elim (cases_Bool (is_king_code (code (piece_of p.side k')))) [
            | inl e ↦
                let q : k' ≡ King = king_kind p.side k' e in
                king_from p s m.from v (o.stands ∙ ap (piece_of p.side) (o.no_new_king q)) (h.king e ∙ ap (λ (k : Kind). code (piece_of p.side k)) q)
            | inr e ↦
                let own = own_code p.side (on p.board s) (h.piece e ∙ side_code p.side k') in
                same_unless s m.from (λ ne. piece_some p.side own.0 (sym (ap code (one_kept p m o s own.0 ne own.1)) ∙ h.none))
          ];
      promotes = ap (λ x. promotion_between (code x) (code (piece_of p.side k'))) o.stands ∙ promotes p.side o.kind m o.names;
      apart = o.apart;
      third = o.taken;
      fourth = o.taken;
      alone = λ ne. refl;
      others = λ s nf nt nx ny. o.others s nf nt nx;
    }

pub traced_castled : (p : Parts) (m : Move) → Valid p → Legal p m → MovesKingAndRook p m → IsTraced p m
traced_castled p m v l a =
    let c : Board = board_after p m in
    let w : Valid (after p m) = moves_stay_valid p m v l in
    record {
      side = p.side;
      arrived = King;
      lands = record {
        differ = λ e. none_piece (same_code None (piece_of p.side King) (sym (ap code a.target_empty) ∙ e ∙ ap code a.king_came));
        some = λ e. piece_some p.side King (sym (ap code a.king_came) ∙ e);
        king = λ e. let never : ⊥ = cc in absurd never;
      };
      code_to = a.king_came;
      only_king = λ s h.
          let k = king_piece (on c s) (h.king refl) in
          elim (own_or_other k.0 p.side) [
            | inl e ↦
                let mine : HasOneKing c p.side = w.kings p.side in
                mine.alone s (k.1 ∙ ap (λ (x : Side). piece_of x King) e) ∙ sym (mine.alone m.to a.king_came)
            | inr e ↦
                let theirs : on c s ≡ piece_of (other p.side) King = k.1 ∙ ap (λ (x : Side). piece_of x King) e in
                absurd (h.differ (ap code (theirs_stood p m s King v l theirs ∙ sym theirs)))
          ];
      only_piece = λ ne. absurd (ne refl);
      leaves = record {
        none = ap code a.king_left;
        king = λ e. ap code a.king;
        piece = λ e. absurd (both_ways _ e (king_code_is p.side));
      };
      only_left = λ s h. king_from p s m.from v a.king (h.king (king_code_is p.side));
      promotes = ap (λ o. promotion_between (code o) (code (piece_of p.side King))) a.king ∙ promotes_none p.side King (code (piece_of p.side King)) king_no_pawn ∙ sym a.promotion;
      apart = λ e. none_piece (sym a.target_empty ∙ ap (on p.board) (sym e) ∙ a.king);
      third = rook_home p.side a.wing;
      fourth = crossed p.side a.wing;
      alone = λ ne. absurd (ne refl);
      others = a.others;
    }

pub traced : (p : Parts) (m : Move) → Valid p → Legal p m → IsTraced p m
traced p m v l =
    elim (moves_move_pieces p m v l) [
      | inl o ↦ traced_one p m v o
      | inr c ↦ traced_castled p m v l c
    ]
