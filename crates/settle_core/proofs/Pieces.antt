-- What pictures on the way to a move show of the pieces.
use Rattle.std.proofs.Common.{◌≡◌, ◌≢◌, ℕ, ◌<◌, ◌⊎◌, inl, inr, List, None, Option, IsSome, get_or, length, refl, sym, ap, subst, ◌∙◌, arith}
use Rattle.std.proofs.lemmas.Bool.{cases_eq}
use Rattle.std.proofs.lemmas.List.{get_or-map}
use Rattle.chess_rules.specs.declared.pieces.Side.{Side}
use Rattle.chess_rules.specs.declared.pieces.Side.TheVariants.{White, Black}
use Rattle.chess_rules.specs.declared.pieces.Kind.{Kind}
use Rattle.chess_rules.specs.declared.pieces.Kind.TheVariants.{Pawn, Rook, Knight, Bishop, King, Queen}
use Rattle.chess_rules.specs.declared.pieces.Piece.{Piece}
use Rattle.chess_rules.specs.declared.chess_move.Move.{Move}
use Rattle.chess_rules.specs.declared.parts.Parts.{Parts}
use Rattle.chess_rules.specs.Board.{Board, on, piece_of, other, row, last_row}
use Rattle.chess_rules.specs.After.{after, board_after}
use Rattle.chess_rules.specs.Legal.{Legal, NamesPromotion, Captures, TakesEnPassant}
use Rattle.chess_rules.specs.Valid.{Valid}
use Rattle.chess_rules.specs.Picture.{code, code_of_piece, picture}
use Rattle.chess_rules.specs.Laws.{MovesOnePiece}
use Rattle.chess_rules.proofs.LawLemmas.{codes_tell_pieces, pieces_tell_moves, moves_move_pieces, moves_stay_valid, pictures_tell_moves}
use Rattle.chess_rules.proofs.Shifts.{Own, kind_of, on_board, same_unless, side_of}
use Rattle.chess_rules.proofs.Replacing.{none_piece, other-other, sides_differ}
use Rattle.settle_core.proofs.Boards.{one_kept, one_theirs, castled_theirs, castled_quiet}
use Rattle.settle_core.specs.Settling.{Settles}
use Rattle.settle_core.specs.HonestPlay.{IsCapture, IsPartial, IsUnderWay}

-- a piece of the side to move, and one of the other side
abbrev pub Mine : Parts → Board → ℕ → Kind → Type 0
Mine p b s k = on b s ≡ piece_of p.side k

abbrev pub Theirs : Parts → Board → ℕ → Kind → Type 0
Theirs p b s k = on b s ≡ piece_of (other p.side) k

-- equal codes are those of equal pieces
pub same_code : (a b : Option Piece) → code a ≡ code b → a ≡ b
same_code a b e = codes_tell_pieces a b e

-- a square of a picture
pub at_picture : (p : Parts) (s : ℕ) → s < length p.board → get_or (picture p) s 0 ≡ code (on p.board s)
at_picture p s low = get_or-map code p.board s None 0 low

-- a piece that a picture of a position shows stands there
pub on_shown : (p : Parts) (seen : List ℕ) (s : ℕ) (side : Side) (k : Kind) → s < length p.board → seen ≡ picture p
    → get_or seen s 0 ≡ code_of_piece side k → on p.board s ≡ piece_of side k
on_shown p seen s side k low e h =
    same_code (on p.board s) (piece_of side k) (sym (at_picture p s low) ∙ ap (λ xs. get_or xs s 0) (sym e) ∙ h)

-- and a picture shows each piece
pub shown_on : (p : Parts) (seen : List ℕ) (s : ℕ) (side : Side) (k : Kind) → seen ≡ picture p
    → on p.board s ≡ piece_of side k → get_or seen s 0 ≡ code_of_piece side k
shown_on p seen s side k e h =
    ap (λ xs. get_or xs s 0) e ∙ at_picture p s (on_board p.board s side k h) ∙ ap code h

pub code_no_zero : (side : Side) (k : Kind) → code_of_piece side k ≡ 0 → ⊥
code_no_zero side k e = none_piece (same_code None (piece_of side k) (sym e))

-- positions of one picture have the same pieces
pub keeps_pieces : (p q : Parts) (s : ℕ) (side : Side) (k : Kind) → length p.board ≡ 64 → length q.board ≡ 64
    → picture p ≡ picture q → on p.board s ≡ piece_of side k → on q.board s ≡ piece_of side k
keeps_pieces p q s side k np nq e h =
    on_shown q (picture p) s side k (rw nq (rw (← np) (on_board p.board s side k h))) e (shown_on p (picture p) s side k refl h)

-- a piece that a picture under way shows stands where it stood or where it goes, or is the pawn at its promotion
pub record IsAtPromotion (p : Parts) (m : Move) (s : ℕ) (side : Side) (k : Kind) : Type 0 where
  pub promotes : IsSome m.promotion
  pub square : s ≡ m.to
  pub mover : side ≡ p.side
  pub pawn : k ≡ Pawn

pub shown_piece :
    (p : Parts) (m : Move) (seen : List ℕ) (s : ℕ) (side : Side) (k : Kind)
    → IsPartial p m seen
    → s < 64
    → get_or seen s 0 ≡ code_of_piece side k
    → (on p.board s ≡ piece_of side k) ⊎ ((on (board_after p m) s ≡ piece_of side k) ⊎ IsAtPromotion p m s side k)
shown_piece p m seen s side k h low e =
    elim (cases_eq (code (on p.board s)) (code (on (board_after p m) s))) [
      | inl same ↦
          let stays : on p.board s ≡ on (board_after p m) s = same_code _ _ same in
          inl (same_code _ _ (sym (h.unchanged s low (λ ne. ne stays)) ∙ e))
      | inr differ ↦
          elim (h.changed s low (λ q. differ (ap code q))) [
            | inl before ↦ inl (same_code _ _ (sym before ∙ e))
            | inr more ↦
                elim more [
                  | inl after ↦ inr (inl (same_code _ _ (sym after ∙ e)))
                  | inr rest ↦
                      elim rest [
                        | inl none ↦ absurd (code_no_zero side k (sym e ∙ none))
                        | inr pawn ↦
                            let q : piece_of p.side Pawn ≡ piece_of side k = same_code _ _ (sym pawn.2 ∙ e) in
                            inr (inr (record { promotes = pawn.0; square = pawn.1; mover = ap side_of (sym q); pawn = ap kind_of (sym q) }))
                      ]
                ]
          ]
    ]

-- a square that the move leaves as it is
pub shown_still :
    (p : Parts) (m : Move) (seen : List ℕ) (s : ℕ) (side : Side) (k : Kind)
    → IsPartial p m seen
    → s < 64
    → on p.board s ≡ piece_of side k
    → on (board_after p m) s ≡ piece_of side k
    → get_or seen s 0 ≡ code_of_piece side k
shown_still p m seen s side k h low a b = h.unchanged s low (λ ne. ne (a ∙ sym b)) ∙ ap code a

-- after a legal move, no piece of the other side stands where none stood
pub theirs_stood :
    (p : Parts) (m : Move) (s : ℕ) (k : Kind) → Valid p → Legal p m → Theirs p (board_after p m) s k → Theirs p p.board s k
theirs_stood p m s k v l h =
    elim (moves_move_pieces p m v l) [
      | inl o ↦ one_theirs p m o s k h
      | inr c ↦ castled_theirs p m c s k h
    ]

-- The picture shows no piece of the other side where none stands.
abbrev pub ShowsNoNew : Parts → List ℕ → Type 0
ShowsNoNew p seen = (s : ℕ) (k : Kind) → s < 64 → get_or seen s 0 ≡ code_of_piece (other p.side) k → Theirs p p.board s k

-- The move takes no piece.
abbrev pub IsQuiet : Parts → Move → Type 0
IsQuiet p m = (s : ℕ) (k : Kind) → Theirs p p.board s k → Theirs p (board_after p m) s k

pub squares_after : (p : Parts) (m : Move) → Valid p → Legal p m → length (board_after p m) ≡ 64
squares_after p m v l = let w : Valid (after p m) = moves_stay_valid p m v l in w.squares

pub no_new_after : (p : Parts) (m : Move) (seen : List ℕ) → Valid p → Legal p m → seen ≡ picture (after p m) → ShowsNoNew p seen
no_new_after p m seen v l e s k low h =
    theirs_stood p m s k v l (on_shown (after p m) seen s (other p.side) k (rw (squares_after p m v l) low) e h)

pub no_new_partial : (p : Parts) (m : Move) (seen : List ℕ) → Valid p → Legal p m → IsPartial p m seen → ShowsNoNew p seen
no_new_partial p m seen v l q s k low h =
    elim (shown_piece p m seen s (other p.side) k q low h) [
      | inl stood ↦ stood
      | inr more ↦
          elim more [
            | inl stands ↦ theirs_stood p m s k v l stands
            | inr pawn ↦ absurd (sides_differ p.side (sym pawn.mover))
          ]
    ]

pub no_new_under_way : (p : Parts) (m : Move) (seen : List ℕ) → Valid p → Legal p m → IsUnderWay p m seen → ShowsNoNew p seen
no_new_under_way p m seen v l w =
    elim w.way [
      | inl q ↦ no_new_partial p m seen v l q
      | inr t ↦ no_new_after p t.tried seen v t.legal t.shows
    ]

-- a reply puts a piece of its side where none of that side stood
pub record Arrives (p : Parts) (m : Move) : Type 0 where
  pub square : ℕ
  pub kind : Kind
  pub came : on (board_after p m) square ≡ piece_of p.side kind
  pub free : ¬ Own p.side p.board square
  pub left_square : ℕ
  pub was : Own p.side p.board left_square
  pub left : ¬ Own p.side (board_after p m) left_square

pub arrives : (p : Parts) (m : Move) → Valid p → Legal p m → Arrives p m
arrives p m v l =
    elim (moves_move_pieces p m v l) [
      | inl o ↦ record {
        square = m.to;
        kind = _;
        came = o.came;
        free = λ own. o.free own.kind own.stands;
        left_square = m.from;
        was = record { kind = o.kind; stands = o.stands };
        left = λ own. none_piece (sym o.left ∙ own.stands);
      }
      | inr c ↦ record {
        square = m.to;
        kind = King;
        came = c.king_came;
        free = λ own. none_piece (sym c.target_empty ∙ own.stands);
        left_square = m.from;
        was = record { kind = King; stands = c.king };
        left = λ own. none_piece (sym c.king_left ∙ own.stands);
      }
    ]

-- no picture of a position is that of the position after a move of it
pub picture_moves : (p : Parts) (m : Move) → Valid p → Legal p m → picture (after p m) ≢ picture p
picture_moves p m v l e =
    let a : Arrives p m = arrives p m v l in
    a.free (record { kind = a.kind; stands = keeps_pieces (after p m) p a.square p.side a.kind (squares_after p m v l) v.squares e a.came })

-- after a quiet move, a picture that shows no new piece of the other side settles no reply
pub no_reply :
    (p : Parts) (n k : Move) (seen : List ℕ)
    → Valid p
    → Legal p n
    → IsQuiet p n
    → ShowsNoNew p seen
    → ¬ Settles (after p n) seen k
no_reply p n k seen v l quiet new h =
    let w : Valid (after p n) = moves_stay_valid p n v l in
    let a : Arrives (after p n) k = arrives (after p n) k w h.legal in
    let w' : Valid (after (after p n) k) = moves_stay_valid (after p n) k w h.legal in
    let low : a.square < 64 = rw (← w'.squares) (on_board _ a.square _ a.kind a.came) in
    let stood : Theirs p p.board a.square a.kind =
    new a.square a.kind low (shown_on (after (after p n) k) seen a.square (other p.side) a.kind h.shows a.came) in
    a.free (record { kind = a.kind; stands = quiet a.square a.kind stood })

-- a picture that shows no new piece of the other side settles no other move in the place of the other side's last one
pub no_earlier :
    (p : Parts) (last k : Move) (seen : List ℕ)
    → Valid p
    → Legal p last
    → ShowsNoNew (after p last) seen
    → Settles p seen k
    → k ≡ last
no_earlier p last k seen v l new h =
    let w : Valid (after p k) = moves_stay_valid p k v h.legal in
    pieces_tell_moves p k last v h.legal l
    (λ s kind g.
    let low : s < 64 = rw (← w.squares) (on_board (board_after p k) s p.side kind g) in
    let shown : get_or seen s 0 ≡ code_of_piece p.side kind = shown_on (after p k) seen s p.side kind h.shows g in
    let back : code_of_piece p.side kind ≡ code_of_piece (other (other p.side)) kind = ap (λ (x : Side). code_of_piece x kind) (sym (other-other p.side)) in
    new s kind low (shown ∙ back) ∙ ap (λ (x : Side). piece_of x kind) (other-other p.side))

-- a move of one piece that neither captures nor takes en passant takes no piece
pub quiet_one : (p : Parts) (m : Move) (o : MovesOnePiece p m) → ¬ Captures p m → ¬ TakesEnPassant p m → IsQuiet p m
quiet_one p m o nc ne s k h =
    let nf : s ≢ m.from = λ e. sides_differ p.side (ap side_of (sym o.stands ∙ ap (on p.board) (sym e) ∙ h)) in
    let nt : s ≢ m.to = λ e. nc (o.captures k (ap (on p.board) (sym e) ∙ h)) in
    let nx : s ≢ o.taken = λ e. elim o.passes [ inl from ↦ nf (e ∙ from) | inr passes ↦ ne passes.0 ] in
    o.others s nf nt nx ∙ h

pub quiet_move : (p : Parts) (m : Move) → Valid p → Legal p m → ¬ Captures p m → ¬ TakesEnPassant p m → IsQuiet p m
quiet_move p m v l nc ne =
    elim (moves_move_pieces p m v l) [
      | inl o ↦ quiet_one p m o nc ne
      | inr c ↦ castled_quiet p m c
    ]

pub no_some : IsSome {T = Kind} None → ⊥
no_some h = cc

-- only a move to the last row names a promotion
pub no_promotion :
    (side : Side) (k : Kind) (m : Move) → NamesPromotion side k m → IsSome m.promotion → row m.to ≡ last_row side
no_promotion side Pawn m h some = same_unless (row m.to) (last_row side) (λ ne. let P : Option Kind → Type 0 = λ o. IsSome o in no_some (subst P (h.before ne) some))
no_promotion side Rook m h some = let P : Option Kind → Type 0 = λ o. IsSome o in absurd (no_some (subst P h some))
no_promotion side Knight m h some = let P : Option Kind → Type 0 = λ o. IsSome o in absurd (no_some (subst P h some))
no_promotion side Bishop m h some = let P : Option Kind → Type 0 = λ o. IsSome o in absurd (no_some (subst P h some))
no_promotion side King m h some = let P : Option Kind → Type 0 = λ o. IsSome o in absurd (no_some (subst P h some))
no_promotion side Queen m h some = let P : Option Kind → Type 0 = λ o. IsSome o in absurd (no_some (subst P h some))

-- no pawn stands on a last row
pub last_is_edge : (side : Side) (r : ℕ) → r ≡ last_row side → (0 < r) × (r < 7) → ⊥
last_is_edge White r e h = omega arith
last_is_edge Black r e h = omega arith

-- a picture on the way of a move of one piece that settles a move settles this one
pub settled_plain :
    (p : Parts) (m k : Move) (seen : List ℕ) → Valid p → Legal p m → MovesOnePiece p m → IsPartial p m seen → Settles p seen k → k ≡ m
settled_plain p m k seen v l one q h =
    let w : Valid (after p k) = moves_stay_valid p k v h.legal in
    let a : Arrives p k = arrives p k v h.legal in
    let f : a.left_square ≡ m.from =
    same_unless a.left_square m.from
    (λ ne.
    let low : a.left_square < 64 = rw (← v.squares) (on_board p.board a.left_square p.side a.was.kind a.was.stands) in
    let low' : a.left_square < length (board_after p k) = rw w.squares low in
    let stays : on (board_after p m) a.left_square ≡ piece_of p.side a.was.kind = one_kept p m one a.left_square a.was.kind ne a.was.stands in
    let shown : get_or seen a.left_square 0 ≡ code_of_piece p.side a.was.kind = shown_still p m seen a.left_square p.side a.was.kind q low a.was.stands stays in
    a.left (record { kind = a.was.kind; stands = on_shown (after p k) seen a.left_square p.side a.was.kind low' h.shows shown })) in
    pieces_tell_moves p k m v h.legal l
    (λ s kind g.
    let low : s < 64 = rw (← w.squares) (on_board (board_after p k) s p.side kind g) in
    let shown : get_or seen s 0 ≡ code_of_piece p.side kind = shown_on (after p k) seen s p.side kind h.shows g in
    elim (shown_piece p m seen s p.side kind q low shown) [
      | inl stood ↦
          one_kept p m one s kind (λ e. a.left (record { kind = kind; stands = ap (on (board_after p k)) (f ∙ sym e) ∙ g })) stood
      | inr more ↦
          elim more [
            | inl stands ↦ stands
            | inr pawn ↦
                let rows : (0 < row s) × (row s < 7) = w.pawns s p.side (g ∙ ap (piece_of p.side) pawn.pawn) in
                absurd (last_is_edge p.side (row s) (ap row pawn.square ∙ no_promotion p.side one.kind m one.names pawn.promotes) rows)
          ]
    ])

-- pieces on a square are equal or not
pub piece_or_not : (a b : Option Piece) → (a ≡ b) ⊎ (a ≢ b)
piece_or_not a b = elim (cases_eq (code a) (code b)) [ inl e ↦ inl (same_code a b e) | inr ne ↦ inr (λ e. ne (ap code e)) ]

-- a move that takes no piece leaves the other side's pieces
pub quiet_unless : (p : Parts) (m : Move) → ¬ IsCapture p m → IsQuiet p m
quiet_unless p m none s k h =
    elim (piece_or_not (on (board_after p m) s) (piece_of (other p.side) k)) [
      | inl stays ↦ stays
      | inr gone ↦ absurd (none (record { square = s; kind = k; stood = h; gone = gone }))
    ]

pub takes_unless : (p : Parts) (m : Move) → IsQuiet p m → ¬ IsCapture p m
takes_unless p m quiet t = t.gone (quiet t.square t.kind t.stood)

-- a picture on the way that is that after another move takes no piece
pub quiet_under_way :
    (p : Parts) (m k : Move) (seen : List ℕ) → Valid p → Legal p m → IsUnderWay p m seen → Settles p seen k → IsQuiet p k
quiet_under_way p m k seen v l way h =
    let another : k ≢ m = λ e. way.not_yet (h.shows ∙ ap (λ (x : Move). picture (after p x)) e) in
    elim way.way [
      | inl q ↦
          elim (moves_move_pieces p m v l) [
            | inl one ↦ absurd (another (settled_plain p m k seen v l one q h))
            | inr c ↦
                let w : Valid (after p k) = moves_stay_valid p k v h.legal in
                λ s kind g.
                let low : s < 64 = rw (← v.squares) (on_board p.board s (other p.side) kind g) in
                let still : on (board_after p m) s ≡ piece_of (other p.side) kind = castled_quiet p m c s kind g in
                on_shown (after p k) seen s (other p.side) kind (rw w.squares low) h.shows
                (shown_still p m seen s (other p.side) kind q low g still)
          ]
      | inr t ↦
          let same : t.tried ≡ k = h.alone t.tried t.legal t.shows in
          let P : Move → Type 0 = λ x. IsQuiet p x in
          subst P same (quiet_move p t.tried v t.legal t.no_capture t.no_en_passant)
    ]

-- the picture after m settles m
pub settles_end :
    (p : Parts) (m : Move) (seen : List ℕ) → Valid p → Legal p m → seen ≡ picture (after p m) → Settles p seen m
settles_end p m seen v l e =
    record { legal = l; shows = e; alone = λ n ln en. pictures_tell_moves p n m v ln l (sym en ∙ e) }
