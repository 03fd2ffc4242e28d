-- A move that is tried with one piece in hand is a move of this piece.
use Rattle.std.proofs.Common.{◌≡◌, ◌≢◌, ◌⊎◌, ◌<◌, ℕ, inl, inr, List, None, get_or, sym, ap, ◌∙◌}
use Rattle.std.proofs.lemmas.Bool.{cases_eq}
use Rattle.chess_rules.specs.declared.pieces.Kind.{Kind}
use Rattle.chess_rules.specs.declared.pieces.Kind.TheVariants.{King, Rook}
use Rattle.chess_rules.specs.declared.chess_move.Move.{Move}
use Rattle.chess_rules.specs.declared.parts.Parts.{Parts}
use Rattle.chess_rules.specs.declared.lines.Wing.{Wing}
use Rattle.chess_rules.specs.Board.{on, piece_of}
use Rattle.chess_rules.specs.After.{after, rook_home, crossed}
use Rattle.chess_rules.specs.Legal.{Legal, Castles}
use Rattle.chess_rules.specs.Valid.{Valid}
use Rattle.chess_rules.specs.Picture.{code, picture}
use Rattle.chess_rules.specs.Laws.{MovesOnePiece, MovesKingAndRook}
use Rattle.chess_rules.proofs.LawLemmas.{moves_move_pieces, castling_moves}
use Rattle.chess_rules.proofs.Shifts.{kind_of, on_board}
use Rattle.chess_rules.proofs.Replacing.{none_piece}
use Rattle.settle_core.specs.HonestPlay.{LiftsAnother, ShowsMoved, AreKingAndRook, HoldsOne}
use Rattle.settle_core.proofs.Boards.{king_no_rook, one_kept}
use Rattle.settle_core.proofs.Pieces.{at_picture, shown_on, squares_after}

-- of the piece in hand, or the rook's move of castling
abbrev IsOfHand : Parts → Move → Move → Type 0
IsOfHand p m x = (x.from ≡ m.from) ⊎ ((wing : Wing) × Castles p m wing × (x.from ≡ rook_home p.side wing))

-- a square that the tried move empties
empties : (p : Parts) (x : Move) (seen : List ℕ) (s : ℕ) → Valid p → Legal p x → seen ≡ picture (after p x) → s < 64
    → on (after p x).board s ≡ None → get_or seen s 0 ≡ 0
empties p x seen s v l e low h = ap (λ xs. get_or xs s 0) e ∙ at_picture (after p x) s (rw (squares_after p x v l) low) ∙ ap code h

-- a piece that came where none of the mover stood
came_moved : (p : Parts) (m x : Move) (seen : List ℕ) (s : ℕ) (k : Kind) → Valid p → Legal p x → seen ≡ picture (after p x)
    → on (after p x).board s ≡ piece_of p.side k → ((own : Kind) → on p.board s ≢ piece_of p.side own) → ShowsMoved p m seen s k
came_moved p m x seen s k v l e h free =
    record {
      low = rw (← squares_after p x v l) (on_board (after p x).board s p.side k h);
      shows = shown_on (after p x) seen s p.side k e h;
      moved = λ own q. absurd (free own q);
    }

-- a piece that the move to be made takes away, and that still stands
left_moved : (p : Parts) (m x : Move) (seen : List ℕ) (s : ℕ) (k : Kind) → Valid p → Legal p x → seen ≡ picture (after p x)
    → on p.board s ≡ piece_of p.side k → on (after p m).board s ≡ None → on (after p x).board s ≡ piece_of p.side k → ShowsMoved p m seen s k
left_moved p m x seen s k v l e h left stays =
    record {
      low = rw (← squares_after p x v l) (on_board (after p x).board s p.side k stays);
      shows = shown_on (after p x) seen s p.side k e stays;
      moved = λ own q same. none_piece (sym left ∙ sym same ∙ h);
    }

-- a piece of the mover stays where castling does not take it away
castled_kept : (p : Parts) (m : Move) (c : MovesKingAndRook p m) (s : ℕ) (k : Kind)
    → s ≢ m.from → s ≢ rook_home p.side c.wing → on p.board s ≡ piece_of p.side k → on (after p m).board s ≡ on p.board s
castled_kept p m c s k nf nr h =
    c.others s nf (λ e. none_piece (sym c.target_empty ∙ ap (on p.board) (sym e) ∙ h)) nr (λ e. none_piece (sym c.crossed_empty ∙ ap (on p.board) (sym e) ∙ h))

-- of a king on one square, and a piece on another, the piece is a rook; and of a rook a king
with_king : (k : Kind) → AreKingAndRook King k → k ≡ Rook
with_king k (inl a) = a.1
with_king k (inr a) = absurd (king_no_rook a.0)

with_rook : (k : Kind) → AreKingAndRook Rook k → k ≡ King
with_rook k (inl a) = absurd (king_no_rook (sym a.0))
with_rook k (inr a) = a.1

-- where the move to be made castles, and the tried one is of one piece
try_castling_one :
    (p : Parts) (m x : Move) (seen : List ℕ) (c : MovesKingAndRook p m) (o : MovesOnePiece p x)
    → Valid p → Legal p x → HoldsOne p m seen → seen ≡ picture (after p x) → IsOfHand p m x
try_castling_one p m x seen c o v l one e =
    elim (cases_eq x.from m.from) [
      | inl same ↦ inl same
      | inr nf ↦
          elim (cases_eq x.from (rook_home p.side c.wing)) [
            | inl same ↦ inr (c.wing, c.castles, same)
            | inr nr ↦
                let low : x.from < 64 = rw (← v.squares) (on_board p.board x.from p.side o.kind o.stands) in
                let lifts : LiftsAnother p m seen =
                record {
                  square = x.from;
                  kind = o.kind;
                  stands = o.stands;
                  stays = λ ne. ne (sym (castled_kept p m c x.from o.kind nf nr o.stands));
                  lifted = empties p x seen x.from v l e low o.left;
                } in
                let king : ShowsMoved p m seen m.from King =
                left_moved p m x seen m.from King v l e c.king c.king_left (one_kept p x o m.from King (λ q. nf (sym q)) c.king) in
                let rook : ShowsMoved p m seen (rook_home p.side c.wing) Rook =
                left_moved p m x seen (rook_home p.side c.wing) Rook v l e c.rook c.rook_left (one_kept p x o (rook_home p.side c.wing) Rook (λ q. nr (sym q)) c.rook) in
                let came : ShowsMoved p m seen x.to _ = came_moved p m x seen x.to _ v l e o.came o.free in
                elim (one lifts m.from x.to King _ king came) [
                  | inl same ↦ absurd (o.free King (ap (on p.board) (sym same) ∙ c.king))
                  | inr a ↦
                      elim (one lifts (rook_home p.side c.wing) x.to Rook _ rook came) [
                        | inl same ↦ absurd (o.free Rook (ap (on p.board) (sym same) ∙ c.rook))
                        | inr b ↦ absurd (king_no_rook (sym (with_rook _ b.2) ∙ with_king _ a.2))
                      ]
                ]
          ]
    ]

-- where the move to be made castles
try_castling :
    (p : Parts) (m x : Move) (seen : List ℕ) (c : MovesKingAndRook p m)
    → Valid p → Legal p x → HoldsOne p m seen → seen ≡ picture (after p x) → IsOfHand p m x
try_castling p m x seen c v l one e =
    elim (moves_move_pieces p x v l) [
      | inl o ↦ try_castling_one p m x seen c o v l one e
      | inr d ↦ inl (d.castles.from ∙ sym c.castles.from)
    ]

-- where it is of one piece
try_one :
    (p : Parts) (m x : Move) (seen : List ℕ) (o : MovesOnePiece p m)
    → Valid p → Legal p x → HoldsOne p m seen → seen ≡ picture (after p x) → IsOfHand p m x
try_one p m x seen o v l one e =
    elim (cases_eq x.from m.from) [
      | inl same ↦ inl same
      | inr nf ↦
          elim (moves_move_pieces p x v l) [
            | inl q ↦
                let low : x.from < 64 = rw (← v.squares) (on_board p.board x.from p.side q.kind q.stands) in
                let lifts : LiftsAnother p m seen =
                record {
                  square = x.from;
                  kind = q.kind;
                  stands = q.stands;
                  stays = λ ne. ne (q.stands ∙ sym (one_kept p m o x.from q.kind nf q.stands));
                  lifted = empties p x seen x.from v l e low q.left;
                } in
                let still : ShowsMoved p m seen m.from o.kind =
                left_moved p m x seen m.from o.kind v l e o.stands o.left (one_kept p x q m.from o.kind (λ r. nf (sym r)) o.stands) in
                let came : ShowsMoved p m seen x.to _ = came_moved p m x seen x.to _ v l e q.came q.free in
                elim (one lifts m.from x.to o.kind _ still came) [
                  | inl same ↦ absurd (q.free o.kind (ap (on p.board) (sym same) ∙ o.stands))
                  | inr a ↦ try_castling p m x seen (castling_moves p m a.0 v a.1) v l one e
                ]
            | inr d ↦
                let low : x.from < 64 = rw (← v.squares) (on_board p.board x.from p.side King d.king) in
                let lifts : LiftsAnother p m seen =
                record {
                  square = x.from;
                  kind = King;
                  stands = d.king;
                  stays = λ ne. ne (d.king ∙ sym (one_kept p m o x.from King nf d.king));
                  lifted = empties p x seen x.from v l e low d.king_left;
                } in
                let king : ShowsMoved p m seen x.to King =
                came_moved p m x seen x.to King v l e d.king_came (λ own r. none_piece (sym d.target_empty ∙ r)) in
                let rook : ShowsMoved p m seen (crossed p.side d.wing) Rook =
                came_moved p m x seen (crossed p.side d.wing) Rook v l e d.rook_came (λ own r. none_piece (sym d.crossed_empty ∙ r)) in
                elim (one lifts x.to (crossed p.side d.wing) King Rook king rook) [
                  | inl same ↦ absurd (king_no_rook (ap kind_of (sym d.king_came ∙ ap (on (after p x).board) same ∙ d.rook_came)))
                  | inr a ↦ try_castling p m x seen (castling_moves p m a.0 v a.1) v l one e
                ]
          ]
    ]

pub one_hand_tries :
    (p : Parts) (m x : Move) (seen : List ℕ)
    → Valid p → Legal p m → Legal p x → HoldsOne p m seen → seen ≡ picture (after p x) → IsOfHand p m x
one_hand_tries p m x seen v lm l one e =
    elim (moves_move_pieces p m v lm) [ inl o ↦ try_one p m x seen o v l one e | inr c ↦ try_castling p m x seen c v l one e ]
