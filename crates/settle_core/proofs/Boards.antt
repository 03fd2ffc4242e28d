-- Pieces on a board, and what a legal move does with them.
use Rattle.std.proofs.Common.{◌≡◌, ◌≢◌, ℕ, inl, inr, None, sym, ap, ◌∙◌}
use Rattle.chess_rules.specs.declared.pieces.Side.{Side}
use Rattle.chess_rules.specs.declared.pieces.Kind.{Kind}
use Rattle.chess_rules.specs.declared.pieces.Kind.TheVariants.{Rook, King}
use Rattle.chess_rules.specs.declared.chess_move.Move.{Move}
use Rattle.chess_rules.specs.declared.parts.Parts.{Parts}
use Rattle.chess_rules.specs.Board.{Board, on, piece_of, other}
use Rattle.chess_rules.specs.After.{after}
use Rattle.chess_rules.specs.Laws.{MovesOnePiece, MovesKingAndRook}
use Rattle.chess_rules.proofs.Shifts.{kind_of, side_of}
use Rattle.chess_rules.proofs.Replacing.{none_piece, sides_differ}

pub king_no_rook : King ≢ Rook
king_no_rook e = cc

-- a piece and no piece, two sides, or two kinds stand on two squares
pub empty_differs : (b : Board) (s t : ℕ) (side : Side) (k : Kind) → on b s ≡ piece_of side k → on b t ≡ None → s ≢ t
empty_differs b s t side k h none e = none_piece (sym none ∙ ap (on b) (sym e) ∙ h)

pub side_differs : (b : Board) (s t : ℕ) (side : Side) (k j : Kind) → on b s ≡ piece_of (other side) k → on b t ≡ piece_of side j → s ≢ t
side_differs b s t side k j h mine e = sides_differ side (ap side_of (sym mine ∙ ap (on b) (sym e) ∙ h))

pub kind_differs : (b : Board) (s t : ℕ) (side : Side) (k j : Kind) → k ≢ j → on b s ≡ piece_of side k → on b t ≡ piece_of side j → s ≢ t
kind_differs b s t side k j ne h g e = ne (ap kind_of (sym h ∙ ap (on b) e ∙ g))

-- a piece of the mover that does not go stays
pub one_kept :
    (p : Parts) (m : Move) (o : MovesOnePiece p m) (s : ℕ) (k : Kind)
    → s ≢ m.from → on p.board s ≡ piece_of p.side k → on (after p m).board s ≡ piece_of p.side k
one_kept p m o s k nf h =
    let nt : s ≢ m.to = λ e. o.free k (ap (on p.board) (sym e) ∙ h) in
    let nx : s ≢ o.taken = λ e.
    elim o.passes [
      | inl from ↦ nf (e ∙ from)
      | inr pawn ↦ sides_differ p.side (ap side_of (sym h ∙ ap (on p.board) e ∙ pawn.1))
    ] in
    o.others s nf nt nx ∙ h

-- after a move of one piece, a piece of the other side stood where it stands
pub one_theirs :
    (p : Parts) (m : Move) (o : MovesOnePiece p m) (s : ℕ) (k : Kind)
    → on (after p m).board s ≡ piece_of (other p.side) k → on p.board s ≡ piece_of (other p.side) k
one_theirs p m o s k h =
    let nf : s ≢ m.from = empty_differs (after p m).board s m.from (other p.side) k h o.left in
    let nt : s ≢ m.to = side_differs (after p m).board s m.to p.side k _ h o.came in
    let nx : s ≢ o.taken = empty_differs (after p m).board s o.taken (other p.side) k h o.gone in
    sym (o.others s nf nt nx) ∙ h

pub castled_theirs :
    (p : Parts) (m : Move) (c : MovesKingAndRook p m) (s : ℕ) (k : Kind)
    → on (after p m).board s ≡ piece_of (other p.side) k → on p.board s ≡ piece_of (other p.side) k
castled_theirs p m c s k h =
    let b : Board = (after p m).board in
    sym (c.others s (empty_differs b s _ _ k h c.king_left) (side_differs b s _ p.side k _ h c.king_came) (empty_differs b s _ _ k h c.rook_left) (side_differs b s _ p.side k _ h c.rook_came)) ∙ h

-- castling takes no piece
pub castled_quiet :
    (p : Parts) (m : Move) (c : MovesKingAndRook p m) (s : ℕ) (k : Kind)
    → on p.board s ≡ piece_of (other p.side) k → on (after p m).board s ≡ piece_of (other p.side) k
castled_quiet p m c s k h =
    let b : Board = p.board in
    c.others s (side_differs b s _ p.side k _ h c.king) (empty_differs b s _ _ k h c.target_empty) (side_differs b s _ p.side k _ h c.rook) (empty_differs b s _ _ k h c.crossed_empty) ∙ h
