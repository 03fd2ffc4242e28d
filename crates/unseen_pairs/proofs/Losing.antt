-- Two plies take a piece of each side off its square.
use Rattle.std.proofs.Common.{◌≡◌, ◌≢◌, ℕ, ◌<◌, inl, inr, List, None, get_or, sym, ap, subst, ◌∙◌}
use Rattle.chess_rules.specs.declared.pieces.Side.{Side}
use Rattle.chess_rules.specs.declared.pieces.Kind.{Kind}
use Rattle.chess_rules.specs.declared.pieces.Kind.TheVariants.{King}
use Rattle.chess_rules.specs.declared.chess_move.Move.{Move}
use Rattle.chess_rules.specs.declared.parts.Parts.{Parts}
use Rattle.chess_rules.specs.Board.{on, piece_of, other}
use Rattle.chess_rules.specs.After.{after}
use Rattle.chess_rules.specs.Legal.{Legal}
use Rattle.chess_rules.specs.Valid.{Valid}
use Rattle.chess_rules.specs.Picture.{code, code_of_piece, picture}
use Rattle.chess_rules.proofs.LawLemmas.{moves_move_pieces, moves_stay_valid, pieces_tell_moves}
use Rattle.chess_rules.proofs.Shifts.{on_board, same_unless}
use Rattle.chess_rules.proofs.Replacing.{none_piece, other-other}
use Rattle.settle_core.proofs.Pieces.{at_picture, on_shown, code_no_zero, theirs_stood}
use Rattle.unseen_pairs.specs.Pairs.{IsAfterTwo}
use Rattle.settle_core.specs.Lost.{Bares, Loses, LosesAt, MayHideTwo}

-- the piece that a move takes off its square
pub record Goes (p : Parts) (m : Move) : Type 0 where
  pub kind : Kind
  pub stood : on p.board m.from ≡ piece_of p.side kind
  pub left : on (after p m).board m.from ≡ None
  pub low : m.from < 64

pub goes : (p : Parts) (m : Move) → Valid p → Legal p m → Goes p m
goes p m v l =
    elim (moves_move_pieces p m v l) [
      | inl o ↦ record { kind = o.kind; stood = o.stands; left = o.left; low = rw (← v.squares) (on_board p.board m.from p.side o.kind o.stands) }
      | inr c ↦ record { kind = King; stood = c.king; left = c.king_left; low = rw (← v.squares) (on_board p.board m.from p.side King c.king) }
    ]

-- what the picture after the move shows on its first square
pub empty_from : (p : Parts) (m : Move) (seen : List ℕ) → Valid p → Legal p m → seen ≡ picture (after p m) → get_or seen m.from 0 ≡ 0
empty_from p m seen v l e =
    let g : Goes p m = goes p m v l in
    let w : Valid (after p m) = moves_stay_valid p m v l in
    ap (λ xs. get_or xs m.from 0) e ∙ at_picture (after p m) m.from (rw w.squares g.low) ∙ ap code g.left

-- what that of the position shows there
pub shown_from : (p : Parts) (m : Move) (v : Valid p) (l : Legal p m) → get_or (picture p) m.from 0 ≡ code_of_piece p.side (goes p m v l).kind
shown_from p m v l =
    let g : Goes p m = goes p m v l in
    at_picture p m.from (rw v.squares g.low) ∙ ap code g.stood

pub one_leaves :
    (p : Parts) (m : Move) (before seen : List ℕ) → Valid p → Legal p m → before ≡ picture p → seen ≡ picture (after p m)
    → get_or before m.from 0 ≡ get_or seen m.from 0 → ⊥
one_leaves p m before seen v l b e same =
    let h : get_or before m.from 0 ≡ code_of_piece p.side (goes p m v l).kind = ap (λ xs. get_or xs m.from 0) b ∙ shown_from p m v l in
    code_no_zero p.side (goes p m v l).kind (sym h ∙ same ∙ empty_from p m seen v l e)

-- after both plies the piece of the first is not where it stood
pub first_leaves :
    (p : Parts) (m n : Move) (seen : List ℕ) (k : Kind) → Valid p → IsAfterTwo p seen m n
    → get_or seen m.from 0 ≡ code_of_piece p.side k → ⊥
first_leaves p m n seen k v two h =
    let l : Legal p m = two.first in
    let g : Goes p m = goes p m v l in
    let w : Valid (after p m) = moves_stay_valid p m v l in
    let u : Valid (after (after p m) n) = moves_stay_valid (after p m) n w two.second in
    let q : on (after (after p m) n).board m.from ≡ piece_of p.side k =
    on_shown (after (after p m) n) seen m.from p.side k (rw u.squares g.low) two.shows h in
    let S : Side → Type 0 = λ (s : Side). on (after (after p m) n).board m.from ≡ piece_of s k in
    let t : on (after p m).board m.from ≡ piece_of (other (other p.side)) k =
    theirs_stood (after p m) n m.from k w two.second (subst S (sym (other-other p.side)) q) in
    none_piece (sym g.left ∙ t)

pub first_stays_not :
    (p : Parts) (m n : Move) (before seen : List ℕ) → Valid p → before ≡ picture p → IsAfterTwo p seen m n
    → get_or before m.from 0 ≡ get_or seen m.from 0 → ⊥
first_stays_not p m n before seen v b two same =
    first_leaves p m n seen (goes p m v two.first).kind v two
    (sym same ∙ ap (λ xs. get_or xs m.from 0) b ∙ shown_from p m v two.first)

pub mover_loses_at : (p : Parts) (m n : Move) (seen : List ℕ) → Valid p → IsAfterTwo p seen m n → LosesAt p seen p.side m.from
mover_loses_at p m n seen v two =
    let g : Goes p m = goes p m v two.first in
    record { low = g.low; kind = g.kind; stands = g.stood; gone = first_leaves p m n seen g.kind v two }

pub mover_loses : (p : Parts) (m n : Move) (seen : List ℕ) → Valid p → IsAfterTwo p seen m n → Loses p seen p.side
mover_loses p m n seen v two = (m.from, mover_loses_at p m n seen v two)

-- and the second ply leaves its square bare
pub other_bares : (p : Parts) (m n : Move) (seen : List ℕ) → Valid p → IsAfterTwo p seen m n → Bares p seen (other p.side)
other_bares p m n seen v two =
    let w : Valid (after p m) = moves_stay_valid p m v two.first in
    let g : Goes (after p m) n = goes (after p m) n w two.second in
    let bare : get_or seen n.from 0 ≡ 0 = empty_from (after p m) n seen w two.second two.shows in (
      n.from,
      record {
        low = g.low;
        kind = g.kind;
        stands = theirs_stood p m n.from g.kind v two.first g.stood;
        gone = λ e. code_no_zero (other p.side) g.kind (sym e ∙ bare);
      },
      bare,
    )

pub other_loses : (p : Parts) (m n : Move) (seen : List ℕ) → Valid p → IsAfterTwo p seen m n → Loses p seen (other p.side)
other_loses p m n seen v two = let b = other_bares p m n seen v two in (b.0, b.1)

pub hides_two : (p : Parts) (m n : Move) (seen : List ℕ) → Valid p → IsAfterTwo p seen m n → MayHideTwo p seen
hides_two p m n seen v two = (mover_loses p m n seen v two, other_bares p m n seen v two)

-- Where another move than the last one and a reply explain the picture, a piece of the side of these moves is not where
-- the last one left it: the pieces of a side tell its move.
pub correcting_loses :
    (p : Parts) (last m n : Move) (seen : List ℕ)
    → Valid p → Legal p last → IsAfterTwo p seen m n → m ≢ last → ¬ ¬ Loses (after p last) seen p.side
correcting_loses p last m n seen v l two differ none =
    let w : Valid (after p last) = moves_stay_valid p last v l in
    let u : Valid (after p m) = moves_stay_valid p m v two.first in
    let t : Valid (after (after p m) n) = moves_stay_valid (after p m) n u two.second in
    let O : Side → Kind → ℕ → Type 0 = λ side kind s. on (after p m).board s ≡ piece_of side kind in
    differ (sym (pieces_tell_moves p last m v l two.first
    (λ s kind g.
    let low : s < 64 = rw (← w.squares) (on_board (after p last).board s p.side kind g) in
    let shown : get_or seen s 0 ≡ code_of_piece p.side kind =
    same_unless (get_or seen s 0) (code_of_piece p.side kind) (λ ne. none (s, record { low = low; kind = kind; stands = g; gone = ne })) in
    let q : on (after (after p m) n).board s ≡ piece_of p.side kind = on_shown (after (after p m) n) seen s p.side kind (rw t.squares low) two.shows shown in
    let S : Side → Type 0 = λ (side : Side). on (after (after p m) n).board s ≡ piece_of side kind in
    subst (λ (side : Side). O side kind s) (other-other p.side)
    (theirs_stood (after p m) n s kind u two.second (subst S (sym (other-other p.side)) q)))))
