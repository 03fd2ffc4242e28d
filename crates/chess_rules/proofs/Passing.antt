-- Places that hold no legal move, as the pieces and the squares show.
use Rattle.std.proofs.Common.{◌≡◌, ◌≢◌, ℕ, ◌+◌, ◌<◌, ◌≤◌, None, ap, subst, ◌∙◌, sym, arith}
use Rattle.chess_rules.specs.declared.pieces.Kind.{Kind}
use Rattle.chess_rules.specs.declared.chess_move.Move.{Move}
use Rattle.chess_rules.specs.declared.parts.Parts.{Parts}
use Rattle.chess_rules.specs.Board.{on, piece_of, file, row}
use Rattle.chess_rules.specs.Attack.{gap}
use Rattle.chess_rules.specs.Legal.{Legal}
use Rattle.chess_rules.specs.Valid.{Valid}
use Rattle.chess_rules.specs.Moves.{promotion_place}
use Rattle.chess_rules.specs.Inside.Places.{place, first_place, HasNone}
use Rattle.chess_rules.specs.Inside.Reach.{MayReach, MayPromote}
use Rattle.chess_rules.proofs.Shifts.{Own}
use Rattle.chess_rules.proofs.Listing.{IsSmall, is_small}
use Rattle.chess_rules.proofs.Reaching.{mover, free_target, reaches, names}

-- no piece of the side stands on the square
pub none_from : (p : Parts) (f : ℕ) → Valid p → ((k : Kind) → on p.board f ≢ piece_of p.side k) → HasNone p (first_place f 0) (first_place (f + 1) 0)
none_from p f v none m l low high =
    let s : IsSmall m = is_small p m v.squares l in
    let e : m.from ≡ f = omega arith in
    let h : Own p.side p.board m.from = mover p m v l.goes in
    none h.kind (ap (on p.board) (sym e) ∙ h.stands)

-- the move goes between these squares
record AreSquares (m : Move) (f t : ℕ) : Type 0 where
  from : m.from ≡ f
  to : m.to ≡ t

squares : (p : Parts) (m : Move) (f t : ℕ) → Valid p → t < 64 → Legal p m → first_place f t ≤ place m → place m < first_place f t + 5 → AreSquares m f t
squares p m f t v t_low l low high =
    let s : IsSmall m = is_small p m v.squares l in
    record { from = omega arith; to = omega arith }

-- the piece can't go there
pub none_reach :
    (p : Parts) (f t : ℕ) (k : Kind)
    → Valid p
    → t < 64
    → on p.board f ≡ piece_of p.side k
    → ¬ MayReach k (gap (file f) (file t)) (gap (row f) (row t))
    → HasNone p (first_place f t) (first_place f t + 5)
none_reach p f t k v t_low st unless m l low high =
    let s : AreSquares m f t = squares p m f t v t_low l low high in
    let st' : on p.board m.from ≡ piece_of p.side k = ap (on p.board) s.from ∙ st in
    let A : ℕ → Type 0 = λ x. MayReach k (gap (file x) (file m.to)) (gap (row x) (row m.to)) in
    let B : ℕ → Type 0 = λ x. MayReach k (gap (file f) (file x)) (gap (row f) (row x)) in
    unless (subst B s.to (subst A s.from (reaches p m k v l.goes st')))

-- a piece of its own stands there
pub none_taken :
    (p : Parts) (f t : ℕ) (k : Kind) → Valid p → t < 64 → on p.board t ≡ piece_of p.side k → HasNone p (first_place f t) (first_place f t + 5)
none_taken p f t k v t_low st m l low high =
    let s : AreSquares m f t = squares p m f t v t_low l low high in
    free_target p m v l (record { kind = k; stands = ap (on p.board) s.to ∙ st })

-- the piece is not promoted there
pub none_promotion :
    (p : Parts) (f t : ℕ) (k : Kind)
    → Valid p
    → t < 64
    → on p.board f ≡ piece_of p.side k
    → ¬ MayPromote p.side k t
    → HasNone p (first_place f t + 1) (first_place f t + 5)
none_promotion p f t k v t_low st unless m l low high =
    let s : AreSquares m f t = squares p m f t v t_low l (omega arith) high in
    let st' : on p.board m.from ≡ piece_of p.side k = ap (on p.board) s.from ∙ st in
    let N : ℕ → Type 0 = λ x. ¬ MayPromote p.side k x in
    let none : m.promotion ≡ None = names p m k l.goes st' (subst N (sym s.to) unless) in
    let zero : promotion_place m.promotion ≡ 0 = ap promotion_place none in
    let from : m.from ≡ f = s.from in
    let to : m.to ≡ t = s.to in
    omega arith
