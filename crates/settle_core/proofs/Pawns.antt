-- How pawns go.
use Rattle.std.proofs.Common.{◌≡◌, ◌≢◌, ◌+◌, ◌/◌, ◌<◌, ℕ, inl, inr, Option, unwrap_or, refl, sym, ap, subst, ◌∙◌, arith}
use Rattle.chess_rules.specs.declared.pieces.Side.{Side}
use Rattle.chess_rules.specs.declared.pieces.Side.TheVariants.{White, Black}
use Rattle.chess_rules.specs.declared.pieces.Kind.{Kind}
use Rattle.chess_rules.specs.declared.pieces.Kind.TheVariants.{Pawn, Rook, Knight, Bishop, King, Queen}
use Rattle.chess_rules.specs.declared.chess_move.Move.{Move}
use Rattle.chess_rules.specs.declared.parts.Parts.{Parts}
use Rattle.chess_rules.specs.declared.lines.Direction.{Direction}
use Rattle.chess_rules.specs.declared.lines.Direction.TheVariants.{North, South, East, West, NorthEast, NorthWest, SouthEast, SouthWest}
use Rattle.chess_rules.specs.Board.{Board, on, piece_of, other, row, Ahead, forward}
use Rattle.chess_rules.specs.Attack.{AttacksFrom, IsPawnDiagonal}
use Rattle.chess_rules.specs.After.{after}
use Rattle.chess_rules.specs.Legal.{Goes, step, pawn_step, capture, double_step, en_passant, castling, Legal, NamesPromotion}
use Rattle.chess_rules.specs.Valid.{Valid, IsAtHome, target_row}
use Rattle.chess_rules.proofs.LawLemmas.{moves_move_pieces}
use Rattle.chess_rules.proofs.Shifts.{kind_of}
use Rattle.chess_rules.proofs.Replacing.{king_no_pawn}

-- from a row to one further on, and to the next one
abbrev pub Advances : Side → ℕ → ℕ → Type 0
Advances White a b = b < a
Advances Black a b = a < b

abbrev pub NextRow : Side → ℕ → ℕ → Type 0
NextRow White a b = b + 1 ≡ a
NextRow Black a b = a + 1 ≡ b

forward_advances : (side : Side) (n s t : ℕ) → 0 < n → Ahead (forward side) n s t → Advances side (row s) (row t)
forward_advances White n s t low h = omega arith
forward_advances Black n s t low h = omega arith

next_advances : (side : Side) (a b : ℕ) → NextRow side a b → Advances side a b
next_advances White a b h = omega arith
next_advances Black a b h = omega arith

attack_row : (side : Side) (d : Direction) (n s t : ℕ) → IsPawnDiagonal side d → n ≡ 1 → Ahead d n s t → NextRow side (row s) (row t)
attack_row White NorthEast n s t i e h = omega arith
attack_row White NorthWest n s t i e h = omega arith
attack_row Black SouthEast n s t i e h = omega arith
attack_row Black SouthWest n s t i e h = omega arith
attack_row White North n s t i e h = absurd i
attack_row White South n s t i e h = absurd i
attack_row White East n s t i e h = absurd i
attack_row White West n s t i e h = absurd i
attack_row White SouthEast n s t i e h = absurd i
attack_row White SouthWest n s t i e h = absurd i
attack_row Black North n s t i e h = absurd i
attack_row Black South n s t i e h = absurd i
attack_row Black East n s t i e h = absurd i
attack_row Black West n s t i e h = absurd i
attack_row Black NorthEast n s t i e h = absurd i
attack_row Black NorthWest n s t i e h = absurd i

pub pawn_attack_row : (b : Board) (side : Side) (s t : ℕ) → AttacksFrom b side Pawn s t → NextRow side (row s) (row t)
pawn_attack_row b side s t h = attack_row side h.direction h.distance s t h.ranges.1 h.ranges.0 h.lies

pawn_goes : (p : Parts) (m : Move) → Valid p → on p.board m.from ≡ piece_of p.side Pawn → Goes p m → Advances p.side (row m.from) (row m.to)
pawn_goes p m v h (step s) = absurd (s.no_pawn (ap kind_of (sym s.stands ∙ h)))
pawn_goes p m v h (pawn_step s) = forward_advances p.side 1 m.from m.to (omega arith) s.goes
pawn_goes p m v h (capture s) =
    let e : s.kind ≡ Pawn = ap kind_of (sym s.stands ∙ h) in
    let P : Kind → Type 0 = λ k. AttacksFrom p.board p.side k m.from m.to in
    next_advances p.side (row m.from) (row m.to) (pawn_attack_row p.board p.side m.from m.to (subst P e s.attacks))
pawn_goes p m v h (double_step s) = forward_advances p.side 2 m.from m.to (omega arith) s.goes
pawn_goes p m v h (en_passant s) = next_advances p.side (row m.from) (row m.to) (pawn_attack_row p.board p.side m.from m.to s.attacks)
pawn_goes p m v h (castling wing s) =
    let home : IsAtHome p.board p.side wing = v.rights p.side wing s.right in
    absurd (king_no_pawn (ap kind_of (sym home.king ∙ ap (on p.board) (sym s.from) ∙ h)))

-- a pawn goes to a row further on
pub pawn_advances : (p : Parts) (m : Move) → Valid p → Legal p m → on p.board m.from ≡ piece_of p.side Pawn → Advances p.side (row m.from) (row m.to)
pawn_advances p m v l h = pawn_goes p m v h l.goes

pawn_before : (side : Side) (k : Kind) (m : Move) → NamesPromotion side k m → unwrap_or m.promotion k ≡ Pawn → k ≡ Pawn
pawn_before side Pawn m h e = refl
pawn_before side Rook m h e = sym (ap (λ (o : Option Kind). unwrap_or o Rook) h) ∙ e
pawn_before side Knight m h e = sym (ap (λ (o : Option Kind). unwrap_or o Knight) h) ∙ e
pawn_before side Bishop m h e = sym (ap (λ (o : Option Kind). unwrap_or o Bishop) h) ∙ e
pawn_before side King m h e = sym (ap (λ (o : Option Kind). unwrap_or o King) h) ∙ e
pawn_before side Queen m h e = sym (ap (λ (o : Option Kind). unwrap_or o Queen) h) ∙ e

-- what arrives as a pawn was one
pub pawn_stood : (p : Parts) (m : Move) → Valid p → Legal p m → on (after p m).board m.to ≡ piece_of p.side Pawn → on p.board m.from ≡ piece_of p.side Pawn
pawn_stood p m v l h =
    elim (moves_move_pieces p m v l) [
      | inl o ↦ o.stands ∙ ap (piece_of p.side) (pawn_before p.side o.kind m o.names (ap kind_of (sym o.came ∙ h)))
      | inr c ↦ absurd (king_no_pawn (ap kind_of (sym c.king_came ∙ h)))
    ]

-- squares one and two rows apart
pub one_back : (side : Side) (s t u : ℕ) → Ahead (forward side) 1 s u → Ahead (forward side) 1 t u → s ≡ t
one_back White s t u h g = omega arith
one_back Black s t u h g = omega arith

pub passed : (side : Side) (s t u : ℕ) → Ahead (forward side) 2 s u → Ahead (forward side) 1 t u → Ahead (forward side) 1 s t
passed White s t u h g = (omega arith, omega arith)
passed Black s t u h g = (omega arith, omega arith)

pub no_half : (side : Side) (f t : ℕ) → (f + t) / 2 ≡ f → Ahead (forward side) 1 f t → ⊥
no_half White f t e h = omega arith
no_half Black f t e h = omega arith

pub no_target : (side : Side) (t u : ℕ) → row t ≡ target_row side → row u ≡ target_row (other side) → Ahead (forward (other side)) 1 t u → ⊥
no_target White t u a b h = omega arith
no_target Black t u a b h = omega arith

pub not_back : (side : Side) (t f u : ℕ) → Ahead (forward side) 1 t f → Advances side (row f) (row u) → u ≢ t
not_back White t f u h a e = omega arith
not_back Black t f u h a e = omega arith

pub not_beside : (side : Side) (t f u : ℕ) → Ahead (forward side) 1 t f → Advances side (row f) (row u) → Ahead (forward side) 1 t u → ⊥
not_beside White t f u h a g = omega arith
not_beside Black t f u h a g = omega arith

pub not_between : (side : Side) (a b c : ℕ) → NextRow side a c → Advances side a b → Advances side b c → ⊥
not_between White a b c h f g = omega arith
not_between Black a b c h f g = omega arith
