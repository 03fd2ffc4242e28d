-- The first ply of a pair goes to a square where a piece landed.
use Rattle.std.proofs.Common.{◌≡◌, ◌≢◌, ℕ, ◌+◌, ◌/◌, ◌<◌, ◌≤◌, ◌⊎◌, inl, inr, List, [], Option, None, Some, unwrap_or, true, false, get_or, refl, sym, ap, subst, arith, ◌∙◌}
use Rattle.std.specs.Int.{bit_at}
use Rattle.std.proofs.lemmas.List.{get_or-replicate}
use Rattle.std.proofs.lemmas.Bool.{both_ways, cases_Bool, cases_eq, cond-false, cond-true}
use Rattle.chess_rules.specs.declared.pieces.Side.{Side}
use Rattle.chess_rules.specs.declared.pieces.Side.TheVariants.{White, Black}
use Rattle.chess_rules.specs.declared.pieces.Kind.{Kind}
use Rattle.chess_rules.specs.declared.pieces.Kind.TheVariants.{Pawn, Rook, Knight, Bishop, King, Queen}
use Rattle.chess_rules.specs.declared.pieces.Piece.{Piece}
use Rattle.chess_rules.specs.declared.chess_move.Move.{Move}
use Rattle.chess_rules.specs.declared.parts.Parts.{Parts}
use Rattle.chess_rules.specs.Board.{Ahead, forward, last_row, on, other, piece_of, row, second_row}
use Rattle.chess_rules.specs.After.{after, is_double_step}
use Rattle.chess_rules.specs.Attack.{AttacksFrom}
use Rattle.chess_rules.specs.Laws.{MovesOnePiece}
use Rattle.chess_rules.specs.Legal.{Goes as Moving, step, pawn_step, capture, double_step, en_passant, castling, DoubleSteps, IsOfficer, Legal, NamesPromotion, TakesEnPassant}
use Rattle.chess_rules.specs.Valid.{IsAtHome, Valid}
use Rattle.chess_rules.specs.Picture.{code, code_of_piece, picture}
use Rattle.chess_rules.proofs.LawLemmas.{moves_move_pieces, moves_stay_valid}
use Rattle.chess_rules.proofs.Staying.{passed, ways_after}
use Rattle.chess_rules.proofs.Shifts.{kind_of, on_board, side_of}
use Rattle.chess_rules.proofs.Replacing.{king_no_pawn, none_piece, other-other, sides_differ}
use Rattle.chess_rules.proofs.Moving.{double_row}
use Rattle.settle_core.specs.Candidate.{is_owned_code, lands}
use Rattle.settle_core.specs.Masks.{IsDiff, IsLanded, IsShown}
use Rattle.settle_core.specs.Lost.{LosesAt}
use Rattle.unseen_pairs.specs.Inside.Beginning.{AddsMoves, Begins, EndsAmong, IsBetween, IsPlainPawn, LandsAt, ListsFirst, TheirsLand}
use Rattle.settle_core.proofs.Pawns.{NextRow, pawn_attack_row, pawn_stood}
use Rattle.settle_core.proofs.Pieces.{at_picture, code_no_zero, same_code, theirs_stood}
use Rattle.settle_core.proofs.Tracing.{own_code}
use Rattle.settle_core.proofs.Gone.{number_owned}
use Rattle.unseen_pairs.specs.Pairs.{IsAfterTwo}
use Rattle.unseen_pairs.proofs.Adding.{Promotes, adds_both, adds_fewer}
use Rattle.unseen_pairs.proofs.Losing.{mover_loses_at}

-- A piece of the first mover that went to a square.
record Goes (p : Parts) (m : Move) : Type 0 where
  kind : Kind
  came : on (after p m).board m.to ≡ piece_of p.side kind
  free : (own : Kind) → on p.board m.to ≢ piece_of p.side own

goes : (p : Parts) (m : Move) → Valid p → Legal p m → Goes p m
goes p m v l = elim (moves_move_pieces p m v l) [
  | inl o ↦ record { kind = unwrap_or m.promotion o.kind; came = o.came; free = o.free }
  | inr c ↦ record { kind = King; came = c.king_came; free = λ own e. none_piece (sym c.target_empty ∙ e) }
]

plain_names : (side : Side) (k : Kind) (m : Move) → (k ≡ Pawn → row m.to ≢ last_row side) → NamesPromotion side k m → m.promotion ≡ None
plain_names side Pawn m far names = names.before (far refl)
plain_names side Rook m far names = names
plain_names side Knight m far names = names
plain_names side Bishop m far names = names
plain_names side King m far names = names
plain_names side Queen m far names = names

one_row : (side : Side) (s t : ℕ) → Ahead (forward side) 1 s t → NextRow side (row s) (row t)
one_row White s t h = omega arith
one_row Black s t h = omega arith

before_last : (side : Side) (a b : ℕ) → NextRow side a b → b ≡ last_row side → a ≡ second_row (other side)
before_last White a b h e = omega arith
before_last Black a b h e = omega arith

-- a pawn comes to the last row from the one before it
from_before : (p : Parts) (m : Move) → Valid p → on p.board m.from ≡ piece_of p.side Pawn → Moving p m → row m.to ≡ last_row p.side → row m.from ≡ second_row (other p.side)
from_before p m v h (step s) e = absurd (s.no_pawn (ap kind_of (sym s.stands ∙ h)))
from_before p m v h (pawn_step s) e = before_last p.side (row m.from) (row m.to) (one_row p.side m.from m.to s.goes) e
from_before p m v h (capture s) e =
    let k : s.kind ≡ Pawn = ap kind_of (sym s.stands ∙ h) in
    let P : Kind → Type 0 = λ k. AttacksFrom p.board p.side k m.from m.to in
    before_last p.side (row m.from) (row m.to) (pawn_attack_row p.board p.side m.from m.to (subst P k s.attacks)) e
from_before p m v h (double_step s) e = absurd (double_row p.side m.from m.to s.begins s.goes e)
from_before p m v h (en_passant s) e = before_last p.side (row m.from) (row m.to) (pawn_attack_row p.board p.side m.from m.to s.attacks) e
from_before p m v h (castling wing c) e =
    let home : IsAtHome p.board p.side wing = v.rights p.side wing c.right in
    absurd (king_no_pawn (ap kind_of (sym home.king ∙ ap (on p.board) (sym c.from) ∙ h)))

-- only a pawn on the last row promotes
plain_move : (p : Parts) (m : Move) → Valid p → Legal p m → (on p.board m.from ≡ piece_of p.side Pawn → row m.to ≢ last_row p.side) → m.promotion ≡ None
plain_move p m v l far = elim (moves_move_pieces p m v l) [
  | inl o ↦ plain_names p.side o.kind m (λ e. far (o.stands ∙ ap (piece_of p.side) e)) o.names
  | inr c ↦ c.promotion
]

-- The target after a move is the square in front of a pawn that made a double step.
passed_over : (p : Parts) (m : Move) (t : ℕ) → Valid p → Legal p m → (after p m).target ≡ Some t → Ahead (forward p.side) 1 m.from t
passed_over p m t v l e =
    let half : ℕ = (m.from + m.to) / 2 in
    let steps : is_double_step p m ≡ true → DoubleSteps p m = λ did. elim (ways_after p m v l.on_board l.goes) [
      | inl w ↦ (w.double did).1
      | inr w ↦ let one : is_double_step p m ≡ false = rw w.1.stands refl in absurd (both_ways _ one did)
    ] in
    elim (cases_Bool (is_double_step p m)) [
      | inl did ↦
          let some : Some half ≡ Some t = sym (cond-true (is_double_step p m) (Some half) None did) ∙ e in
          let same : half ≡ t = cc in
          subst (λ (x : ℕ). Ahead (forward p.side) 1 m.from x) same ((passed p.side m.from m.to (steps did).begins (steps did).goes).ahead)
      | inr never ↦
          let none : None ≡ Some t = sym (cond-false (is_double_step p m) (Some half) None never) ∙ e in
          let bad : ⊥ = cc in absurd bad
    ]

-- pieces of both sides don't stand on one square
both_sides : (side : Side) (j k : Kind) (o : Option Piece) → o ≡ piece_of side j → o ≡ piece_of (other side) k → ⊥
both_sides side j k o a b = sides_differ side (ap side_of (sym a ∙ b))

-- its own piece is seen where it went
own_seen : (p : Parts) (m n : Move) (seen : List ℕ) (g : Goes p m) → Valid p → IsAfterTwo p seen m n → m.to < 64
    → on (after (after p m) n).board m.to ≡ on (after p m).board m.to → LandsAt p seen m.to
own_seen p m n seen g v two low same =
    let w : Valid (after p m) = moves_stay_valid p m v two.first in
    let u : Valid (after (after p m) n) = moves_stay_valid (after p m) n w two.second in
    let shown : get_or seen m.to 0 ≡ code_of_piece p.side g.kind =
    ap (λ xs. get_or xs m.to 0) two.shows ∙ at_picture (after (after p m) n) m.to (rw u.squares low) ∙ ap code (same ∙ g.came) in
    record {
      low = low;
      some = λ e. code_no_zero p.side g.kind (sym shown ∙ e);
      differs = λ e.
          let at : get_or (picture p) m.to 0 ≡ code (on p.board m.to) = at_picture p m.to (rw v.squares low) in
          g.free g.kind (same_code _ _ (sym at ∙ e ∙ shown));
    }

-- or the piece that took it
taker_seen : (p : Parts) (m n : Move) (seen : List ℕ) (o : MovesOnePiece (after p m) n) (b : TheirsLand p seen) → Valid p → IsAfterTwo p seen m n → m.to < 64
    → m.to ≡ n.to → LandsAt p seen m.to
taker_seen p m n seen o b v two low e =
    let q : Parts = after p m in
    let w : Valid q = moves_stay_valid p m v two.first in
    let u : Valid (after q n) = moves_stay_valid q n w two.second in
    let j : Kind = unwrap_or n.promotion o.kind in
    let stands : on (after q n).board m.to ≡ piece_of (other p.side) j = ap (on (after q n).board) e ∙ o.came in
    let shown : get_or seen m.to 0 ≡ code_of_piece (other p.side) j =
    ap (λ xs. get_or xs m.to 0) two.shows ∙ at_picture (after q n) m.to (rw u.squares low) ∙ ap code stands in
    record {
      low = low;
      some = λ z. code_no_zero (other p.side) j (sym shown ∙ z);
      differs = λ same.
          let s : ℕ = b.square in
          let there : get_or seen s 0 ≡ code (on (after q n).board s) = ap (λ xs. get_or xs s 0) two.shows ∙ at_picture (after q n) s (rw u.squares (b.lands).low) in
          let own = own_code (other p.side) (on (after q n).board s)
          (number_owned (other p.side) (code (on (after q n).board s)) (ap (is_owned_code (other p.side)) (sym there) ∙ b.owned)) in
          let at : get_or (picture p) m.to 0 ≡ code (on p.board m.to) = at_picture p m.to (rw v.squares low) in
          let stood : on p.board m.to ≡ piece_of (other p.side) j = same_code _ _ (sym at ∙ same ∙ shown) in
          let as_it_was : on p.board s ≡ piece_of (other p.side) own.0 → ⊥ = λ h.
          (b.lands).differs (at_picture p s (rw v.squares (b.lands).low) ∙ ap code (h ∙ sym own.1) ∙ sym there) in
          elim (cases_eq s m.to) [
            | inl is ↦ (b.lands).differs (subst (λ (x : ℕ). get_or (picture p) x 0 ≡ get_or seen x 0) (sym is) same)
            | inr ne ↦
                elim (cases_eq s n.from) [
                  | inl is ↦ none_piece (sym (ap (on (after q n).board) is ∙ o.left) ∙ own.1)
                  | inr ne' ↦
                      elim (cases_eq s o.taken) [
                        | inl is ↦ none_piece (sym (ap (on (after q n).board) is ∙ o.gone) ∙ own.1)
                        | inr ne'' ↦
                            let kept : on q.board s ≡ piece_of (other p.side) own.0 = sym (o.others s ne' (λ x. ne (x ∙ sym e)) ne'') ∙ own.1 in
                            as_it_was (theirs_stood p m s own.0 v two.first kept)
                      ]
                ]
          ];
    }

-- A pawn that takes it in passing stands in front of it.
taken_passing : (p : Parts) (m n : Move) (seen : List ℕ) (o : MovesOnePiece (after p m) n) → Valid p → IsAfterTwo p seen m n → IsPlainPawn p seen m.from
    → TakesEnPassant (after p m) n → ⊥
taken_passing p m n seen o v two plain passant =
    let q : Parts = after p m in
    let w : Valid q = moves_stay_valid p m v two.first in
    let u : Valid (after q n) = moves_stay_valid q n w two.second in
    let kind : unwrap_or n.promotion o.kind ≡ Pawn =
    ap (λ (x : Option Kind). unwrap_or x o.kind) passant.promotion ∙ ap kind_of (sym o.stands ∙ passant.stands) in
    let came : on (after q n).board n.to ≡ piece_of (other p.side) Pawn = o.came ∙ ap (piece_of (other p.side)) kind in
    let low : n.to < 64 = rw (← u.squares) (on_board (after q n).board n.to (other p.side) Pawn came) in
    plain.unpassed n.to low (passed_over p m n.to v two.first passant.target)
    (ap (λ xs. get_or xs n.to 0) two.shows ∙ at_picture (after q n) n.to (rw u.squares low) ∙ ap code came)

-- The first ply of a pair goes to a square where its own piece is seen, or it was taken there.
first_end : (p : Parts) (m n : Move) (seen : List ℕ) (At : Type 0) → (LandsAt p seen m.to → At) → ((o : MovesOnePiece (after p m) n) → m.to < 64 → m.to ≡ n.to → At)
    → Valid p → (on p.board m.from ≡ piece_of p.side Pawn → IsPlainPawn p seen m.from)
    → IsAfterTwo p seen m n → (m.to < 64) × At × (m.promotion ≡ None)
first_end p m n seen At own taken v plain two =
    let q : Parts = after p m in
    let w : Valid q = moves_stay_valid p m v two.first in
    let g : Goes p m = goes p m v two.first in
    let low : m.to < 64 = rw (← w.squares) (on_board q.board m.to p.side g.kind g.came) in
    let ends : At =
    elim (moves_move_pieces q n w two.second) [
      | inl o ↦
          elim (cases_eq m.to n.to) [
            | inl e ↦ taken o low e
            | inr ne ↦
                elim (cases_eq m.to o.taken) [
                  | inl e ↦
                      elim o.passes [
                        | inl same ↦ absurd (both_sides p.side g.kind o.kind (on q.board m.to) g.came (ap (on q.board) (e ∙ same) ∙ o.stands))
                        | inr passant ↦
                            let pawn : on q.board m.to ≡ piece_of p.side Pawn = ap (on q.board) e ∙ passant.1 ∙ ap (λ (s : Side). piece_of s Pawn) (other-other p.side) in
                            absurd (taken_passing p m n seen o v two (plain (pawn_stood p m v two.first pawn)) passant.0)
                      ]
                  | inr ne' ↦
                      own (own_seen p m n seen g v two low
                      (o.others m.to (λ e. both_sides p.side g.kind o.kind (on q.board m.to) g.came (ap (on q.board) e ∙ o.stands)) ne ne'))
                ]
          ]
      | inr c ↦
          own (own_seen p m n seen g v two low
          (c.others m.to
          (λ e. both_sides p.side g.kind King (on q.board m.to) g.came (ap (on q.board) e ∙ c.king))
          (λ e. none_piece (sym (ap (on q.board) e ∙ c.target_empty) ∙ g.came))
          (λ e. both_sides p.side g.kind Rook (on q.board m.to) g.came (ap (on q.board) e ∙ c.rook))
          (λ e. none_piece (sym (ap (on q.board) e ∙ c.crossed_empty) ∙ g.came))))
    ] in (
      low,
      ends,
      plain_move p m v two.first (λ pawn e. (plain pawn).far (from_before p m v pawn (two.first).goes e)),
    )

-- the piece that took it is seen there
taker_shown : (p : Parts) (m n : Move) (seen : List ℕ) (o : MovesOnePiece (after p m) n) → Valid p → IsAfterTwo p seen m n → m.to < 64
    → m.to ≡ n.to → get_or seen m.to 0 ≢ 0
taker_shown p m n seen o v two low e none =
    let q : Parts = after p m in
    let u : Valid (after q n) = moves_stay_valid q n (moves_stay_valid p m v two.first) two.second in
    let j : Kind = unwrap_or n.promotion o.kind in
    let stands : on (after q n).board m.to ≡ piece_of (other p.side) j = ap (on (after q n).board) e ∙ o.came in
    code_no_zero (other p.side) j
    (sym (ap (λ xs. get_or xs m.to 0) two.shows ∙ at_picture (after q n) m.to (rw u.squares low) ∙ ap code stands) ∙ none)

is_landed : (a b : ℕ) → a ≢ b → b ≢ 0 → lands false a b ≡ true
is_landed a b differs some = grind arith

-- so it goes to a square on which a piece is seen
pub ends_shown : (p : Parts) (seen : List ℕ) (shown : ℕ) → Valid p → IsShown shown seen → EndsAmong p seen shown
ends_shown p seen shown v is m n two plain =
    let end = first_end p m n seen (get_or seen m.to 0 ≢ 0) (λ l. l.some) (λ o low e. taker_shown p m n seen o v two low e) v plain two in
    let bit = is m.to end.0 in
    (end.2, end.0, bit.1 (λ e. end.1 (sym e ∙ get_or-replicate 64 m.to 0 0 end.0)))

-- or landed, where one of the other side did
pub ends_landed : (p : Parts) (seen : List ℕ) (landed : ℕ) → Valid p → IsLanded landed (picture p) seen → TheirsLand p seen → EndsAmong p seen landed
ends_landed p seen landed v is theirs m n two plain =
    let end = first_end p m n seen (LandsAt p seen m.to) (λ l. l) (λ o low e. taker_seen p m n seen o theirs v two low e) v plain two in
    let bit = is m.to end.0 in
    (end.2, end.0, bit.1 (is_landed (get_or (picture p) m.to 0) (get_or seen m.to 0) (end.1).differs (end.1).some))

-- It leaves its square.
pub first_differs : (p : Parts) (m n : Move) (seen : List ℕ) → Valid p → IsAfterTwo p seen m n → (m.from < 64) × (get_or (picture p) m.from 0 ≢ get_or seen m.from 0)
first_differs p m n seen v two =
    let lost : LosesAt p seen p.side m.from = mover_loses_at p m n seen v two in
    (lost.low, λ e. lost.gone (sym e ∙ at_picture p m.from (rw v.squares lost.low) ∙ ap code lost.stands))

-- All pairs begin with these moves.
pub all_listed : (p : Parts) (seen : List ℕ) (mask : ℕ) (moves : List Move) → Valid p → IsDiff mask (picture p) seen
    → AddsMoves p (λ m. Begins p seen m × (bit_at mask m.from ≡ 1)) [] moves → ListsFirst p seen moves
all_listed p seen mask moves v diff adds = record {
  legal = λ m c. elim (adds.legal m c) [ inl before ↦ absurd (let low : before.0 < 0 = before.1 in let bad : ⊥ = omega arith in bad) | inr l ↦ l ];
  whole = λ m n two.
      let d = first_differs p m n seen v two in
      let bit = diff m.from d.0 in
      adds.whole m ((n, two), bit.1 d.1) two.first;
}

-- A move that promotes ends on the last row.
names_last : (side : Side) (k : Kind) (m : Move) → NamesPromotion side k m → (m.promotion ≡ None) ⊎ (IsOfficer m.promotion × (row m.to ≡ last_row side))
names_last side Pawn m names = elim (cases_eq (row m.to) (last_row side)) [ inl e ↦ inr (names.last e, e) | inr ne ↦ inl (names.before ne) ]
names_last side Rook m names = inl names
names_last side Knight m names = inl names
names_last side Bishop m names = inl names
names_last side King m names = inl names
names_last side Queen m names = inl names

promotes_last : (p : Parts) (m : Move) → Valid p → Legal p m → (m.promotion ≡ None) ⊎ (IsOfficer m.promotion × (row m.to ≡ last_row p.side))
promotes_last p m v l = elim (moves_move_pieces p m v l) [
  | inl o ↦ names_last p.side o.kind m o.names
  | inr c ↦ inl c.promotion
]

last_rows : (side : Side) (to : ℕ) → row to ≡ last_row side → 8 ≤ to → to < 56 → ⊥
last_rows White to e low high = omega arith
last_rows Black to e low high = omega arith

-- all moves between two squares
pub adds_near : (p : Parts) (from to : ℕ) (a b c : List Move) → Valid p
    → AddsMoves p (IsBetween from to None) a b → AddsMoves p (Promotes from to) b c → AddsMoves p (λ m. (m.from ≡ from) × (m.to ≡ to)) a c
adds_near p from to a b c v first second =
    adds_both p (IsBetween from to None) (Promotes from to) (λ m. (m.from ≡ from) × (m.to ≡ to)) a b c first second
    (λ m l these. elim (promotes_last p m v l) [ inl none ↦ inl (none, these.0, these.1) | inr some ↦ inr (these.0, these.1, some.0) ])

pub adds_far : (p : Parts) (from to : ℕ) (a b : List Move) → Valid p → 8 ≤ to → to < 56
    → AddsMoves p (IsBetween from to None) a b → AddsMoves p (λ m. (m.from ≡ from) × (m.to ≡ to)) a b
adds_far p from to a b v low high adds =
    adds_fewer p (IsBetween from to None) (λ m. (m.from ≡ from) × (m.to ≡ to)) a b adds
    (λ m l these. elim (promotes_last p m v l) [
      | inl none ↦ (none, these.0, these.1)
      | inr some ↦ absurd (last_rows p.side to (ap row (sym these.1) ∙ some.1) low high)
    ])
