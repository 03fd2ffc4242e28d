-- The candidate is the move that two pictures settle.
use Rattle.std.proofs.Common.{◌≡◌, ◌≢◌, ℕ, ◌<◌, ◌≤◌, ◌^◌, Bool, true, false, inl, inr, List, Option, Some, get_or, length, sym, ap, subst, ◌∙◌, arith}
use Rattle.std.proofs.lemmas.Bool.{both_ways, cases_lt, cases_Bool}
use Rattle.std.proofs.lemmas.List.{get_or_past}
use Rattle.std.specs.Int.RustNames.{count_ones}
use Rattle.std.specs.Simd.Lanes.{mask_l}
use Rattle.chess_rules.specs.declared.pieces.Kind.{Kind}
use Rattle.chess_rules.specs.declared.pieces.Kind.TheVariants.{King}
use Rattle.chess_rules.specs.declared.chess_move.Move.{Move}
use Rattle.chess_rules.specs.declared.parts.Parts.{Parts}
use Rattle.chess_rules.specs.Board.{on, piece_of}
use Rattle.chess_rules.specs.After.{after, board_after}
use Rattle.chess_rules.specs.Legal.{Legal}
use Rattle.chess_rules.specs.Valid.{Valid}
use Rattle.chess_rules.specs.Picture.{code, picture}
use Rattle.chess_rules.proofs.LawLemmas.{moves_move_pieces}
use Rattle.chess_rules.proofs.Shifts.{on_board}
use Rattle.chess_rules.proofs.Tells.{same_move}
use Rattle.settle_core.specs.Settling.{Settles}
use Rattle.settle_core.specs.Masks.{IsDiff, IsNoMove}
use Rattle.settle_core.specs.Candidate.{lands, is_king_code, side_number}
use Rattle.settle_core.specs.Inside.Reading.{leaves, promotion_between}
use Rattle.settle_core.proofs.Pieces.{at_picture, squares_after}
use Rattle.settle_core.proofs.Masking.{diffs, at_diffs, differ, length-diffs}
use Rattle.settle_core.proofs.Counting.{mask_is, ones_trues, few_trues, three_trues, trues}
use Rattle.settle_core.proofs.Tracing.{IsTraced, traced, Lands, Leaves, lands_from, lands_parts, leaves_from, leaves_parts, king_code_is, piece_some, number_some, side_code}
use Rattle.std.proofs.lemmas.Bool.{eq-eqb, ne_eqb}
use Rattle.std.proofs.Common.{not}

-- two pictures, and the move between them
pub record IsBetween (p : Parts) (m : Move) (before after : List ℕ) : Type 0 where
  pub legal : Legal p m
  pub trace : IsTraced p m
  pub from_low : m.from < 64
  pub to_low : m.to < 64
  pub at_before : (s : ℕ) → s < 64 → get_or before s 0 ≡ code (on p.board s)
  pub at_after : (s : ℕ) → s < 64 → get_or after s 0 ≡ code (on (board_after p m) s)

-- the move's own square
pub low_from : (p : Parts) (m : Move) → Valid p → Legal p m → m.from < 64
low_from p m v l =
    elim (moves_move_pieces p m v l) [
      | inl o ↦ rw (← v.squares) (on_board p.board m.from p.side o.kind o.stands)
      | inr c ↦ rw (← v.squares) (on_board p.board m.from p.side _ c.king)
    ]

-- the piece has left it
pub from_moved : (p : Parts) (m : Move) (before now : List ℕ) → IsBetween p m before now → get_or before m.from 0 ≡ get_or now m.from 0 → ⊥
from_moved p m before now b e =
    let t : IsTraced p m = b.trace in
    let empty : code (on p.board m.from) ≡ 0 = sym (b.at_before m.from b.from_low) ∙ e ∙ b.at_after m.from b.from_low ∙ (t.leaves).none in
    elim (cases_Bool (is_king_code (code (piece_of t.side t.arrived)))) [
      | inl k ↦ piece_some t.side t.arrived (sym ((t.leaves).king k) ∙ empty)
      | inr k ↦ number_some t.side (sym (ap side_number empty) ∙ (t.leaves).piece k ∙ side_code t.side t.arrived)
    ]

pub between : (p : Parts) (m : Move) (before now : List ℕ) → Valid p → before ≡ picture p → Settles p now m → IsBetween p m before now
between p m before now v e h =
    let l : Legal p m = h.legal in
    let n : length (board_after p m) ≡ 64 = squares_after p m v l in
    record {
      legal = l;
      trace = traced p m v l;
      from_low = low_from p m v l;
      to_low = l.on_board;
      at_before = λ s low. ap (λ xs. get_or xs s 0) e ∙ at_picture p s (rw v.squares low);
      at_after = λ s low. ap (λ xs. get_or xs s 0) h.shows ∙ at_picture (after p m) s (rw n low);
    }

pub lands_at : (p : Parts) (m : Move) (before now : List ℕ) (kings : Bool) (s : ℕ) → IsBetween p m before now → s < 64
    → lands kings (get_or before s 0) (get_or now s 0) ≡ true → Lands kings (code (on p.board s)) (code (on (board_after p m) s))
lands_at p m before now kings s b low h =
    lands_parts kings _ _ (sym (ap (λ x. lands kings x (code (on (board_after p m) s))) (b.at_before s low)) ∙ sym (ap (lands kings (get_or before s 0)) (b.at_after s low)) ∙ h)

at_lands : (p : Parts) (m : Move) (before now : List ℕ) (kings : Bool) (s : ℕ) → IsBetween p m before now → s < 64
    → Lands kings (code (on p.board s)) (code (on (board_after p m) s)) → lands kings (get_or before s 0) (get_or now s 0) ≡ true
at_lands p m before now kings s b low h =
    ap (lands kings (get_or before s 0)) (b.at_after s low) ∙ ap (λ x. lands kings x (code (on (board_after p m) s))) (b.at_before s low) ∙ lands_from kings _ _ h

-- the landing of a king is the move's target
pub to_some :
    (p : Parts) (m : Move) (before now : List ℕ) (to : ℕ)
    → IsBetween p m before now → to < 64 → lands true (get_or before to 0) (get_or now to 0) ≡ true → to ≡ m.to
to_some p m before now to b low h = (b.trace).only_king to (lands_at p m before now true to b low h)

-- where no king lands, none is moved
pub no_king :
    (p : Parts) (m : Move) (before now : List ℕ) (b : IsBetween p m before now)
    → ((s : ℕ) → s < 64 → lands true (get_or before s 0) (get_or now s 0) ≡ false)
    → (b.trace).arrived ≢ King
no_king p m before now b none k =
    let t : IsTraced p m = b.trace in
    let king : Lands true (code (on p.board m.to)) (code (on (board_after p m) m.to)) =
    record {
      differ = (t.lands).differ;
      some = (t.lands).some;
      king = λ e. ap (λ o. is_king_code (code o)) (t.code_to ∙ ap (piece_of t.side) k) ∙ king_code_is t.side;
    } in
    both_ways _ (none m.to b.to_low) (at_lands p m before now true m.to b b.to_low king)

-- and so is another piece's, where no king lands
pub to_none :
    (p : Parts) (m : Move) (before now : List ℕ) (to : ℕ)
    → IsBetween p m before now
    → ((s : ℕ) → s < 64 → lands true (get_or before s 0) (get_or now s 0) ≡ false)
    → to < 64
    → lands false (get_or before to 0) (get_or now to 0) ≡ true
    → to ≡ m.to
to_none p m before now to b none low h =
    (b.trace).only_piece (no_king p m before now b none) to (lands_at p m before now false to b low h)

pub no_land :
    (p : Parts) (m : Move) (before now : List ℕ)
    → IsBetween p m before now → ¬ ((s : ℕ) → s < 64 → lands false (get_or before s 0) (get_or now s 0) ≡ false)
no_land p m before now b none = both_ways _ (none m.to b.to_low) (at_lands p m before now false m.to b b.to_low (b.trace).lands)

code_at : (p : Parts) (m : Move) (before now : List ℕ) (to : ℕ) (b : IsBetween p m before now) → to ≡ m.to → get_or now to 0 ≡ code (piece_of (b.trace).side (b.trace).arrived)
code_at p m before now to b e = ap (λ s. get_or now s 0) e ∙ b.at_after m.to b.to_low ∙ ap code (b.trace).code_to

pub no_leave :
    (p : Parts) (m : Move) (before now : List ℕ) (to : ℕ)
    → IsBetween p m before now → to ≡ m.to → ¬ ((s : ℕ) → s < 64 → leaves (get_or now to 0) (get_or before s 0) (get_or now s 0) ≡ false)
no_leave p m before now to b e none =
    both_ways _ (none m.from b.from_low)
    (rw (code_at p m before now to b e, b.at_before m.from b.from_low, b.at_after m.from b.from_low) (leaves_from _ _ _ (b.trace).leaves))

pub from_is :
    (p : Parts) (m : Move) (before now : List ℕ) (to from : ℕ)
    → IsBetween p m before now
    → to ≡ m.to
    → from < 64
    → leaves (get_or now to 0) (get_or before from 0) (get_or now from 0) ≡ true
    → from ≡ m.from
from_is p m before now to from b e low h =
    let P : ℕ → ℕ → ℕ → Type 0 = λ c x y. Leaves c x y in
    (b.trace).only_left from
    (subst (λ c. P c (code (on p.board from)) (code (on (board_after p m) from))) (code_at p m before now to b e)
    (subst (λ x. P (get_or now to 0) x (code (on (board_after p m) from))) (b.at_before from low)
    (subst (λ y. P (get_or now to 0) (get_or before from 0) y) (b.at_after from low) (leaves_parts _ _ _ h))))

pub promotion_is :
    (p : Parts) (m : Move) (before now : List ℕ) (to from : ℕ)
    → IsBetween p m before now
    → to ≡ m.to
    → from ≡ m.from
    → promotion_between (get_or before from 0) (get_or now to 0) ≡ m.promotion
promotion_is p m before now to from b e f =
    ap (promotion_between (get_or before from 0)) (code_at p m before now to b e)
    ∙ ap (λ x. promotion_between x (code (piece_of (b.trace).side (b.trace).arrived))) (ap (λ s. get_or before s 0) f ∙ b.at_before m.from b.from_low)
    ∙ (b.trace).promotes

pub same_candidate :
    (m : Move) (from to : ℕ) (promotion : Option Kind) → from ≡ m.from → to ≡ m.to → promotion ≡ m.promotion
    → Some (record { from = from; to = to; promotion = promotion }) ≡ Some m
same_candidate m from to promotion f t k = ap (λ (x : Move). Some x) (same_move (record { from = from; to = to; promotion = promotion }) m f t k)

-- so many squares differ
differ_true : (x y : ℕ) → x ≢ y → differ x y ≡ true
differ_true x y ne = ap not (ne_eqb x y ne)

differ_no : (x y : ℕ) → x ≡ y → differ x y ≡ false
differ_no x y e = ap not (eq-eqb x y e)

pub few :
    (p : Parts) (m : Move) (before now : List ℕ) (mask : ℕ)
    → IsBetween p m before now
    → length before ≡ 64
    → length now ≡ 64
    → mask < 2 ^ 64
    → IsDiff mask before now
    → ¬ IsNoMove mask
few p m before now mask b nb nn low diff h =
    let t : IsTraced p m = b.trace in
    let is : mask ≡ mask_l (diffs before now) = mask_is mask before now low nb nn diff in
    let ones : count_ones mask ≡ trues (diffs before now) = ap count_ones is ∙ ones_trues (diffs before now) in
    let from_differs : get_or before m.from 0 ≢ get_or now m.from 0 =
    λ e. from_moved p m before now b e in
    let to_differs : get_or before m.to 0 ≢ get_or now m.to 0 =
    λ e. (t.lands).differ (sym (b.at_before m.to b.to_low) ∙ e ∙ b.at_after m.to b.to_low) in
    let bounds = few_trues (diffs before now) m.from m.to t.third t.fourth
    (at_diffs before now m.from nb nn b.from_low ∙ differ_true _ _ from_differs)
    (at_diffs before now m.to nb nn b.to_low ∙ differ_true _ _ to_differs)
    t.apart
    (λ s nf nt nx ny.
    elim (cases_lt s 64) [
      | inl small ↦ at_diffs before now s nb nn small ∙ differ_no _ _ (b.at_before s small ∙ sym (ap code (t.others s nf nt nx ny)) ∙ sym (b.at_after s small))
      | inr past ↦ get_or_past (diffs before now) s false (rw (length-diffs before now nb nn) past)
    ]) in
    elim h [
      | inl less ↦ let lo : 2 ≤ trues (diffs before now) = bounds.0 in omega arith
      | inr more ↦ let hi : trues (diffs before now) ≤ 4 = bounds.1 in omega arith
    ]

-- four squares differ only where a king lands
pub three :
    (p : Parts) (m : Move) (before now : List ℕ) (mask : ℕ)
    → IsBetween p m before now
    → length before ≡ 64
    → length now ≡ 64
    → mask < 2 ^ 64
    → IsDiff mask before now
    → ((s : ℕ) → s < 64 → lands true (get_or before s 0) (get_or now s 0) ≡ false)
    → count_ones mask ≤ 3
three p m before now mask b nb nn low diff none =
    let t : IsTraced p m = b.trace in
    let is : mask ≡ mask_l (diffs before now) = mask_is mask before now low nb nn diff in
    let ones : count_ones mask ≡ trues (diffs before now) = ap count_ones is ∙ ones_trues (diffs before now) in
    let one : t.third ≡ t.fourth = t.alone (no_king p m before now b none) in
    let from_differs : get_or before m.from 0 ≢ get_or now m.from 0 =
    λ e. from_moved p m before now b e in
    let to_differs : get_or before m.to 0 ≢ get_or now m.to 0 =
    λ e. (t.lands).differ (sym (b.at_before m.to b.to_low) ∙ e ∙ b.at_after m.to b.to_low) in
    let bound : trues (diffs before now) ≤ 3 = three_trues (diffs before now) m.from m.to t.third
    (at_diffs before now m.from nb nn b.from_low ∙ differ_true _ _ from_differs)
    (at_diffs before now m.to nb nn b.to_low ∙ differ_true _ _ to_differs)
    t.apart
    (λ s nf nt nx.
    elim (cases_lt s 64) [
      | inl small ↦ at_diffs before now s nb nn small ∙ differ_no _ _ (b.at_before s small ∙ sym (ap code (t.others s nf nt nx (λ e. nx (e ∙ sym one)))) ∙ sym (b.at_after s small))
      | inr past ↦ get_or_past (diffs before now) s false (rw (length-diffs before now nb nn) past)
    ]) in
    omega arith
