-- How many squares two plies change.
use Rattle.std.proofs.Common.{◌≡◌, ◌≢◌, ℕ, ◌<◌, ◌≤◌, ◌+◌, ◌^◌, inl, inr, List, [], ◌∷◌, Bool, false, not, get_or, set, length, sym, ap, ◌∙◌, arith}
use Rattle.std.proofs.lemmas.Bool.{cases_eq, cases_lt, eq-eqb}
use Rattle.std.proofs.lemmas.List.{ext_get_or, get_or_past, length-map}
use Rattle.std.proofs.lemmas.Nat.Bits.{bit_at-lt, bit_at-zero, same_from_bits_below}
use Rattle.std.specs.Int.{bit_at}
use Rattle.std.specs.Int.RustNames.{count_ones}
use Rattle.chess_rules.specs.declared.chess_move.Move.{Move}
use Rattle.chess_rules.specs.declared.parts.Parts.{Parts}
use Rattle.chess_rules.specs.Board.{on}
use Rattle.chess_rules.specs.After.{after, crossed, rook_home}
use Rattle.chess_rules.specs.Legal.{Legal}
use Rattle.chess_rules.specs.Valid.{Valid}
use Rattle.chess_rules.specs.Picture.{code, picture}
use Rattle.chess_rules.proofs.LawLemmas.{moves_move_pieces, moves_stay_valid}
use Rattle.chess_rules.proofs.Shifts.{same_unless}
use Rattle.settle_core.specs.Masks.{IsDiff}
use Rattle.settle_core.proofs.Counting.{cleared, cleared_at, mask_is, ones_trues, trues, trues_clear_le, trues_none}
use Rattle.settle_core.proofs.Masking.{at_diffs, diffs, length-diffs, zero_one}
use Rattle.settle_core.proofs.Pieces.{at_picture}
use Rattle.settle_core.proofs.Gone.{not_one}
use Rattle.unseen_pairs.specs.Pairs.{IsAfterTwo}

-- the square is none of these
abbrev pub NoneOf : List ℕ → ℕ → Type 0
NoneOf [] s = Unit {0}
NoneOf (x ∷ xs) s = (s ≢ x) × NoneOf xs s

-- only on these squares do the pictures differ
abbrev pub SameBut : List ℕ → List ℕ → List ℕ → Type 0
SameBut xs before seen = (s : ℕ) → s < 64 → NoneOf xs s → get_or before s 0 ≡ get_or seen s 0

few_trues : (xs : List ℕ) (bs : List Bool) → ((i : ℕ) → NoneOf xs i → get_or bs i false ≡ false) → trues bs ≤ length xs
few_trues [] bs h = let none : trues bs ≡ 0 = trues_none bs (λ i. h i tt) in omega arith
few_trues (x ∷ xs) bs h =
    let one : trues bs ≤ trues (set bs x false) + 1 = trues_clear_le bs x in
    let more : trues (set bs x false) ≤ length xs =
    few_trues xs (set bs x false)
    (λ i none. elim (cases_eq i x) [ inl e ↦ cleared_at bs x i e | inr ne ↦ cleared bs x i (h i (ne, none)) ]) in
    omega arith

no_difference : (before seen : List ℕ) (xs : List ℕ) (i : ℕ) → length before ≡ 64 → length seen ≡ 64 → SameBut xs before seen → NoneOf xs i → get_or (diffs before seen) i false ≡ false
no_difference before seen xs i a b same none =
    elim (cases_lt i 64) [
      | inl low ↦ at_diffs before seen i a b low ∙ ap not (eq-eqb (get_or before i 0) (get_or seen i 0) (same i low none))
      | inr past ↦ get_or_past (diffs before seen) i false (rw (length-diffs before seen a b) past)
    ]

-- a mask of differences has no more bits than there are such squares
few_bits :
    (mask : ℕ) (xs before seen : List ℕ)
    → mask < 2 ^ 64 → length before ≡ 64 → length seen ≡ 64 → IsDiff mask before seen → SameBut xs before seen → count_ones mask ≤ length xs
few_bits mask xs before seen low a b diff same =
    let is : count_ones mask ≡ trues (diffs before seen) = ap count_ones (mask_is mask before seen low a b diff) ∙ ones_trues (diffs before seen) in
    let few : trues (diffs before seen) ≤ length xs = few_trues xs (diffs before seen) (λ i none. no_difference before seen xs i a b same none) in
    omega arith

-- the squares that a move changes: at most four
record Changes (p : Parts) (m : Move) : Type 0 where
  third : ℕ
  fourth : ℕ
  others : (s : ℕ) → s ≢ m.from → s ≢ m.to → s ≢ third → s ≢ fourth → on (after p m).board s ≡ on p.board s

changes : (p : Parts) (m : Move) → Valid p → Legal p m → Changes p m
changes p m v l =
    elim (moves_move_pieces p m v l) [
      | inl o ↦ record { third = o.taken; fourth = o.taken; others = λ s a b c d. o.others s a b c }
      | inr c ↦ record { third = rook_home p.side c.wing; fourth = crossed p.side c.wing; others = λ s a b x y. c.others s a b x y }
    ]

shows_same : (p : Parts) (m : Move) (k : Changes p m) (s : ℕ) → Valid p → Legal p m → s < 64 → s ≢ m.from → s ≢ m.to → s ≢ k.third → s ≢ k.fourth
    → get_or (picture (after p m)) s 0 ≡ get_or (picture p) s 0
shows_same p m k s v l low a b x y =
    let w : Valid (after p m) = moves_stay_valid p m v l in
    at_picture (after p m) s (rw w.squares low) ∙ ap code (k.others s a b x y) ∙ sym (at_picture p s (rw v.squares low))

pub squares : (p : Parts) → Valid p → length (picture p) ≡ 64
squares p v = length-map p.board code ∙ v.squares

-- two plies change at most eight squares
pub two_change :
    (p : Parts) (m n : Move) (before seen : List ℕ) (mask : ℕ)
    → Valid p → IsAfterTwo p seen m n → before ≡ picture p → mask < 2 ^ 64 → IsDiff mask before seen → count_ones mask ≤ 8
two_change p m n before seen mask v two b low diff =
    let q : Parts = after p m in
    let w : Valid q = moves_stay_valid p m v two.first in
    let u : Valid (after q n) = moves_stay_valid q n w two.second in
    let j : Changes p m = changes p m v two.first in
    let k : Changes q n = changes q n w two.second in
    few_bits mask (m.from ∷ m.to ∷ j.third ∷ j.fourth ∷ n.from ∷ n.to ∷ k.third ∷ k.fourth ∷ []) before seen low
    (ap length b ∙ squares p v) (ap length two.shows ∙ squares (after q n) u) diff
    (λ s small x.
    ap (λ xs. get_or xs s 0) b
    ∙ sym (shows_same p m j s v two.first small x.0 x.1.0 x.1.1.0 x.1.1.1.0)
    ∙ sym (shows_same q n k s w two.second small x.1.1.1.1.0 x.1.1.1.1.1.0 x.1.1.1.1.1.1.0 x.1.1.1.1.1.1.1.0)
    ∙ ap (λ xs. get_or xs s 0) (sym two.shows))

-- and where they correct a ply, at most twelve are not as after that one
pub two_correct :
    (p : Parts) (last m n : Move) (seen : List ℕ) (mask : ℕ)
    → Valid p → Legal p last → IsAfterTwo p seen m n → mask < 2 ^ 64 → IsDiff mask (picture (after p last)) seen → count_ones mask ≤ 12
two_correct p last m n seen mask v l two low diff =
    let q : Parts = after p m in
    let w : Valid q = moves_stay_valid p m v two.first in
    let u : Valid (after q n) = moves_stay_valid q n w two.second in
    let i : Changes p last = changes p last v l in
    let j : Changes p m = changes p m v two.first in
    let k : Changes q n = changes q n w two.second in
    few_bits mask
    (last.from ∷ last.to ∷ i.third ∷ i.fourth ∷ m.from ∷ m.to ∷ j.third ∷ j.fourth ∷ n.from ∷ n.to ∷ k.third ∷ k.fourth ∷ [])
    (picture (after p last)) seen low
    (squares (after p last) (moves_stay_valid p last v l)) (ap length two.shows ∙ squares (after q n) u) diff
    (λ s small x.
    shows_same p last i s v l small x.0 x.1.0 x.1.1.0 x.1.1.1.0
    ∙ sym (shows_same p m j s v two.first small x.1.1.1.1.0 x.1.1.1.1.1.0 x.1.1.1.1.1.1.0 x.1.1.1.1.1.1.1.0)
    ∙ sym (shows_same q n k s w two.second small x.1.1.1.1.1.1.1.1.0 x.1.1.1.1.1.1.1.1.1.0 x.1.1.1.1.1.1.1.1.1.1.0 x.1.1.1.1.1.1.1.1.1.1.1.0)
    ∙ ap (λ xs. get_or xs s 0) (sym two.shows))

-- no square differs exactly where both pictures are one
pub none_differ : (mask : ℕ) (before seen : List ℕ) → length before ≡ 64 → length seen ≡ 64 → IsDiff mask before seen → mask ≡ 0 → seen ≡ before
none_differ mask before seen a b diff none =
    ext_get_or 0 seen before (b ∙ sym a)
    (λ i low.
    same_unless (get_or seen i 0) (get_or before i 0)
    (λ ne.
    let d = diff i (rw (← b) low) in
    zero_one (ap (λ k. bit_at k i) none ∙ bit_at-zero i) (d.1 (λ e. ne (sym e)))))

some_power : 0 < 2 ^ 64
some_power = omega arith

pub one_picture : (mask : ℕ) (before seen : List ℕ) → mask < 2 ^ 64 → IsDiff mask before seen → seen ≡ before → mask ≡ 0
one_picture mask before seen low diff same =
    same_from_bits_below 64 mask 0 low some_power
    (λ i small.
    let d = diff i small in
    not_one (bit_at mask i) (bit_at-lt mask i) (λ e. d.0 e (ap (λ xs. get_or xs i 0) (sym same))) ∙ sym (bit_at-zero i))
