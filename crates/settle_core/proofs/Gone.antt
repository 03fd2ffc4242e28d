-- Pieces that are not where a position has them: their codes, and masks of them.
use Rattle.std.proofs.Common.{◌≡◌, ◌≢◌, ℕ, ◌<◌, ◌≤◌, ◌+◌, ◌-◌, ◌^◌, ◌↔◌, inl, inr, List, replicate, true, false, bit_and, w64, get_or, sym, ap, ◌∙◌, arith}
use Rattle.std.specs.Int.{bit_at, bit_not, trailing_zeros}
use Rattle.std.proofs.lemmas.Nat.{and_le_l}
use Rattle.std.proofs.lemmas.Bool.{both_ways, cases_eq}
use Rattle.std.proofs.lemmas.List.{get_or-replicate}
use Rattle.std.proofs.lemmas.Nat.Bits.{bit_at-lt, bit_at-trailing_zeros, bit_at-zero, bit_at_and, bit_at_not}
use Rattle.chess_rules.specs.declared.pieces.Side.{Side}
use Rattle.chess_rules.specs.declared.pieces.Side.TheVariants.{White, Black}
use Rattle.chess_rules.specs.declared.parts.Parts.{Parts}
use Rattle.chess_rules.specs.Board.{on}
use Rattle.chess_rules.specs.Valid.{Valid}
use Rattle.chess_rules.specs.Picture.{code, code_of_piece, picture}
use Rattle.settle_core.specs.Candidate.{is_owned_code, side_number}
use Rattle.settle_core.specs.Lost.{Bares, Loses, LosesAt}
use Rattle.settle_core.specs.Masks.{IsDiff, IsOwned, IsShown}
use Rattle.settle_core.proofs.Masking.{zero_one}
use Rattle.settle_core.proofs.Pieces.{at_picture}
use Rattle.settle_core.proofs.Replying.{owned}
use Rattle.settle_core.proofs.Tracing.{eqb_true, number_of, own_code}
use Rattle.settle_core.proofs.Visiting.{both_first, both_one, both_second, unset_same}

pub number_owned : (side : Side) (c : ℕ) → is_owned_code side c ≡ true → side_number c ≡ number_of side
number_owned White c e = eqb_true _ _ e
number_owned Black c e = eqb_true _ _ e

owned_some : (side : Side) (c : ℕ) → is_owned_code side c ≡ true → c ≢ 0
owned_some White c e none = absurd (let n : is_owned_code White 0 ≡ true = ap (is_owned_code White) (sym none) ∙ e in let never : ⊥ = cc in never)
owned_some Black c e none = absurd (let n : is_owned_code Black 0 ≡ true = ap (is_owned_code Black) (sym none) ∙ e in let never : ⊥ = cc in never)

-- a piece stands where its code is gone
there : (p : Parts) (seen : List ℕ) (side : Side) (s : ℕ) → Valid p → s < 64
    → is_owned_code side (get_or (picture p) s 0) ≡ true → get_or (picture p) s 0 ≢ get_or seen s 0 → LosesAt p seen side s
there p seen side s v low owns differ =
    let at : get_or (picture p) s 0 ≡ code (on p.board s) = at_picture p s (rw v.squares low) in
    let own = own_code side (on p.board s) (number_owned side (code (on p.board s)) (ap (is_owned_code side) (sym at) ∙ owns)) in
    record {
      low = low;
      kind = own.0;
      stands = own.1;
      gone = λ e. differ (at ∙ ap code own.1 ∙ sym e);
    }

-- and its code where a piece is gone
code_there : (p : Parts) (seen : List ℕ) (side : Side) (s : ℕ) → Valid p → (h : LosesAt p seen side s) → get_or (picture p) s 0 ≡ code_of_piece side h.kind
code_there p seen side s v h = at_picture p s (rw v.squares h.low) ∙ ap code h.stands

-- the first square that two masks have
pub first_of : (a b : ℕ) → a < 2 ^ 64 → 0 < bit_and a b → (s : ℕ) × (s < 64) × (bit_at a s ≡ 1) × (bit_at b s ≡ 1)
first_of a b fits some =
    let le : bit_and a b ≤ a = and_le_l a b in
    let lowest = bit_at-trailing_zeros w64 (bit_and a b) some (let low : bit_and a b < 2 ^ 64 = omega arith in low) in
    let s = trailing_zeros w64 (bit_and a b) in
    let both = sym (bit_at_and a b s) ∙ lowest.1 in
    (s, lowest.0, both_first (bit_at a s) (bit_at b s) both (bit_at-lt a s), both_second (bit_at a s) (bit_at b s) both (bit_at-lt b s))

pub has_some : (a b s : ℕ) → bit_at a s ≡ 1 → bit_at b s ≡ 1 → 0 < bit_and a b
has_some a b s x y =
    let ne : bit_and a b ≢ 0 = λ e. zero_one (ap (λ n. bit_at n s) e ∙ bit_at-zero s) (bit_at_and a b s ∙ both_one (bit_at a s) (bit_at b s) x y) in
    omega arith

unset : (b : ℕ) → b < 2 → 1 - b ≡ 1 → b ≡ 0
unset b low e = omega arith

-- that one has and the other lacks
pub first_more : (a b : ℕ) → a < 2 ^ 64 → b < 2 ^ 64 → 0 < bit_and a (bit_not w64 b) → (s : ℕ) × (s < 64) × (bit_at a s ≡ 1) × (bit_at b s ≡ 0)
first_more a b fits within some =
    let f = first_of a (bit_not w64 b) fits some in
    (f.0, f.1, f.2, unset (bit_at b f.0) (bit_at-lt b f.0) (sym (bit_at_not w64 b f.0 within f.1) ∙ f.3))

pub has_one_more : (a b s : ℕ) → b < 2 ^ 64 → s < 64 → bit_at a s ≡ 1 → bit_at b s ≡ 0 → 0 < bit_and a (bit_not w64 b)
has_one_more a b s within low x y = has_some a (bit_not w64 b) s x (bit_at_not w64 b s within low ∙ ap (λ n. 1 - n) y)

pub loses_found : (p : Parts) (before seen : List ℕ) (side : Side) (mask owns : ℕ) → Valid p → before ≡ picture p
    → IsDiff mask before seen → IsOwned owns side before
    → ((s : ℕ) × (s < 64) × (bit_at mask s ≡ 1) × (bit_at owns s ≡ 1)) ↔ Loses p seen side
loses_found p before seen side mask owns v b diff owned_is =
    let d : IsDiff mask (picture p) seen = rw (sym b) diff in
    let o : IsOwned owns side (picture p) = rw (sym b) owned_is in (
      λ f.
          let dd = d f.0 f.1 in
          let oo = o f.0 f.1 in
          (f.0, there p seen side f.0 v f.1 (oo.0 f.3) (dd.0 f.2)),
      λ h.
          let at = code_there p seen side h.0 v h.1 in
          let dd = d h.0 (h.1).low in
          let oo = o h.0 (h.1).low in
          (h.0, (h.1).low, dd.1 (λ e. (h.1).gone (sym e ∙ at)), oo.1 (ap (is_owned_code side) at ∙ owned side (h.1).kind)),
    )

pub not_one : (b : ℕ) → b < 2 → b ≢ 1 → b ≡ 0
not_one b low ne = omega arith

-- where no piece is shown
shown_none : (shown : ℕ) (seen : List ℕ) (s : ℕ) → IsShown shown seen → s < 64 → bit_at shown s ≡ 0 → get_or seen s 0 ≡ 0
shown_none shown seen s is low none =
    let zero : get_or (replicate 64 0) s 0 ≡ 0 = get_or-replicate 64 s 0 0 low in
    sym (unset_same shown (replicate 64 0) seen s is low none) ∙ zero

none_shown : (shown : ℕ) (seen : List ℕ) (s : ℕ) → IsShown shown seen → s < 64 → get_or seen s 0 ≡ 0 → bit_at shown s ≡ 0
none_shown shown seen s is low none =
    let zero : get_or (replicate 64 0) s 0 ≡ 0 = get_or-replicate 64 s 0 0 low in
    let d = is s low in
    not_one (bit_at shown s) (bit_at-lt shown s) (λ one. d.0 one (zero ∙ sym none))

pub bares_found : (p : Parts) (before seen : List ℕ) (side : Side) (shown owns : ℕ) → Valid p → before ≡ picture p
    → IsShown shown seen → IsOwned owns side before
    → ((s : ℕ) × (s < 64) × (bit_at owns s ≡ 1) × (bit_at shown s ≡ 0)) ↔ Bares p seen side
bares_found p before seen side shown owns v b shown_is owned_is =
    let o : IsOwned owns side (picture p) = rw (sym b) owned_is in (
      λ f.
          let bare : get_or seen f.0 0 ≡ 0 = shown_none shown seen f.0 shown_is f.1 f.3 in
          let oo = o f.0 f.1 in
          let owns_it = oo.0 f.2 in
          (f.0, there p seen side f.0 v f.1 owns_it (λ e. owned_some side (get_or (picture p) f.0 0) owns_it (e ∙ bare)), bare),
      λ h.
          let at = code_there p seen side h.0 v h.1 in
          let oo = o h.0 (h.1).low in
          (h.0, (h.1).low, oo.1 (ap (is_owned_code side) at ∙ owned side (h.1).kind), none_shown shown seen h.0 shown_is (h.1).low h.2),
    )

-- a loop over the squares
pub owned_start : (side : Side) (seen : List ℕ) (s : ℕ) → (bit_at 0 s ≡ 1) ↔ ((s < 0) × (is_owned_code side (get_or seen s 0) ≡ true))
owned_start side seen s = (
  λ one. absurd (zero_one (bit_at-zero s) one),
  λ h. absurd (let low = h.0 in let never : ⊥ = omega arith in never),
)

before_next : (s n : ℕ) → s < n + 1 → s ≢ n → s < n
before_next s n low ne = omega arith

next_after : (s n : ℕ) → s < n → s < n + 1
next_after s n low = omega arith

pub owned_more : (side : Side) (seen : List ℕ) (old new n s : ℕ)
    → (s ≢ n → bit_at new s ≡ bit_at old s)
    → (s ≡ n → (bit_at new s ≡ 1) ↔ (is_owned_code side (get_or seen s 0) ≡ true))
    → (bit_at old s ≡ 1) ↔ ((s < n) × (is_owned_code side (get_or seen s 0) ≡ true))
    → (bit_at new s ≡ 1) ↔ ((s < n + 1) × (is_owned_code side (get_or seen s 0) ≡ true))
owned_more side seen old new n s others here h = elim (cases_eq s n) [
  | inl e ↦ let q = here e in (λ one. ((let low : s < n + 1 = omega (arith, e) in low), q.0 one), λ both. q.1 both.1)
  | inr ne ↦
      let q = others ne in (
        λ one. (let both = h.0 (sym q ∙ one) in (next_after s n both.0, both.1)),
        λ both. q ∙ h.1 (before_next s n both.0 ne, both.1),
      )
]

pub owned_here : (side : Side) (seen : List ℕ) (new n s : ℕ) → s ≡ n → bit_at new n ≡ 1 → is_owned_code side (get_or seen n 0) ≡ true
    → (bit_at new s ≡ 1) ↔ (is_owned_code side (get_or seen s 0) ≡ true)
owned_here side seen new n s e one owns = (λ _. ap (λ k. is_owned_code side (get_or seen k 0)) e ∙ owns, λ _. ap (bit_at new) e ∙ one)

pub unowned_here : (side : Side) (seen : List ℕ) (old new n s : ℕ) → s ≡ n → new ≡ old → is_owned_code side (get_or seen n 0) ≡ false
    → (bit_at old s ≡ 1) ↔ ((s < n) × (is_owned_code side (get_or seen s 0) ≡ true))
    → (bit_at new s ≡ 1) ↔ (is_owned_code side (get_or seen s 0) ≡ true)
unowned_here side seen old new n s e same none h = (
  λ one. (let both = h.0 (sym (ap (λ k. bit_at k s) same) ∙ one) in both.1),
  λ owns. absurd (both_ways _ none (sym (ap (λ k. is_owned_code side (get_or seen k 0)) e) ∙ owns)),
)
