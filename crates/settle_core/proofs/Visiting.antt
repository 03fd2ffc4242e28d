-- Only on squares that differ does a piece land, or leave.
use Rattle.std.proofs.Common.{min, replicate, ◌≡◌, ◌≢◌, ℕ, ◌<◌, ◌≤◌, ◌^◌, ◌*◌, ◌%◌, inl, inr, List, Bool, false, not, ◌==◌, ◌&&◌, ◌||◌, nat_lt, cond, get_or, bit_and, w64, sym, ap, ◌∙◌, arith}
use Rattle.std.specs.Int.{bit_at, bit_not}
use Rattle.std.proofs.lemmas.Bool.{cases_Bool, cases_eq, eq-eqb, ne_eqb, false_from_ne_true, cond-false}
use Rattle.std.proofs.Math.Nat.{min-le_left, min-le_right}
use Rattle.std.proofs.lemmas.Nat.{and_le_l}
use Rattle.std.proofs.lemmas.List.{get_or-replicate}
use Rattle.std.proofs.lemmas.Nat.Bits.{bit_at-lt, bit_at_and, bit_at_clear_same}
use Rattle.settle_core.specs.Masks.{IsDiff, IsLanded, IsShown}
use Rattle.settle_core.specs.Candidate.{lands, is_king_code, side_number}
use Rattle.settle_core.specs.Inside.Reading.{leaves}
use Rattle.settle_core.proofs.Masking.{zero_one}
use Rattle.settle_core.proofs.Tracing.{Lands, Leaves, lands_from, lands_parts, leaves_parts}

pub both_first : (a b : ℕ) → min a b ≡ 1 → a < 2 → a ≡ 1
both_first a b e low = let le : min a b ≤ a = min-le_left a b in omega arith

pub both_second : (a b : ℕ) → min a b ≡ 1 → b < 2 → b ≡ 1
both_second a b e low = let le : min a b ≤ b = min-le_right a b in omega arith

pub both_one : (a b : ℕ) → a ≡ 1 → b ≡ 1 → min a b ≡ 1
both_one a b e f = ap (λ x. min x b) e ∙ ap (min 1) f

-- a mask without one of its squares is a smaller number
pub cleared_smaller : (mask at : ℕ) → at < 64 → bit_at mask at ≡ 1 → bit_and mask (bit_not w64 (1 * 2 ^ at % 2 ^ 64)) < mask
cleared_smaller mask at low set =
    let rest : ℕ = bit_and mask (bit_not w64 (1 * 2 ^ at % 2 ^ 64)) in
    let le : rest ≤ mask = and_le_l mask (bit_not w64 (1 * 2 ^ at % 2 ^ 64)) in
    let ne : rest ≢ mask = λ e. zero_one (bit_at_clear_same w64 mask at low) (ap (λ n. bit_at n at) e ∙ set) in
    omega arith

pub unset_same : (mask : ℕ) (before after : List ℕ) (s : ℕ) → IsDiff mask before after → s < 64 → bit_at mask s ≡ 0 → get_or before s 0 ≡ get_or after s 0
unset_same mask before after s d low unset =
    elim (cases_eq (get_or before s 0) (get_or after s 0)) [
      | inl e ↦ e
      | inr ne ↦ let h = d s low in absurd (zero_one unset (h.1 ne))
    ]

-- a piece landed where the square differs and shows one
pub is_landed :
    (mask shown : ℕ) (before after : List ℕ) → IsDiff mask before after → IsShown shown after → IsLanded (bit_and mask shown) before after
is_landed mask shown before after d h s low =
    let both : bit_at (bit_and mask shown) s ≡ min (bit_at mask s) (bit_at shown s) = bit_at_and mask shown s in
    let zero : get_or (replicate 64 0) s 0 ≡ 0 = get_or-replicate 64 s 0 0 low in
    let a = d s low in
    let b = h s low in (
      λ one.
          let l : Lands false (get_or before s 0) (get_or after s 0) = record {
            differ = a.0 (both_first (bit_at mask s) (bit_at shown s) (sym both ∙ one) (bit_at-lt mask s));
            some = λ e. b.0 (both_second (bit_at mask s) (bit_at shown s) (sym both ∙ one) (bit_at-lt shown s)) (zero ∙ sym e);
            king = λ e. let never : ⊥ = cc in absurd never;
          } in
          lands_from false _ _ l,
      λ t.
          let l : Lands false (get_or before s 0) (get_or after s 0) = lands_parts false _ _ t in
          both ∙ both_one (bit_at mask s) (bit_at shown s) (a.1 l.differ) (b.1 (λ e. l.some (sym e ∙ zero))),
    )

pub no_landing : (kings : Bool) (x y : ℕ) → x ≡ y → lands kings x y ≡ false
no_landing kings x y e = ap (λ t. not t && (not (y == 0) && (not kings || is_king_code y))) (eq-eqb x y e)

zero_two : {a : ℕ} → a ≡ 0 → a ≡ 2 → ⊥
zero_two e h = omega arith

side_some : (c : ℕ) → c ≢ 0 → side_number c ≢ 0
side_some c ne e =
    let same : side_number c ≡ cond (nat_lt c 7) 1 2 = cond-false (c == 0) 0 (cond (nat_lt c 7) 1 2) (ne_eqb c 0 ne) in
    elim (cases_Bool (nat_lt c 7)) [
      | inl t ↦ zero_one e (same ∙ ap (λ (b : Bool). cond b 1 2) t)
      | inr f ↦ zero_two e (same ∙ ap (λ (b : Bool). cond b 1 2) f)
    ]

pub no_leaving : (c x y : ℕ) → c ≢ 0 → x ≡ y → leaves c x y ≡ false
no_leaving c x y some e =
    false_from_ne_true (leaves c x y)
    (λ t.
    let h : Leaves c x y = leaves_parts c x y t in
    let empty : x ≡ 0 = e ∙ h.none in
    elim (cases_Bool (is_king_code c)) [
      | inl k ↦ some (sym (h.king k) ∙ empty)
      | inr k ↦ side_some c some (sym (h.piece k) ∙ ap side_number empty)
    ])

-- no piece landed where the bit is clear, and no king
pub not_landed :
    (kings : Bool) (landed : ℕ) (before after : List ℕ) (s : ℕ)
    → IsLanded landed before after → s < 64 → bit_at landed s ≡ 0 → lands kings (get_or before s 0) (get_or after s 0) ≡ false
not_landed kings landed before after s h low unset =
    false_from_ne_true (lands kings (get_or before s 0) (get_or after s 0))
    (λ t.
    let l : Lands kings (get_or before s 0) (get_or after s 0) = lands_parts kings _ _ t in
    let d = h s low in
    zero_one unset (d.1 (lands_from false _ _ (record { differ = l.differ; some = l.some; king = λ e. let never : ⊥ = cc in absurd never }))))
