-- Two pictures are the same if they differ on no square.
use Rattle.std.proofs.Common.{◌≡◌, ◌<◌, ◌^◌, ◌==◌, inl, inr, ℕ, Bool, true, false, not, List, Option, Some, None, length, refl, slice_index, sym, ap, ◌∙◌, arith}
use Rattle.std.specs.Int.{bit_at}
use Rattle.std.specs.Str.{bytes_eq}
use Rattle.std.proofs.lemmas.Bool.{cases_eq, eq-eqb, ne_eqb, true≢false}
use Rattle.std.proofs.lemmas.Grind.{same_number_lists}
use Rattle.std.proofs.lemmas.Nat.Bits.{bit_at-zero}
use Rattle.std.proofs.lemmas.Slice.Eq.{bytes_eq-Decides}
use Rattle.chess_rules.specs.declared.parts.Parts.{Parts}
use Rattle.settle_core.specs.declared.plies.Ply.{Ply}
use Rattle.board_doubts.specs.declared.heard.Heard.{Heard}
use Rattle.square_runs.specs.Squares.{Marks, some_square}
use Rattle.square_runs.proofs.Squares.{any_none, marks_some}
use Rattle.settle_core.specs.Masks.{IsDiff}
use Rattle.board_alarms.specs.declared.news.Sight.{Sight}
use Rattle.board_alarms.specs.declared.news.Sight.TheVariants.{Nothing, Again, Another, Moves}
use Rattle.board_alarms.specs.Hearing.{HearsPicture, SeesApart, is_another, last_shown, shown_at}
use Rattle.board_alarms.specs.Inside.{DiffersBy, ShowsLast}
use Rattle.settle_core.proofs.Stages.{differ_false}
use Rattle.settle_core.proofs.Visiting.{unset_same}

abbrev differ : List ℕ → List ℕ → ℕ → Bool
differ xs ys s = not (slice_index xs s == slice_index ys s)

marks : (mask : ℕ) (xs ys : List ℕ) → IsDiff mask xs ys → Marks mask (differ xs ys)
marks mask xs ys d s low =
    elim (cases_eq (slice_index xs s) (slice_index ys s)) [
      | inl e ↦ ne_eqb (bit_at mask s) 1 (λ one. (d s low).0 one e) ∙ sym (ap not (eq-eqb (slice_index xs s) (slice_index ys s) e))
      | inr ne ↦ eq-eqb (bit_at mask s) 1 ((d s low).1 ne) ∙ sym (ap not (ne_eqb (slice_index xs s) (slice_index ys s) ne))
    ]

nowhere : (xs ys : List ℕ) → ys ≡ xs → some_square (differ xs ys) ≡ false
nowhere xs ys e =
    any_none 64 (differ xs ys) (λ s low. ap not (eq-eqb (slice_index xs s) (slice_index ys s) (ap (λ (zs : List ℕ). slice_index zs s) (sym e))))

same : (mask : ℕ) (xs ys : List ℕ) → length xs ≡ 64 → length ys ≡ 64 → IsDiff mask xs ys → mask ≡ 0 → ys ≡ xs
same mask xs ys lx ly d none =
    same_number_lists ys xs (ly ∙ sym lx)
    (λ k low. sym (unset_same mask xs ys k d (omega (arith, low, ly)) (ap (λ n. bit_at n k) none ∙ bit_at-zero k)))

pub same_if_none : (mask : ℕ) (xs ys : List ℕ) → mask < 2 ^ 64 → length xs ≡ 64 → length ys ≡ 64 → IsDiff mask xs ys → (mask == 0) ≡ bytes_eq ys xs
same_if_none mask xs ys fits lx ly d =
    elim (cases_eq mask 0) [
      | inl none ↦ eq-eqb mask 0 none ∙ sym ((bytes_eq-Decides ys xs).1 (same mask xs ys lx ly d none))
      | inr some ↦ ne_eqb mask 0 some ∙ sym (differ_false ys xs (λ e. true≢false (sym (marks_some mask (differ xs ys) fits some (marks mask xs ys d)) ∙ nowhere xs ys e)))
    ]

-- The last picture differs from a position on these squares.
pub differs_by : (sight : Sight) (mask : ℕ) (last : Option (List ℕ)) (position seen : List ℕ) → ((picture : List ℕ) → last ≡ Some picture → IsDiff mask position picture)
    → ShowsLast sight last seen → DiffersBy sight mask position seen
differs_by Nothing mask last position seen differs shows = tt
differs_by Again mask last position seen differs shows = differs seen shows
differs_by Another mask last position seen differs shows = differs seen shows
differs_by Moves mask last position seen differs shows = differs seen shows

pub shows_last : (sight : Sight) (last before : Option (List ℕ)) (seen : List ℕ) → last_shown (shown_at sight seen) before ≡ last → ShowsLast sight last seen
shows_last Nothing last before seen is = tt
shows_last Again last before seen is = sym is
shows_last Another last before seen is = sym is
shows_last Moves last before seen is = sym is

-- ---- what is heard of a picture

pub hears_none : (sight : Sight) (start : Parts) (plies : List Ply) (picture : List ℕ) → is_another sight ≡ false → HearsPicture start plies (shown_at sight picture) None
hears_none Nothing start plies picture none = refl
hears_none Again start plies picture none = refl
hears_none Another start plies picture none = absurd cc
hears_none Moves start plies picture none = absurd cc

pub hears_another : (sight : Sight) (start : Parts) (plies : List Ply) (picture : List ℕ) (heard : Option Heard) → is_another sight ≡ true
    → SeesApart start plies picture heard → HearsPicture start plies (shown_at sight picture) heard
hears_another Nothing start plies picture heard some sees = absurd cc
hears_another Again start plies picture heard some sees = absurd cc
hears_another Another start plies picture heard some sees = sees
hears_another Moves start plies picture heard some sees = sees
