-- Which squares count.
use Rattle.std.proofs.Common.{◌≡◌, ◌==◌, ◌&&◌, ◌/◌, ◌%◌, not, ℕ, Bool, true, false, List, slice_index, refl, ap, ◌∙◌, arith}
use Rattle.std.specs.Int.{abs_diff}
use Rattle.std.proofs.lemmas.Bool.{eq-eqb}
use Rattle.std.proofs.Math.Bool.{and-false}
use Rattle.square_runs.proofs.Squares.{any_none, any_some}
use Rattle.board_doubts.specs.Elsewhere.{comes, comes_from, differs, elsewhere, may_have_gone}
use Rattle.board_doubts.specs.Laws.{CouldGoBack, NoPawnCounts, ReturnCounts}
use Rattle.board_doubts.specs.Ways.{can_go, files, goes, kind_of, ranks}

swapped : (x y : ℕ) → abs_diff x y ≡ abs_diff y x
swapped x y = omega arith

either_way : (code from to : ℕ) → can_go code from to ≡ can_go code to from
either_way code from to =
    ap (λ n. goes (kind_of code) n (files from to)) (swapped (from / 8) (to / 8)) ∙ ap (goes (kind_of code) (ranks to from)) (swapped (from % 8) (to % 8))

counts : (black : Bool) (position picture : List ℕ) (s home : ℕ) → CouldGoBack black position picture s home → may_have_gone black position picture s ≡ true
counts black position picture s home back =
    ap (λ b. b && comes position picture s) back.stands
    ∙ any_some 64 (comes_from position picture s) home back.low (
    ap (λ b. (b && differs position picture home) && can_go (slice_index picture s) home s) (eq-eqb (slice_index position home) (slice_index picture s) back.its)
    ∙ ap (λ b. b && can_go (slice_index picture s) home s) back.missing
    ∙ either_way (slice_index picture s) home s ∙ back.goes)

pub return_counts : ReturnCounts
return_counts seen black earlier before position picture s home low sees = (
  (λ back new. sees.own s low ∙ ap (λ b. b && differs before picture s) (counts black position picture s home back) ∙ new),
  (λ back. sees.others s low ∙ counts (not black) position picture s home back),
)

no_pawn : (kind ranks files : ℕ) → kind ≡ 1 → goes kind ranks files ≡ false
no_pawn kind ranks files e = ap (λ k. goes k ranks files) e

never : (black : Bool) (position picture : List ℕ) (s : ℕ) → kind_of (slice_index picture s) ≡ 1 → may_have_gone black position picture s ≡ false
never black position picture s pawn =
    ap (λ b. elsewhere black position picture s && b) (any_none 64 (comes_from position picture s) (λ from low.
    let here : Bool = (slice_index position from == slice_index picture s) && differs position picture from in
    ap (λ b. here && b) (no_pawn (kind_of (slice_index picture s)) (ranks from s) (files from s) pawn) ∙ and-false here))
    ∙ and-false (elsewhere black position picture s)

pub no_pawn_counts : NoPawnCounts
no_pawn_counts seen black earlier before position picture s low sees pawn =
    (sees.own s low ∙ ap (λ b. b && differs before picture s) (never black position picture s pawn), sees.others s low ∙ never (not black) position picture s pawn)
