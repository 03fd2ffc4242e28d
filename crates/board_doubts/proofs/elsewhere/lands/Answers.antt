use Rattle.std.proofs.Common.{◌≡◌, ◌==◌, ◌&&◌, ℕ, Bool, not, slice_index, sym, ◌∙◌, arith}
use Rattle.square_runs.proofs.Squares.{any_some}
use Rattle.board_doubts.specs.Elsewhere.{differs}
use Rattle.board_doubts.proofs.Walking.{none_first, none_last, none_more, other_last}
use Rattle.board_doubts.proofs.elsewhere.lands.Goals as goal

pub left-init : goal.left-init
left-init c =
    let test : ℕ → Bool = λ s. not (slice_index c.args.picture.now s == 0) && not (slice_index c.args.picture.now s == slice_index c.args.position.now s) in
    none_first c.args.mask (differs c.args.position.now c.args.picture.now) test c.requires
    (λ s e. other_last (slice_index c.args.position.now s) (slice_index c.args.picture.now s) e)

pub returns-then-is_other : goal.returns-then-is_other
returns-then-is_other c =
    let test : ℕ → Bool = λ s. not (slice_index c.args.picture.now s == 0) && not (slice_index c.args.picture.now s == slice_index c.args.position.now s) in
    sym (any_some 64 test c.first_square-square.result c.first_square-square.ensures.range (sym c.is_other.ensures ∙ c.if-is_other.true))

pub left-preserved : goal.left-preserved
left-preserved c =
    let test : ℕ → Bool = λ s. not (slice_index c.args.picture.now s == 0) && not (slice_index c.args.picture.now s == slice_index c.args.position.now s) in
    let square = c.first_square-square in
    let rest = c.without-left in
    none_more c.left.left rest.result square.result test
    (record { inside = square.ensures.range; cleared = rest.ensures.cleared; others = rest.ensures.others })
    c.left.invariant (sym c.is_other.ensures ∙ c.if-is_other.false)

pub returns : goal.returns
returns c =
    let test : ℕ → Bool = λ s. not (slice_index c.args.picture.now s == 0) && not (slice_index c.args.picture.now s == slice_index c.args.position.now s) in
    let empty : c.left.left ≡ 0 = omega (arith, c.left-test.false) in
    none_last c.left.left test empty c.left.invariant
