use Rattle.std.proofs.Common.{◌≡◌, ◌==◌, ◌&&◌, ℕ, Bool, slice_index, sym, ◌∙◌, arith}
use Rattle.square_runs.proofs.Squares.{any_some}
use Rattle.board_doubts.specs.Elsewhere.{differs, is_of}
use Rattle.board_doubts.proofs.Walking.{none_first, none_last, none_more, nor_lifted}
use Rattle.board_doubts.proofs.elsewhere.is_lifted.Goals as goal

pub left-init : goal.left-init
left-init c =
    let test : ℕ → Bool = λ s. is_of c.args.black (slice_index c.args.position.now s) && (slice_index c.args.picture.now s == 0) in
    none_first c.args.mask (differs c.args.position.now c.args.picture.now) test c.requires
    (λ s e. nor_lifted c.args.black (slice_index c.args.position.now s) (slice_index c.args.picture.now s) e)

pub returns-then-is_in_hand : goal.returns-then-is_in_hand
returns-then-is_in_hand c =
    let test : ℕ → Bool = λ s. is_of c.args.black (slice_index c.args.position.now s) && (slice_index c.args.picture.now s == 0) in
    sym (any_some 64 test c.first_square-square.result c.first_square-square.ensures.range (sym c.is_in_hand.ensures ∙ c.if-is_in_hand.true))

pub left-preserved : goal.left-preserved
left-preserved c =
    let test : ℕ → Bool = λ s. is_of c.args.black (slice_index c.args.position.now s) && (slice_index c.args.picture.now s == 0) in
    let square = c.first_square-square in
    let rest = c.without-left in
    none_more c.left.left rest.result square.result test
    (record { inside = square.ensures.range; cleared = rest.ensures.cleared; others = rest.ensures.others })
    c.left.invariant (sym c.is_in_hand.ensures ∙ c.if-is_in_hand.false)

pub returns : goal.returns
returns c =
    let test : ℕ → Bool = λ s. is_of c.args.black (slice_index c.args.position.now s) && (slice_index c.args.picture.now s == 0) in
    let empty : c.left.left ≡ 0 = omega (arith, c.left-test.false) in
    none_last c.left.left test empty c.left.invariant
