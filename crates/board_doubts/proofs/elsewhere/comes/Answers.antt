use Rattle.std.proofs.Common.{◌≡◌, ◌==◌, ℕ, Bool, slice_index, sym, ◌∙◌, arith}
use Rattle.square_runs.proofs.Squares.{any_some}
use Rattle.board_doubts.specs.Elsewhere.{comes_from, differs}
use Rattle.board_doubts.specs.Ways.{can_go}
use Rattle.board_doubts.proofs.Walking.{none_first, none_last, none_more, nor_there}
use Rattle.board_doubts.proofs.elsewhere.comes.Goals as goal

pub left-init : goal.left-init
left-init c =
    let test : ℕ → Bool = comes_from c.args.position.now c.args.picture.now c.args.square in
    none_first c.args.mask (differs c.args.position.now c.args.picture.now) test c.requires.marks
    (λ s e. nor_there (slice_index c.args.position.now s == slice_index c.args.picture.now c.args.square) (differs c.args.position.now c.args.picture.now s) (can_go (slice_index c.args.picture.now c.args.square) s c.args.square) e)

pub returns-then-is_missing : goal.returns-then-is_missing
returns-then-is_missing c =
    let test : ℕ → Bool = comes_from c.args.position.now c.args.picture.now c.args.square in
    sym (any_some 64 test c.first_square-from.result c.first_square-from.ensures.range (sym c.is_missing.ensures ∙ c.if-is_missing.true))

pub left-preserved : goal.left-preserved
left-preserved c =
    let test : ℕ → Bool = comes_from c.args.position.now c.args.picture.now c.args.square in
    let square = c.first_square-from in
    let rest = c.without-left in
    none_more c.left.left rest.result square.result test
    (record { inside = square.ensures.range; cleared = rest.ensures.cleared; others = rest.ensures.others })
    c.left.invariant (sym c.is_missing.ensures ∙ c.if-is_missing.false)

pub returns : goal.returns
returns c =
    let test : ℕ → Bool = comes_from c.args.position.now c.args.picture.now c.args.square in
    let empty : c.left.left ≡ 0 = omega (arith, c.left-test.false) in
    none_last c.left.left test empty c.left.invariant
