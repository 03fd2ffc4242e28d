use Rattle.std.proofs.Common.{◌≡◌, ℕ, Bool, not, slice_index, ◌∙◌, arith}
use Rattle.board_doubts.specs.Elsewhere.{comes, differs, is_astray, is_of}
use Rattle.board_doubts.proofs.Walking.{nor_astray, none_first, taken_first, taken_last, taken_more}
use Rattle.board_doubts.proofs.elsewhere.astray.Goals as goal

pub left-init : goal.left-init
left-init c =
    let test : ℕ → Bool = is_astray c.args.black c.args.before.now c.args.position.now c.args.picture.now in
    let none = none_first c.args.mask (differs c.args.position.now c.args.picture.now) test c.requires
    (λ s e. nor_astray (is_of c.args.black (slice_index c.args.picture.now s)) (is_of (not c.args.black) (slice_index c.args.picture.now s)) (differs c.args.position.now c.args.picture.now s) (differs c.args.before.now c.args.picture.now s) (not (comes c.args.position.now c.args.picture.now s)) e) in
    taken_first c.args.mask test none

pub left-preserved : goal.left-preserved
left-preserved c =
    let test : ℕ → Bool = is_astray c.args.black c.args.before.now c.args.position.now c.args.picture.now in
    let square = c.first_square-square in
    let rest = c.without-left in
    taken_more c.left.left rest.result square.result c.left.squares c.with_if-squares.result test
    (record { inside = square.ensures.range; cleared = rest.ensures.cleared; others = rest.ensures.others })
    c.left.invariant (c.with_if-squares.ensures.set ∙ c.is_astray-is_here.ensures) c.with_if-squares.ensures.others

pub returns : goal.returns
returns c =
    let test : ℕ → Bool = is_astray c.args.black c.args.before.now c.args.position.now c.args.picture.now in
    let empty : c.left.left ≡ 0 = omega (arith, c.left-test.false) in
    taken_last c.left.left c.left.squares test empty c.left.invariant
