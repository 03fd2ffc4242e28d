use Rattle.std.proofs.Common.{◌≡◌, ◌&&◌, ℕ, Bool, slice_index, ◌∙◌, arith}
use Rattle.board_doubts.specs.Elsewhere.{comes, differs, is_of, may_have_gone}
use Rattle.board_doubts.proofs.Walking.{nor_new, none_first, taken_first, taken_last, taken_more}
use Rattle.board_doubts.proofs.elsewhere.gone_to.Goals as goal

pub left-init : goal.left-init
left-init c =
    let test : ℕ → Bool = λ s. may_have_gone c.args.black c.args.position.now c.args.picture.now s && differs c.args.other.now c.args.picture.now s in
    let none = none_first c.args.mask (differs c.args.position.now c.args.picture.now) test c.requires
    (λ s e. nor_new (is_of c.args.black (slice_index c.args.picture.now s)) (differs c.args.position.now c.args.picture.now s) (comes c.args.position.now c.args.picture.now s) (differs c.args.other.now c.args.picture.now s) e) in
    taken_first c.args.mask test none

pub left-preserved : goal.left-preserved
left-preserved c =
    let test : ℕ → Bool = λ s. may_have_gone c.args.black c.args.position.now c.args.picture.now s && differs c.args.other.now c.args.picture.now s in
    let square = c.first_square-square in
    let rest = c.without-left in
    taken_more c.left.left rest.result square.result c.left.squares c.with_if-squares.result test
    (record { inside = square.ensures.range; cleared = rest.ensures.cleared; others = rest.ensures.others })
    c.left.invariant (c.with_if-squares.ensures.set ∙ c.is_new_there-is_here.ensures) c.with_if-squares.ensures.others

pub returns : goal.returns
returns c =
    let test : ℕ → Bool = λ s. may_have_gone c.args.black c.args.position.now c.args.picture.now s && differs c.args.other.now c.args.picture.now s in
    let empty : c.left.left ≡ 0 = omega (arith, c.left-test.false) in
    taken_last c.left.left c.left.squares test empty c.left.invariant
