use Rattle.answer_lines.proofs.SquareLemmas.{none_below, one_more}
use Rattle.answer_lines.proofs.writing.add_squares.Goals as goal

pub loop-square-init : goal.loop-square-init
loop-square-init c = none_below c.args.out.now.items c.args.mask

pub loop-square-preserved : goal.loop-square-preserved
loop-square-preserved c =
    one_more c.loop-square.square c.args.mask c.args.out.now.items c.loop-square.out.items c.add_square.new.out.items c.loop-square.invariant
    c.in_ok-add_square.ensures
