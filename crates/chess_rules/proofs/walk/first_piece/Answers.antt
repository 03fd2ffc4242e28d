use Rattle.std.proofs.Common.{arith, refl}
use Rattle.chess_rules.proofs.Seeing.{walk_start, walk_step, walk_first, walk_edge, walk_far}
use Rattle.chess_rules.proofs.walk.first_piece.Goals as goal

pub loop-steps-init : goal.loop-steps-init
loop-steps-init c = walk_start _ _ _ c.requires

pub neighbour-requires : goal.neighbour-requires
neighbour-requires c = c.loop-steps.invariant.on_board

pub returns-in_default-clause-none : goal.returns-in_default-clause-none
returns-in_default-clause-none c = walk_edge _ _ _ _ _ c.loop-steps.invariant (c.in_default.ensures.none.0 refl)

pub returns-in-Some-board-clause-some : goal.returns-in-Some-board-clause-some
returns-in-Some-board-clause-some c =
    walk_first _ _ _ _ _ _ _ c.loop-steps.invariant c.in-Some.ensures.in_range c.in-Some.ensures.ahead c.in-Some-board.is

pub loop-steps-preserved : goal.loop-steps-preserved
loop-steps-preserved c =
    walk_step _ _ _ _ _ _ c.loop-steps.invariant c.in-Some.ensures.in_range c.in-Some.ensures.ahead c.in_default-board.is

pub returns-clause-none : goal.returns-clause-none
returns-clause-none c = walk_far _ _ _ _ _ c.loop-steps.invariant (omega arith) c.requires
