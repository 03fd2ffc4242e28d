use Rattle.std.proofs.Common.{◌≡◌, false, get_or, sym, ◌∙◌, arith}
use Rattle.settle_core.specs.Inside.Reading.{leaves}
use Rattle.settle_core.proofs.Clearing.{all_cleared, still_cleared}
use Rattle.settle_core.proofs.Visiting.{unset_same, no_leaving}
use Rattle.settle_core.proofs.candidate.leaving.Goals as goal

pub loop-rest-init : goal.loop-rest-init
loop-rest-init c k low unset = no_leaving c.args.code _ _ c.requires.some_piece (unset_same c.args.mask c.args.before.now c.args.after.now k c.requires.differ low unset)

pub loop-rest-preserved : goal.loop-rest-preserved
loop-rest-preserved c =
    still_cleared (λ k. leaves c.args.code (get_or c.args.before.now k 0) (get_or c.args.after.now k 0) ≡ false)
    c.loop-rest.rest c.without-rest.result c.first_square-square.result c.without-rest.ensures.others
    (sym c.leaves.ensures ∙ c.if-leaves.false) c.loop-rest.invariant

pub returns-clause-none : goal.returns-clause-none
returns-clause-none c =
    all_cleared (λ k. leaves c.args.code (get_or c.args.before.now k 0) (get_or c.args.after.now k 0) ≡ false)
    c.loop-rest.rest (omega arith) c.loop-rest.invariant
