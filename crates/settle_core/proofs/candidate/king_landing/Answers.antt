use Rattle.std.proofs.Common.{◌≡◌, true, false, get_or, sym, ◌∙◌, arith}
use Rattle.settle_core.specs.Candidate.{lands}
use Rattle.settle_core.proofs.Clearing.{all_cleared, still_cleared}
use Rattle.settle_core.proofs.Visiting.{not_landed}
use Rattle.settle_core.proofs.candidate.king_landing.Goals as goal

pub loop-rest-init : goal.loop-rest-init
loop-rest-init c k low unset =
    not_landed true c.landed-rest.result c.args.before.now c.args.after.now k
    (c.landed-rest.ensures c.args.before.now c.args.after.now c.requires.differ c.requires.shown) low unset

pub loop-rest-preserved : goal.loop-rest-preserved
loop-rest-preserved c =
    still_cleared (λ k. lands true (get_or c.args.before.now k 0) (get_or c.args.after.now k 0) ≡ false)
    c.loop-rest.rest c.without-rest.result c.first_square-square.result c.without-rest.ensures.others
    (sym c.lands.ensures ∙ c.if-lands.false) c.loop-rest.invariant

pub returns-clause-none : goal.returns-clause-none
returns-clause-none c =
    all_cleared (λ k. lands true (get_or c.args.before.now k 0) (get_or c.args.after.now k 0) ≡ false)
    c.loop-rest.rest (omega arith) c.loop-rest.invariant
