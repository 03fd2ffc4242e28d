use Rattle.settle_core.proofs.Candidates.{between, few}
use Rattle.unseen_pairs.proofs.settled.candidate_in.Goals as goal

pub returns-then-is_no_move : goal.returns-then-is_no_move
returns-then-is_no_move c e m s =
    absurd (few c.args.p.now m c.args.before.now c.args.seen.now c.diff_mask-mask.result
    (between c.args.p.now m c.args.before.now c.args.seen.now c.parts.ensures.valid e s)
    c.told-before c.told-seen c.is_no_move.ensures.fits c.diff_mask-mask.ensures (c.is_no_move.ensures.no_move c.if-is_no_move.true))
