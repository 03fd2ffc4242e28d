use Rattle.unseen_pairs.proofs.Landing.{ends_landed, ends_shown}
use Rattle.unseen_pairs.proofs.beginning.first_targets.Goals as goal

pub returns-then-lands_theirs : goal.returns-then-lands_theirs
returns-then-lands_theirs c diff =
    ends_landed c.args.p.now c.args.seen.now c.landed.result c.parts.ensures.valid
    (c.landed.ensures _ _ diff c.shown_in-shown.ensures) (c.lands_theirs.ensures c.if-lands_theirs.true diff)

pub returns-else-lands_theirs : goal.returns-else-lands_theirs
returns-else-lands_theirs c diff = ends_shown c.args.p.now c.args.seen.now c.shown_in-shown.result c.parts.ensures.valid c.shown_in-shown.ensures
