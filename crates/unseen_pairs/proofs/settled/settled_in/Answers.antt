use Rattle.unseen_pairs.proofs.settled.settled_in.Goals as goal

pub returns-then-settles-clause-some : goal.returns-then-settles-clause-some
returns-then-settles-clause-some c = c.settles.ensures.0 c.if-settles.true
