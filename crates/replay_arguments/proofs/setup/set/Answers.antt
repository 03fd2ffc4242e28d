use Rattle.std.proofs.Common.{refl}
use Rattle.replay_arguments.proofs.SetupLemmas.{none_given}
use Rattle.replay_arguments.proofs.setup.set.Goals as goal

pub returns-in-None-clause-set : goal.returns-in-None-clause-set
returns-in-None-clause-set c = rw c.in-None.is (none_given c.args.tag c.args.tags.now)

pub returns-in-None-clause-may : goal.returns-in-None-clause-may
returns-in-None-clause-may c = rw c.in-None.is tt

pub returns-in-None-clause-refused : goal.returns-in-None-clause-refused
returns-in-None-clause-refused c = tt

pub returns-in-Ok-clause-set : goal.returns-in-Ok-clause-set
returns-in-Ok-clause-set c = rw c.in-Some.is c.in-Ok.ensures.set

pub returns-in-Ok-clause-may : goal.returns-in-Ok-clause-may
returns-in-Ok-clause-may c = rw c.in-Some.is c.in-Ok.ensures.valid

pub returns-in-Ok-clause-refused : goal.returns-in-Ok-clause-refused
returns-in-Ok-clause-refused c = tt

pub returns-in-Err-clause-set : goal.returns-in-Err-clause-set
returns-in-Err-clause-set c = tt

pub returns-in-Err-clause-may : goal.returns-in-Err-clause-may
returns-in-Err-clause-may c = tt

pub returns-in-Err-clause-refused : goal.returns-in-Err-clause-refused
returns-in-Err-clause-refused c = (c.in-Err.error, refl, rw c.in-Some.is c.in-Err.ensures.refused)
