use Rattle.unseen_pairs.proofs.Alone.{honest_hands_are_left_alone, honest_hands_confirm_none, plain}
use Rattle.unseen_pairs.proofs.laws.honest_hands_are_left_alone.Goals as goal

pub returns-clause-confirms : goal.returns-clause-confirms
returns-clause-confirms c = honest_hands_confirm_none

pub returns-clause-written : goal.returns-clause-written
returns-clause-written c = honest_hands_are_left_alone

pub returns-clause-plain : goal.returns-clause-plain
returns-clause-plain c = plain
