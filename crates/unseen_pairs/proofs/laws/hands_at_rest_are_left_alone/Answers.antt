use Rattle.unseen_pairs.proofs.AtRest.{hands_at_rest_are_left_alone, hands_at_rest_confirm_none}
use Rattle.unseen_pairs.proofs.laws.hands_at_rest_are_left_alone.Goals as goal

pub returns-clause-confirms : goal.returns-clause-confirms
returns-clause-confirms c = hands_at_rest_confirm_none

pub returns-clause-written : goal.returns-clause-written
returns-clause-written c = hands_at_rest_are_left_alone
