use Rattle.replay_arguments.proofs.ArgumentLemmas.{add_asks, back_asks, instead_asks}
use Rattle.replay_arguments.proofs.laws.edits_with_a_text.Goals as goal

pub returns-clause-adds : goal.returns-clause-adds
returns-clause-adds c = add_asks

pub returns-clause-goes_back : goal.returns-clause-goes_back
returns-clause-goes_back c = back_asks

pub returns-clause-replaces : goal.returns-clause-replaces
returns-clause-replaces c = instead_asks
