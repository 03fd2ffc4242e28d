use Rattle.settle_core.proofs.Returning.{made_again_stops, taken_back_and_made_again, whole_move_is_within_turn}
use Rattle.settle_core.proofs.laws.moves_may_be_made_again.Goals as goal

pub returns-clause-whole : goal.returns-clause-whole
returns-clause-whole c = whole_move_is_within_turn

pub returns-clause-folds : goal.returns-clause-folds
returns-clause-folds c = taken_back_and_made_again

pub returns-clause-stops : goal.returns-clause-stops
returns-clause-stops c = made_again_stops
