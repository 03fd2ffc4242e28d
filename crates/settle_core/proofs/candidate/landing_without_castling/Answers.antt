use Rattle.settle_core.proofs.Steps.{none_map}
use Rattle.settle_core.proofs.candidate.landing_without_castling.Goals as goal

pub returns-clause-none : goal.returns-clause-none
returns-clause-none c = none_map c.landing.result (λ none few. none) c.landing.ensures.none
