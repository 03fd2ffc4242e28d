-- Which result is told.
use Rattle.std.proofs.Common.{◌≡◌, ◌≢◌, ◌⊎◌, inl, inr, Bool, true, false, Option, Some, None, refl, sym}
use Rattle.settle_core.specs.declared.plies.Outcome.{Outcome as Result}
use Rattle.settle_core.specs.declared.plies.Outcome.TheVariants.{WhiteWins as WhiteWon, BlackWins as BlackWon, Drawn}
use Rattle.game_over.specs.declared.happened.Happening.{Happening}
use Rattle.game_over.specs.declared.happened.Happening.TheVariants.{Declares}
use Rattle.game_over.specs.declared.happened.Outcome.{Outcome}
use Rattle.game_over.specs.declared.happened.Outcome.TheVariants.{WhiteWins, BlackWins, Draw}
use Rattle.board_endings.specs.Meaning.{IsSame, ResultsAreTold}
use Rattle.board_endings.specs.Telling.{TellsResult, outcome_of}

same : (result : Result) → IsSame result (outcome_of result)
same WhiteWon = refl
same BlackWon = refl
same Drawn = refl

declared : (added : Bool) (before : Option Result) (result : Result) (told : Option Happening) → before ≢ Some result
    → TellsResult added None before (Some result) told → told ≡ Some (Declares (outcome_of result) added)
declared added before result told new (inl h) = absurd (new (sym h.0))
declared added before result told new (inr h) = h.1

still : (added : Bool) (before : Option Result) (told : Option Happening) → TellsResult added None before before told → told ≡ None
still added before told (inl h) = h.1
still added before told (inr h) = absurd (h.0 refl)

pub results_are_told : ResultsAreTold
results_are_told added move before result told = (
  (λ h. (outcome_of result, same result, h)),
  (λ new h. (outcome_of result, same result, declared added before result told new h)),
  still added before told,
)
