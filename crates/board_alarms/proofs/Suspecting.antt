-- What is suspected.
use Rattle.std.proofs.Common.{inl, inr, ℕ, List, [], ◌∷◌, ◌++◌, refl}
use Rattle.board_alarms.specs.declared.look.Look.TheVariants.{Suspected}
use Rattle.board_alarms.specs.declared.look.Told.{Told}
use Rattle.board_alarms.specs.declared.look.Told.TheVariants.{Suspects}
use Rattle.board_alarms.specs.Looking.{IsRaised, NobodyLooks, SuspectedStaysOpen}
use Rattle.board_alarms.proofs.Opening.{is_open}

is_raised : (n : ℕ) (past later : List Told) → NobodyLooks later → IsRaised (Suspected n) (later ++ Suspects n ∷ past)
is_raised n past [] nobody = inl (inl refl)
is_raised n past (told ∷ later) nobody = inr (nobody.0, is_raised n past later nobody.1)

pub suspected_stays_open : SuspectedStaysOpen
suspected_stays_open n past later nobody = is_open (Suspected n) (later ++ Suspects n ∷ past) (is_raised n past later nobody)
