use Rattle.recovery.proofs.InventedLemmas.{plies_are_shown_or_told}
use Rattle.recovery.proofs.laws.plies_are_shown_or_told.Goals as goal

pub returns : goal.returns
returns c = plies_are_shown_or_told c.recovers_once.ensures.score c.nothing_is_invented.ensures
