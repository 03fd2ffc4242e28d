use Rattle.board_listing.proofs.IdleLemmas.{idle_events_tell_nothing}
use Rattle.board_listing.proofs.laws.idle_events_tell_nothing.Goals as goal

pub returns : goal.returns
returns c = idle_events_tell_nothing
