use Rattle.settle_core.proofs.Ending.{honest_play_ends, honest_play_stops_anywhere}
use Rattle.settle_core.proofs.laws.honest_play_stops_anywhere.Goals as goal

pub returns-clause-ends : goal.returns-clause-ends
returns-clause-ends c = honest_play_ends

pub returns-clause-stops : goal.returns-clause-stops
returns-clause-stops c = honest_play_stops_anywhere
