use Rattle.replay_arguments.proofs.ArgumentLemmas.{check_asks, follow_asks, live_asks, moves_asks, pictures_asks, positions_asks, record_asks, recover_asks, show_asks, times_asks, watch_asks}
use Rattle.replay_arguments.proofs.laws.without_options.Goals as goal

pub returns-clause-shows : goal.returns-clause-shows
returns-clause-shows c = show_asks

pub returns-clause-pictures : goal.returns-clause-pictures
returns-clause-pictures c = pictures_asks

pub returns-clause-records : goal.returns-clause-records
returns-clause-records c = record_asks

pub returns-clause-follows : goal.returns-clause-follows
returns-clause-follows c = follow_asks

pub returns-clause-watches : goal.returns-clause-watches
returns-clause-watches c = watch_asks

pub returns-clause-recovers : goal.returns-clause-recovers
returns-clause-recovers c = recover_asks

pub returns-clause-attends : goal.returns-clause-attends
returns-clause-attends c = live_asks

pub returns-clause-checks : goal.returns-clause-checks
returns-clause-checks c = check_asks

pub returns-clause-times : goal.returns-clause-times
returns-clause-times c = times_asks

pub returns-clause-moves : goal.returns-clause-moves
returns-clause-moves c = moves_asks

pub returns-clause-positions : goal.returns-clause-positions
returns-clause-positions c = positions_asks
