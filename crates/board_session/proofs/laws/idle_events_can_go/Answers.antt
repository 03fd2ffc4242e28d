use Rattle.board_session.proofs.LawLemmas.{idle_events_can_go}
use Rattle.board_session.proofs.laws.idle_events_can_go.Goals as goal

pub returns : goal.returns
returns c = idle_events_can_go
