use Rattle.board_session.proofs.GameLemmas.{no_event_gives_two}
use Rattle.board_session.proofs.laws.no_event_gives_two.Goals as goal

pub returns : goal.returns
returns c = no_event_gives_two
