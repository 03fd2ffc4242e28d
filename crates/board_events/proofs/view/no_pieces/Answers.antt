use Rattle.board_events.proofs.ViewLemmas.{zero_codes}
use Rattle.board_events.proofs.view.no_pieces.Goals as goal

pub returns : goal.returns
returns c = zero_codes
