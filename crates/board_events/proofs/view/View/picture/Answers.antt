use Rattle.board_events.proofs.ViewLemmas.{view_last}
use Rattle.board_events.proofs.view.View.picture.Goals as goal

pub returns-clause-last : goal.returns-clause-last
returns-clause-last c = view_last c.args.self.now
