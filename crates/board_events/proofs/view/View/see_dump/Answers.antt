use Prim.{search}
use Rattle.std.proofs.Common.{rules}
use Rattle.board_events.proofs.view.View.see_dump.Goals as goal

pub returns-clause-shown : goal.returns-clause-shown
returns-clause-shown c = search rules
