use Prim.{search}
use Rattle.std.proofs.Common.{rules}
use Rattle.board_events.proofs.session.Session.reading.Goals as goal

pub returns : goal.returns
returns c = search rules
