use Prim.{search}
use Rattle.std.proofs.Common.{rules}
use Rattle.board_session.proofs.laws.read_recorded.Goals as goal

pub returns : goal.returns
returns c = search rules
