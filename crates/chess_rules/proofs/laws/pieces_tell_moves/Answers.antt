use Rattle.chess_rules.proofs.Tells.{pieces_tell}
use Rattle.chess_rules.proofs.laws.pieces_tell_moves.Goals as goal

pub returns : goal.returns
returns c = pieces_tell
