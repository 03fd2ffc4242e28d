use Prim.{search}
use Rattle.std.proofs.Common.{rules}
use Rattle.chess_game.proofs.game.Game.result.Goals as goal

pub returns : goal.returns
returns c = search rules
