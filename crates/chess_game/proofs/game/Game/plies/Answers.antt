use Prim.{search}
use Rattle.std.proofs.Common.{rules}
use Rattle.chess_game.proofs.game.Game.plies.Goals as goal

pub returns-clause-plies : goal.returns-clause-plies
returns-clause-plies c = search rules
