use Rattle.std.proofs.Common.{◌↔◌, drop}
use Rattle.settle_core.specs.Settling.{Line}
use Rattle.settle_core.specs.Folding.{moves_of}
use Rattle.chess_game.proofs.game.Game.is_line.Given as goal

abbrev pub invariant-loop-ply : goal.invariant-loop-ply
invariant-loop-ply l = Line l.start (moves_of l.plies) ↔ Line l.position (moves_of (drop l.ply-index l.plies))
