use Prim.{search}
use Rattle.std.proofs.Common.{rules}
use Rattle.chess_game.proofs.tags.Tags.new.Goals as goal

pub returns : goal.returns
returns c = search rules
