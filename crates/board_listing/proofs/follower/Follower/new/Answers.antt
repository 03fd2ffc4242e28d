use Prim.{search}
use Rattle.std.proofs.Common.{rules}
use Rattle.board_listing.proofs.follower.Follower.new.Goals as goal

pub returns : goal.returns
returns c = search rules
