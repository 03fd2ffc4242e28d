use Prim.{search}
use Rattle.std.proofs.Common.{rules}
use Rattle.board_listing.proofs.stream.ListError.status.Goals as goal

pub returns-in-TooLong : goal.returns-in-TooLong
returns-in-TooLong c = search rules
