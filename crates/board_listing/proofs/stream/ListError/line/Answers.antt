use Rattle.std.proofs.Common.{refl}
use Rattle.board_listing.proofs.stream.ListError.line.Goals as goal

pub returns-in-Memory : goal.returns-in-Memory
returns-in-Memory c = rw c.in-Memory.is refl
