use Prim.{search}
use Rattle.std.proofs.Common.{rules}
use Rattle.pgn_book.proofs.writing.is_initial.Goals as goal

pub returns : goal.returns
returns c = search rules
