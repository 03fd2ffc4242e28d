use Prim.{search}
use Rattle.std.proofs.Common.{rules}
use Rattle.pgn_book.proofs.writing.put_number.Goals as goal

pub returns-else-is_white : goal.returns-else-is_white
returns-else-is_white g c = search rules
