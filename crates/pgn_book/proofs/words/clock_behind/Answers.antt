use Prim.{search}
use Rattle.std.proofs.Common.{rules}
use Rattle.pgn_book.proofs.words.clock_behind.Goals as goal

pub returns-in-Some : goal.returns-in-Some
returns-in-Some c = search rules
