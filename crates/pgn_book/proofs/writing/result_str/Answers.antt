use Prim.{search}
use Rattle.std.proofs.Common.{rules}
use Rattle.pgn_book.proofs.writing.result_str.Goals as goal

pub returns-in-Some-Drawn-clause-text : goal.returns-in-Some-Drawn-clause-text
returns-in-Some-Drawn-clause-text c = search rules
