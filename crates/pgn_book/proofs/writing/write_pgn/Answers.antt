use Rattle.std.proofs.Common.{rules}
use Rattle.pgn_book.proofs.writing.write_pgn.Goals as goal

pub returns-then-failed-clause-fault : goal.returns-then-failed-clause-fault
returns-then-failed-clause-fault g c = search rules
