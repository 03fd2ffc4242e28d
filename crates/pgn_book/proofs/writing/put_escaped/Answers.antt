use Prim.{search}
use Rattle.std.proofs.Common.{rules}
use Rattle.pgn_book.proofs.writing.put_escaped.Goals as goal

pub returns-then-byte-eq92-clause-adds : goal.returns-then-byte-eq92-clause-adds
returns-then-byte-eq92-clause-adds g c = search rules
