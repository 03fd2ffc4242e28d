use Prim.{search}
use Rattle.std.proofs.Common.{rules}
use Rattle.board_listing.proofs.printer.Printer.new.Goals as goal

pub returns-in-Pictures : goal.returns-in-Pictures
returns-in-Pictures c = search rules
