use Prim.{search}
use Rattle.std.proofs.Common.{rules}
use Rattle.board_listing.proofs.printer.Printer.end.Goals as goal

pub returns-in-Events : goal.returns-in-Events
returns-in-Events c = search rules
