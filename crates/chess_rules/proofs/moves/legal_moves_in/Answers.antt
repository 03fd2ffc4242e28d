use Rattle.std.proofs.Common.{arith}
use Rattle.chess_rules.proofs.Listing.{lists_at, lists_all}
use Rattle.chess_rules.proofs.moves.legal_moves_in.Goals as goal

pub returns-clause-listed : goal.returns-clause-listed
returns-clause-listed c =
    lists_all c.args.parts.now c.loop-from.moves.items c.requires.squares
    (lists_at c.args.parts.now c.loop-from.moves.items _ 20480 (omega arith) c.loop-from.invariant)

pub returns-clause-memory : goal.returns-clause-memory
returns-clause-memory c = tt
