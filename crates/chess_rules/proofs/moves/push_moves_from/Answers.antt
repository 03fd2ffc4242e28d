use Rattle.std.proofs.Common.{◌+◌, arith}
use Rattle.chess_rules.specs.Inside.Places.{first_place}
use Rattle.chess_rules.proofs.Listing.{lists_at, lists_pass}
use Rattle.chess_rules.proofs.Passing.{none_from}
use Rattle.chess_rules.proofs.moves.push_moves_from.Goals as goal

pub returns-in_default-clause-listed : goal.returns-in_default-clause-listed
returns-in_default-clause-listed c =
    lists_pass c.args.parts.now c.args.moves.now.items _ _ (omega arith)
    (none_from c.args.parts.now c.args.from c.requires.valid c.in_default.ensures.none) c.requires.below

pub loop-to-preserved : goal.loop-to-preserved
loop-to-preserved c =
    lists_at c.args.parts.now c.push_moves_to.new.moves.items (first_place c.args.from c.square_at.result + 5) _ (omega arith) c.in_ok-push_moves_to.ensures.listed
