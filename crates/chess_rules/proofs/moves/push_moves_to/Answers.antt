use Rattle.std.proofs.Common.{◌+◌, arith}
use Rattle.std.proofs.lemmas.Bool.{both_ways}
use Rattle.chess_rules.specs.Inside.Places.{first_place, ListsBelow}
use Rattle.chess_rules.proofs.Listing.{lists_at, lists_pass}
use Rattle.chess_rules.proofs.moves.push_moves_to.Goals as goal

pub returns-then-not-may_go-clause-listed : goal.returns-then-not-may_go-clause-listed
returns-then-not-may_go-clause-listed c =
    lists_pass c.args.parts.now c.args.moves.now.items _ _ (omega arith) (c.may_go.ensures (λ t. both_ways _ c.if-not-may_go.true t)) c.requires.below

pub push_legal-requires-clause-below : goal.push_legal-requires-clause-below
push_legal-requires-clause-below c = lists_at c.args.parts.now c.args.moves.now.items _ _ (omega arith) c.requires.below

pub returns-else-promotes-clause-listed : goal.returns-else-promotes-clause-listed
returns-else-promotes-clause-listed c =
    let n = first_place c.args.from c.args.to in
    let moves = c.push_legal.new.moves.items in
    let here : ListsBelow c.args.parts.now moves (n + 1) = lists_at c.args.parts.now moves (n + 0 + 1) (n + 1) (omega arith) c.in_ok-push_legal.ensures.listed in
    lists_pass c.args.parts.now moves (n + 1) (n + 5) (omega arith) (c.promotes.ensures (λ t. both_ways _ c.if-promotes.false t)) here

pub push_legal-requires-then-promotes-clause-below : goal.push_legal-requires-then-promotes-clause-below
push_legal-requires-then-promotes-clause-below c = lists_at c.args.parts.now c.push_legal.new.moves.items _ _ (omega arith) c.in_ok-push_legal.ensures.listed

pub push_legal-requires-then-promotes-2-clause-below : goal.push_legal-requires-then-promotes-2-clause-below
push_legal-requires-then-promotes-2-clause-below c = lists_at c.args.parts.now c.push_legal-then-promotes.new.moves.items _ _ (omega arith) c.in_ok-push_legal-2.ensures.listed

pub push_legal-requires-then-promotes-3-clause-below : goal.push_legal-requires-then-promotes-3-clause-below
push_legal-requires-then-promotes-3-clause-below c = lists_at c.args.parts.now c.push_legal-then-promotes-2.new.moves.items _ _ (omega arith) c.in_ok-push_legal-3.ensures.listed

pub push_legal-requires-then-promotes-4-clause-below : goal.push_legal-requires-then-promotes-4-clause-below
push_legal-requires-then-promotes-4-clause-below c = lists_at c.args.parts.now c.push_legal-then-promotes-3.new.moves.items _ _ (omega arith) c.in_ok-push_legal-4.ensures.listed

pub returns-in_ok-push_legal-5-clause-listed : goal.returns-in_ok-push_legal-5-clause-listed
returns-in_ok-push_legal-5-clause-listed c = lists_at c.args.parts.now c.push_legal-then-promotes-4.new.moves.items _ _ (omega arith) c.in_ok-push_legal-5.ensures.listed
