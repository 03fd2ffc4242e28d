use Rattle.std.proofs.Common.{arith}
use Rattle.std.proofs.lemmas.Bool.{iff_false}
use Rattle.chess_rules.specs.declared.chess_move.Move.{Move}
use Rattle.chess_rules.specs.Legal.{Legal}
use Rattle.chess_rules.proofs.Listing.{lists_more, lists_skip, on_err}
use Rattle.chess_rules.proofs.moves.push_legal.Goals as goal

pub returns-in_ok-push-clause-listed : goal.returns-in_ok-push-clause-listed
returns-in_ok-push-clause-listed c =
    let m : Move = record { from = c.args.from; to = c.args.to; promotion = c.args.promotion } in
    rw c.in_ok-push.ensures.items
    (lists_more c.args.parts.now c.args.moves.now.items m c.requires.valid.squares c.requires.below (c.is_legal_in.ensures.0 c.if-is_legal_in.true))

pub returns-else-is_legal_in-clause-listed : goal.returns-else-is_legal_in-clause-listed
returns-else-is_legal_in-clause-listed c =
    let m : Move = record { from = c.args.from; to = c.args.to; promotion = c.args.promotion } in
    lists_skip c.args.parts.now c.args.moves.now.items m c.requires.valid.squares
    (record { from = omega arith; to = omega arith; promotion = c.requires.named }) c.requires.below
    (iff_false c.is_legal_in.ensures c.if-is_legal_in.false)

pub returns-in_err-push-clause-memory : goal.returns-in_err-push-clause-memory
returns-in_err-push-clause-memory c =
    let m : Move = record { from = c.args.from; to = c.args.to; promotion = c.args.promotion } in
    on_err ((x : Move) × Legal c.args.parts.now x) c.from_residual.result (m, c.is_legal_in.ensures.0 c.if-is_legal_in.true)
