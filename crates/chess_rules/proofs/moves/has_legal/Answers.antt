use Rattle.std.proofs.Common.{arith}
use Rattle.chess_rules.specs.declared.chess_move.Move.{Move}
use Rattle.chess_rules.proofs.Listing.{none_one}
use Rattle.chess_rules.proofs.moves.has_legal.Goals as goal

pub returns-clause-none : goal.returns-clause-none
returns-clause-none c = λ no.
    let m : Move = record { from = c.args.from; to = c.args.to; promotion = c.args.promotion } in
    none_one c.args.parts.now m c.requires.valid.squares (record { from = omega arith; to = omega arith; promotion = c.requires.named })
    (λ l. no (c.is_legal_in.ensures.1 l))
