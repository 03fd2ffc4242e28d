use Rattle.std.proofs.Common.{arith}
use Rattle.chess_rules.proofs.Passing.{none_promotion}
use Rattle.chess_rules.proofs.moves.promotes.Goals as goal

pub returns : goal.returns
returns c = λ no.
    none_promotion c.args.parts.now c.args.from c.args.to c.args.kind c.requires.valid (omega arith) c.requires.stands
    (λ h. no (c.may_promote.ensures.1 h))
