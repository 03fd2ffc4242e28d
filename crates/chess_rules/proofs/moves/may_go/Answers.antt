use Rattle.std.proofs.Common.{arith}
use Rattle.std.proofs.lemmas.Bool.{iff_false}
use Rattle.chess_rules.proofs.Passing.{none_reach, none_taken}
use Rattle.chess_rules.proofs.moves.may_go.Goals as goal

pub returns-then-not-may_reach : goal.returns-then-not-may_reach
returns-then-not-may_reach c = λ _.
    none_reach c.args.parts.now c.args.from c.args.to c.args.kind c.requires.valid (omega arith) c.requires.stands
    (iff_false c.may_reach.ensures c.if-not-may_reach.true)

pub returns-in-Some : goal.returns-in-Some
returns-in-Some c = λ _. none_taken c.args.parts.now c.args.from c.args.to c.in-Some.field-0 c.requires.valid (omega arith) c.in-Some.ensures.some
