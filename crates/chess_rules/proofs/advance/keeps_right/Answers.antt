use Prim.{search}
use Rattle.std.proofs.Common.{rules}
use Rattle.chess_rules.proofs.advance.keeps_right.Goals as goal

pub returns-then-from-home : goal.returns-then-from-home
returns-then-from-home c = search rules
