use Prim.{search}
use Rattle.std.proofs.Common.{rules}
use Rattle.chess_rules.proofs.rules.is_capture.Goals as goal

pub returns-then-names_promotion : goal.returns-then-names_promotion
returns-then-names_promotion c = search rules

pub returns-in_default : goal.returns-in_default
returns-in_default c = search rules
