use Prim.{search}
use Rattle.std.proofs.Common.{rules}
use Rattle.chess_game.proofs.values.check_value.Goals as goal

pub returns-then-not-suits-clause-err : goal.returns-then-not-suits-clause-err
returns-then-not-suits-clause-err c = search rules

pub returns-clause-ok : goal.returns-clause-ok
returns-clause-ok c = search rules
