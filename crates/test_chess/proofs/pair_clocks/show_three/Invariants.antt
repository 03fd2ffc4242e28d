use Rattle.std.proofs.Common.{All, ◌<◌}
use Rattle.test_chess.proofs.pair_clocks.show_three.Given as goal

abbrev pub invariant-loop-data : goal.invariant-loop-data
invariant-loop-data l = All (λ code. code < 16) l.picture
