use Rattle.std.proofs.Common.{All, ◌<◌}
use Rattle.test_chess.proofs.pair_clocks.with_updates.Given as goal

abbrev pub invariant-loop-field : goal.invariant-loop-field
invariant-loop-field l = All (λ code. code < 16) l.picture
