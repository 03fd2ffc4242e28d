use Rattle.std.proofs.Common.{All, ◌<◌}
use Rattle.test_chess.proofs.shown_games.play.Given as goal

abbrev pub invariant-loop-i : goal.invariant-loop-i
invariant-loop-i l = All (λ code. code < 16) l.picture
