use Rattle.std.proofs.Common.{All, ◌<◌, ◌≡◌, true}
use Rattle.settle_core.specs.Settler.{has_seen}
use Rattle.test_chess.proofs.games.play.Given as goal

abbrev pub invariant-loop-i : goal.invariant-loop-i
invariant-loop-i l = (has_seen l.by_updates ≡ true) × All (λ code. code < 16) l.picture
