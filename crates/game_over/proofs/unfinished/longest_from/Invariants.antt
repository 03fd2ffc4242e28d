use Rattle.game_over.proofs.Tails.{Best}
use Rattle.game_over.proofs.unfinished.longest_from.Given as goal

abbrev pub invariant-loop-i : goal.invariant-loop-i
invariant-loop-i l = Best l.first l.i l.kept l.time l.moves
