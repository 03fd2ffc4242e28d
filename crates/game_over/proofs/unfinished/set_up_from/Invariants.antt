use Rattle.std.proofs.Common.{◌≡◌, ◌≤◌, ◌+◌, ℕ, true, Some, length}
use Rattle.std.specs.Prelude.{slice_get}
use Rattle.game_over.specs.declared.made.Made.{Made}
use Rattle.game_over.specs.Unfinished.{sets_up}
use Rattle.game_over.proofs.unfinished.set_up_from.Given as goal

abbrev pub invariant-loop-first : goal.invariant-loop-first
invariant-loop-first l = (l.first ≤ length l.moves)
    × ((k : ℕ) (made : Made) → l.first ≤ k → slice_get l.moves k ≡ Some made → sets_up made (slice_get l.moves (k + 1)) ≡ true)

abbrev pub decreases-loop-first : goal.decreases-loop-first
decreases-loop-first l = l.first
