use Rattle.std.proofs.Common.{◌≡◌}
use Rattle.square_runs.specs.Keeping.{time_of}
use Rattle.square_runs.specs.Lasting.{earlier}
use Rattle.square_runs.specs.Squares.{first_of}
use Rattle.square_runs.proofs.runs.first_since.Given as goal

abbrev pub invariant-left : goal.invariant-left
invariant-left l = earlier l.first (first_of (time_of l.left l.since)) ≡ first_of (time_of l.squares l.since)

abbrev pub decreases-left : goal.decreases-left
decreases-left l = l.left
