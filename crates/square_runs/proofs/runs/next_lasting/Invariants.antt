use Rattle.std.proofs.Common.{◌≡◌, Some, slice_index}
use Rattle.square_runs.specs.Lasting.{earlier, will_have_lasted}
use Rattle.square_runs.specs.Squares.{first_of}
use Rattle.square_runs.proofs.Walking.{among}
use Rattle.square_runs.proofs.runs.next_lasting.Given as goal

abbrev pub invariant-left : goal.invariant-left
invariant-left l = earlier l.next (first_of (among l.left (λ s. will_have_lasted l.span l.now (Some (slice_index l.since s)))))
    ≡ first_of (among l.last (λ s. will_have_lasted l.span l.now (Some (slice_index l.since s))))

abbrev pub decreases-left : goal.decreases-left
decreases-left l = l.left
