-- Whatever happens later, the turns up to now are the same.
use Rattle.std.proofs.Common.{[], ◌∷◌, ap}
use Rattle.board_cable.proofs.Once.{turns_once}
use Rattle.board_live.specs.Laws.{LaterChangesNothing}
use Rattle.board_live.specs.Moments.{cabled}

pub changes_nothing : LaterChangesNothing
changes_nothing [] past turns others g h = ([], turns_once (cabled past) turns others g h)
changes_nothing (m ∷ later) past [] others g h = absurd g
changes_nothing (m ∷ later) past (turn ∷ turns) others g h =
    let rest = changes_nothing later past turns others g.0 h in
    (turn ∷ rest.0, ap (λ x. turn ∷ x) rest.1)
