use Rattle.std.proofs.Common.{ap, sym, length, subst, ◌∙◌}
use Rattle.std.proofs.lemmas.List.{length-reverse}
use Rattle.settle_core.specs.Settling.{Line}
use Rattle.settle_core.specs.Folding.{moves_of}
use Rattle.settle_core.specs.Settler.{SettlerState}
use Rattle.settle_core.proofs.Growing.{moves_within}
use Rattle.settle_core.proofs.Lists.{line_played}
use Rattle.settle_core.proofs.settler.Settler.moves.Goals as goal

pub returns-clause-line : goal.returns-clause-line
returns-clause-line c =
    let L : SettlerState → Type 0 = λ s. Line s.start (moves_of c.self.inside.plies.items) in
    rw c.deref.ensures.value (subst L c.self.view_is (line_played _ _ c.self.invariant.played))

pub returns-clause-count : goal.returns-clause-count
returns-clause-count c start past st =
    rw c.deref.ensures.value
    (moves_within c.args.self.now start past c.self.inside.plies.items st
    (ap (λ (s : SettlerState). length s.score.plies) (sym c.self.view_is) ∙ length-reverse c.self.inside.plies.items))
