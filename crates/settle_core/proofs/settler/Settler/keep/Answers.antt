use Rattle.std.proofs.Common.{◌∙◌}
use Rattle.settle_core.proofs.settler.Settler.keep.Goals as goal

pub invariant_of-self : goal.invariant_of-self
invariant_of-self c = record {
  played = c.self.invariant.played;
  position = c.compare.ensures.position ∙ c.self.invariant.position;
  before_is = c.compare_all.ensures.positions ∙ c.self.invariant.before_is;
  here_compared = c.compare.ensures.compared _ c.self.invariant.here_compared;
  before_compared = c.compare_all.ensures.compared _ c.self.invariant.before_compared;
  shown_is = c.shown_in-self-inside.ensures;
}
