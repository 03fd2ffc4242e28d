use Rattle.std.proofs.Common.{sym, ◌∙◌}
use Rattle.board_live.proofs.TakeLemmas.{none_kept}
use Rattle.board_live.proofs.attending.Attending.new.Goals as goal

pub returns : goal.returns
returns c = record {
  cable = c.new-cable.ensures;
  kept_is = c.new-kept.ensures.items ∙ sym (none_kept c.new-cable.ensures.turns c.new-cable.ensures.happened);
}
