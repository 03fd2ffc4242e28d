use Rattle.game_over.proofs.Tails.{loses_tail}
use Rattle.game_over.proofs.unfinished.end_of.Goals as goal

pub returns-clause-loses : goal.returns-clause-loses
returns-clause-loses c = loses_tail _ _ _ c.set_up_from-first.ensures c.kept_before-kept.ensures.ends
