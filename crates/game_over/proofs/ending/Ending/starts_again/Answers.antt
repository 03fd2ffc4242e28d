use Rattle.game_over.specs.Over.{pictures_at, starts_again}
use Rattle.game_over.proofs.ending.Ending.starts_again.Goals as goal

pub returns : goal.returns
unfolding starts_again
returns c past h = c.take.ensures.ends (pictures_at c.args.now past) (c.again_at-again.ensures past h)
