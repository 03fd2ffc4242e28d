use Rattle.board_live.specs.Moments.{cabled}
use Rattle.board_live.proofs.live.Live.is_silent.Goals as goal

pub returns : goal.returns
returns c setting recovers past text turns s h = c.is_silent.ensures (cabled past) turns s.attends.cable h
