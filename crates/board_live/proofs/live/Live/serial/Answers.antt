use Rattle.board_live.specs.Moments.{cabled}
use Rattle.board_live.proofs.live.Live.serial.Goals as goal

pub returns : goal.returns
returns c setting recovers past text turns s h = c.serial.ensures (cabled past) turns s.attends.cable h
