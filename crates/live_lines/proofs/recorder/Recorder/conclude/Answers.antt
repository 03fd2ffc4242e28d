use Rattle.board_events.specs.Settings.{setting_of}
use Rattle.live_lines.specs.Meaning.{moments}
use Rattle.live_lines.proofs.recorder.Recorder.conclude.Goals as goal

pub returns : goal.returns
returns c setup recovers past text s =
    let cable = s.live.attends.cable in (cable.turns, cable.happened, c.conclude.ensures (setting_of setup) recovers (moments past) text cable.turns s.live cable.happened)
