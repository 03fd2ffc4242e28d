use Rattle.pair_frames.proofs.Joining.{frames_are_put_in, streams_are_joined}
use Rattle.pair_frames.proofs.laws.frames_are_put_in.Goals as goal

pub returns : goal.returns
returns c = record { joined = streams_are_joined; between = frames_are_put_in }
