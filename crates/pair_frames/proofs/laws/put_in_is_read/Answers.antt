use Rattle.pair_frames.proofs.Reading.{put_in_is_read}
use Rattle.pair_frames.proofs.laws.put_in_is_read.Goals as goal

pub returns : goal.returns
returns c = put_in_is_read
