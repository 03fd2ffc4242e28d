use Prim.{search}
use Rattle.std.proofs.Common.{rules}
use Rattle.dgt_frame.proofs.decode.Decoder.new.Goals as goal

pub returns : goal.returns
returns c = search rules
