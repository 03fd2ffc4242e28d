use Prim.{search}
use Rattle.std.proofs.Common.{rules}
use Rattle.dgt_frame.proofs.decode.Decoder.is_idle.Goals as goal

pub returns-in-Idle : goal.returns-in-Idle
returns-in-Idle c = search rules
