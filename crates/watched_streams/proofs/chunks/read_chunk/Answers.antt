use Rattle.std.proofs.Common.{◌+◌, ◌≤◌, length, arith, rules}
use Rattle.watched_streams.specs.Watch.{inner_of}
use Rattle.watched_streams.proofs.InputLemmas.{gives_chunk}
use Rattle.watched_streams.proofs.chunks.read_chunk.Goals as goal

pub returns-in-Ok-clause-bytes : goal.returns-in-Ok-clause-bytes
returns-in-Ok-clause-bytes g c =
    let long : length c.read.new.buf ≤ c.min-room.result + 1 = search rules in
    gives_chunk c.args.left c.min-within.result c.in-Ok.n c.read.new.buf _ (g.R.Read.remaining (inner_of c.args.reader.now)) (g.R.Read.remaining (inner_of c.read.new.self))
    (omega arith) (omega arith) (λ past. omega arith) (omega arith) (omega (arith, long, c.in-Ok.ensures.bound.0)) c.in-Ok.ensures.bound.0 c.in-Ok.ensures.bytes.0
