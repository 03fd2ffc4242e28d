use Rattle.std.proofs.Common.{◌≡◌, ◌≤◌, ◌+◌, take, drop, length, arith}
use Rattle.std.proofs.lemmas.Simd.{length-chunk}
use Rattle.dgt_frame.proofs.WholeLemmas.{codes_from_mask, front_dump}
use Rattle.dgt_frame.proofs.whole.dump.Goals as goal

pub returns-then-codes-eq0 : goal.returns-then-codes-eq0
returns-then-codes-eq0 c =
    let bytes = c.args.bytes.now in
    let room : 3 + 64 ≤ length bytes = omega arith in
    let long : length (take 64 (drop 3 bytes)) ≡ 64 = length-chunk 3 64 bytes room in (
      omega arith,
      omega arith,
      (front_dump bytes (omega arith) (omega arith) (omega arith) (omega arith), long, codes_from_mask (take 64 (drop 3 bytes)) long c.if-codes-eq0.true),
    )
