use Rattle.std.proofs.Common.{◌≡◌, drop}
use Rattle.board_times.specs.Fitting.{digest, digest_after}
use Rattle.board_times.proofs.fitting.digest.Given as goal

abbrev pub invariant-loop-byte : goal.invariant-loop-byte
invariant-loop-byte l = digest_after l.hash (drop l.byte-index l.bytes) ≡ digest l.bytes
