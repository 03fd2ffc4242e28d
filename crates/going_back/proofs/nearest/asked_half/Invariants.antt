use Rattle.std.proofs.Common.{◌≡◌, ◌≤◌, drop}
use Rattle.going_back.specs.Nearest.{half_asked}
use Rattle.going_back.proofs.nearest.asked_half.Given as goal

abbrev pub invariant-loop-byte : goal.invariant-loop-byte
invariant-loop-byte l = record {
  count : l.at ≡ l.byte-index;
  within : l.number ≤ 10000;
  left : half_asked l.number (drop l.byte-index l.text) ≡ half_asked 0 l.text;
}
