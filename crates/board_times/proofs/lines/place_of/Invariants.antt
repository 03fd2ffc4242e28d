use Rattle.std.proofs.Common.{◌≡◌, take, true}
use Rattle.board_times.proofs.lines.place_of.Given as goal
use Rattle.board_times.specs.Inside.Reading.{lacks}

abbrev pub invariant-loop-byte : goal.invariant-loop-byte
invariant-loop-byte l = (l.place ≡ l.byte-index) × (lacks l.separator (take l.byte-index l.text) ≡ true)
