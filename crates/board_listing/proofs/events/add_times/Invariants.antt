use Rattle.std.proofs.Common.{◌≡◌, ◌+◌, ◌*◌, ◌++◌, ◌∷◌, take}
use Rattle.std.specs.List.{flat_map}
use Rattle.arrayvec.specs.ArrayVec.{array_vec_len}
use Rattle.board_listing.specs.EventLines.{two_hex_digits}
use Rattle.board_listing.proofs.events.add_times.Given as goal

abbrev pub invariant-loop-byte : goal.invariant-loop-byte
invariant-loop-byte l = record {
  len : array_vec_len l.lines ≡ array_vec_len l.fn.lines + 3 * l.byte-index;
  items : l.lines.items ≡ l.fn.lines.items ++ flat_map (λ byte. 32 ∷ two_hex_digits byte) (take l.byte-index l.times);
}
