use Rattle.std.proofs.Common.{◌≡◌, ◌+◌, ◌++◌, map, take}
use Rattle.arrayvec.specs.ArrayVec.{array_vec_len}
use Rattle.board_listing.specs.EventLines.{hex_digit}
use Rattle.board_listing.proofs.events.add_codes.Given as goal

abbrev pub invariant-loop-code : goal.invariant-loop-code
invariant-loop-code l = record {
  len : array_vec_len l.lines ≡ array_vec_len l.fn.lines + l.code-index;
  items : l.lines.items ≡ l.fn.lines.items ++ map hex_digit (take l.code-index l.pieces);
}
