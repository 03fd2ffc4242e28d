use Rattle.std.proofs.Common.{◌≡◌, ◌+◌, ◌-◌, ◌*◌, ◌≤◌, ◌++◌, ℕ, List}
use Rattle.arrayvec.specs.ArrayVec.{array_vec_len}
use Rattle.settle_core.specs.Masks.{IsDiff}
use Rattle.board_listing.specs.GameLines.{differing}
use Rattle.board_listing.proofs.game_lines.add_squares.Given as goal

abbrev pub invariant-squares : goal.invariant-squares
invariant-squares l = record {
  inside : l.square ≤ 64;
  len : array_vec_len l.lines ≤ array_vec_len l.fn.lines + 3 * l.square;
  items : (stands seen : List ℕ) → IsDiff l.fn.mask stands seen → l.lines.items ≡ l.fn.lines.items ++ differing l.square stands seen;
}

abbrev pub decreases-squares : goal.decreases-squares
decreases-squares l = 64 - l.square
