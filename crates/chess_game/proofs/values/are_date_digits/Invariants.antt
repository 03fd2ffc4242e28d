use Rattle.std.proofs.Common.{◌<◌, ◌≢◌, ℕ, slice_index}
use Rattle.chess_game.specs.Values.{IsDateDigit}
use Rattle.chess_game.proofs.values.are_date_digits.Given as goal

abbrev pub invariant-loop-i : goal.invariant-loop-i
invariant-loop-i l = (k : ℕ) → k < l.i → k ≢ 4 → k ≢ 7 → IsDateDigit (slice_index l.value k)
