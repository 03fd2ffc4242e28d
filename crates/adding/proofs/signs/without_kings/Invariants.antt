use Rattle.std.proofs.Common.{◌≡◌, ◌<◌, ℕ, get_or, length}
use Rattle.adding.specs.Signs.{without_king}
use Rattle.adding.proofs.signs.without_kings.Given as goal

abbrev pub invariant-loop-square : goal.invariant-loop-square
invariant-loop-square l = record {
  squares : length l.bare ≡ 64;
  same : (k : ℕ) → k < l.square → get_or l.bare k 0 ≡ without_king (get_or l.picture k 0);
  low : (k : ℕ) → k < l.square → get_or l.bare k 0 < 16;
}
