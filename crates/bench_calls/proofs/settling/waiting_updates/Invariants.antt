use Rattle.std.proofs.Common.{◌≡◌, true}
use Rattle.settle_core.specs.Settler.{has_seen}
use Rattle.bench_calls.proofs.settling.waiting_updates.Given as goal

abbrev pub invariant-loop-turn : goal.invariant-loop-turn
invariant-loop-turn l = has_seen l.settler ≡ true
