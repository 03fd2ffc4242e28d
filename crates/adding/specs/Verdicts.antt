-- What a trial comes to.
use Rattle.std.specs.Prelude.{ℕ, Bool, List, Option}
use Rattle.settle_core.specs.declared.plies.Outcome.{Outcome}
use Rattle.settle_core.specs.declared.plies.Ply.{Ply}
use Rattle.board_events.specs.Settings.{Setting}
use Rattle.adding.specs.Stays.{Changes, HasNoRoom, Stays}
use Rattle.adding.specs.declared.trying.Verdict.{Verdict}
use Rattle.adding.specs.declared.trying.Verdict.TheVariants.{Kept, Changed, NoRoom}

abbrev pub Judges : Setting → Bool → List ℕ → List ℕ → List ℕ → List Ply → Option Outcome → Verdict → Type 0
Judges setting recovers capture added again plies sign Kept = Stays setting recovers capture added again plies sign
Judges setting recovers capture added again plies sign Changed = Changes setting recovers capture added again plies sign
Judges setting recovers capture added again plies sign NoRoom = HasNoRoom setting recovers capture added again
