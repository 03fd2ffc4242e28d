use Rattle.std.proofs.Common.{◌≡◌, ◌++◌, ℕ, Bool, List, drop}
use Rattle.board_events.specs.Settings.{Setting}
use Rattle.board_live.specs.Live.{HasBegun, StandsFor}
use Rattle.board_live.specs.Moments.{Moment}
use Rattle.live_lines.specs.Clock.{clock_over}
use Rattle.live_lines.specs.History.{history_of, merged}
use Rattle.live_lines.proofs.history.tell_history.Given as goal

abbrev pub invariant-events : goal.invariant-events
invariant-events l = record {
  begun : HasBegun l.live;
  clock : clock_over l.clock (drop l.event-index l.events) ≡ clock_over l.fn.clock l.events;
  told : (setting : Setting) (recovers : Bool) (past : List Moment) (text : List ℕ) → StandsFor l.fn.live setting recovers past text
      → (now : List Moment) × (more : List ℕ) × (l.lines.items ≡ l.fn.lines.items ++ more) × StandsFor l.live setting recovers now (text ++ more)
      × (merged l.clock l.covered l.rest (drop l.event-index l.events) now ≡ history_of l.fn.clock l.events l.fn.capture past);
}
