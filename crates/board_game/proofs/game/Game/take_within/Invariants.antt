use Rattle.std.proofs.Common.{◌≡◌, ◌-◌, ◌≤◌, ◌++◌, ℕ, Bool, List, length, take}
use Rattle.board_events.specs.Settings.{Setting}
use Rattle.board_game.specs.Games.{StandsFor}
use Rattle.board_game.specs.History.{Came}
use Rattle.board_game.specs.Inside.Telling.{IsWithin}
use Rattle.board_game.proofs.game.Game.take_within.Given as goal

abbrev pub invariant-events : goal.invariant-events
invariant-events l = record {
  inside : l.taken ≤ length l.bytes;
  count : l.self.count ≡ l.fn.self.count;
  fed : (setting : Setting) (recovers : Bool) (past : List Came) (text : List ℕ) → StandsFor l.fn.self setting recovers past text
      → (told : List ℕ) × IsWithin l.self.decoder l.self.following setting recovers past text told l.chunk (take l.taken l.bytes) l.fn.lines.items (l.lines.items ++ l.self.gathered.items);
}

abbrev pub decreases-events : goal.decreases-events
decreases-events l = length l.bytes - l.taken
