-- How a session was set up.
use Rattle.std.specs.Prelude.{Bool}
use Rattle.chess_rules.specs.declared.parts.Parts.{Parts}
use Rattle.dgt_frame.specs.declared.First.{First}
use Rattle.board_events.specs.declared.setup.Setup.{Setup}

-- the position at the start, whose clock the first group of a time message is, and whether the board stands turned
pub record Setting : Type 0 where
  pub start : Parts
  pub first : First
  pub rotated : Bool

-- that of a setup, which has tags too
abbrev pub setting_of : Setup → Setting
setting_of setup = record { start = setup.start; first = setup.first; rotated = setup.rotated }
