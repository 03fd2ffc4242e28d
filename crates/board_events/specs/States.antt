-- What a session keeps.
use Rattle.std.specs.Prelude.{Bool, Option}
use Rattle.dgt_frame.specs.declared.First.{First}
use Rattle.chess_clock.specs.declared.Reading.{Reading}
use Rattle.settle_core.specs.Settler.{SettlerState}

pub record State : Type 0 where
  pub settler : SettlerState
  pub first : First
  pub rotated : Bool
  pub trusted : Bool
  pub reading : Option Reading
