-- What the cable's part of a recorded board stands for, and what comes of it. Lists have the latest first.
use Rattle.std.specs.Prelude.{◌≡◌, List, ◌∷◌}
use Rattle.board_cable.specs.Silence.{is_silent}
use Rattle.board_cable.specs.Whose.{own_number}
use Rattle.board_cable.specs.Cable.{StandsFor}
use Rattle.board_cable.specs.Keeping.{kept}
use Rattle.board_cable.specs.Turns.{Turn, handling_of, request_of, told}
use Rattle.board_live.specs.declared.attending.Attending.{Attending}
use Rattle.board_live.specs.declared.attending.Comes.{Comes}
use Rattle.board_live.specs.declared.happened.What.{What}
use Rattle.board_live.specs.Coming.{silence}
use Rattle.board_live.specs.Moments.{Moment, cabled}
use Rattle.board_live.specs.Numbers.{number_news}

-- This happened, the latest first.
pub record Attends (attending : Attending) (past : List Moment) : Type 0 where
  pub cable : StandsFor attending.cable (cabled past)
  pub kept_is : attending.kept.items ≡ kept cable.turns

-- This comes of a turn of the cable.
pub record Tells (what : What) (turn : Turn) (turns : List Turn) (comes : Comes) : Type 0 where
  pub request : comes.request ≡ request_of turn
  pub handling : comes.handling ≡ handling_of turn
  pub number : comes.number ≡ number_news what (own_number (told turns)) (own_number (told (turn ∷ turns)))
  pub silence : comes.silence ≡ silence what (is_silent (told turns)) (is_silent (told (turn ∷ turns)))
