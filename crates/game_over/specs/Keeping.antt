-- What the parts stand for. A reader needs none of it: the contracts hold for whatever this says.
use Rattle.std.specs.Prelude.{◌≡◌, ℕ, List}
use Rattle.game_over.specs.declared.again.StartAgain.{StartAgain}
use Rattle.game_over.specs.declared.happened.Event.{Event}
use Rattle.game_over.specs.declared.ending.Ending.{Ending}
use Rattle.game_over.specs.declared.moves.Moves.{Moves}
use Rattle.game_over.specs.Again.{was_away}
use Rattle.game_over.specs.Moves.{earlier_moves, earlier_places, last_move}
use Rattle.game_over.specs.Over.{front, has_begun, has_played, is_another, left_at, pictures, played, why_over}
use Rattle.game_over.specs.Result.{last_given}

-- The moves of this, the latest event first.
pub record KeepsMoves (kept : Moves) (past : List Event) : Type 0 where
  pub last_is : kept.last ≡ last_move past
  pub earlier_are : kept.earlier.items ≡ earlier_moves past
  pub places_are : kept.places.items ≡ earlier_places past

-- These pictures were shown.
pub record KeepsPictures (again : StartAgain) (past : List ℕ) : Type 0 where
  pub away : again.was_away ≡ was_away past

-- This happened, the latest first.
pub record StandsFor (ending : Ending) (past : List Event) : Type 0 where
  pub moves : KeepsMoves ending.moves past
  pub again : KeepsPictures ending.again (pictures past)
  pub left : ending.left ≡ left_at past
  pub given_is : ending.given ≡ last_given past
  pub over_is : ending.over ≡ why_over past
  pub begun : ending.has_begun ≡ has_begun past
  pub front_is : ending.front ≡ front past
  pub played_is : ending.played ≡ played past
  pub has_played_is : ending.has_played ≡ has_played past
  pub another : ending.is_another ≡ is_another past
