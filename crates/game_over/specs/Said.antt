-- What is said to an event. Events are listed with the latest first.
use Rattle.std.specs.Prelude.{◌≡◌, ◌-◌, ◌||◌, ℕ, max, nat_lt, Bool, true, false, List, ◌∷◌, Option, Some, None, slice_get, if◌then◌else◌}
use Rattle.game_over.specs.declared.made.Made.{Made}
use Rattle.game_over.specs.Unfinished.{IsEnd, LosesTail}
use Rattle.game_over.specs.declared.happened.Event.{Event}
use Rattle.game_over.specs.declared.happened.Happening.{Happening}
use Rattle.game_over.specs.declared.happened.Happening.TheVariants.{Passes}
use Rattle.game_over.specs.declared.moves.Place.{Place}
use Rattle.game_over.specs.declared.result.Given.{Given}
use Rattle.game_over.specs.declared.said.Over.{Over}
use Rattle.game_over.specs.declared.said.Said.{Said}
use Rattle.game_over.specs.declared.said.Said.TheVariants.{Nothing, IsOver, BeginsNow, GoesOn}
use Rattle.game_over.specs.declared.said.Why.{Why}
use Rattle.game_over.specs.declared.said.Why.TheVariants.{Stood, PlaysOn, Corrected, SetUp, Unfinished}
use Rattle.game_over.specs.Moves.{moves, places}
use Rattle.game_over.specs.Over.{begins_now, ended_by, front, goes_on, played}
use Rattle.game_over.specs.Result.{last_given}

-- A game with these moves ended here. Only a tail of its moves goes; none that stood for three seconds, and none that was added.
pub record IsFoundAt (kept : ℕ) (place : Option Place) (is_sure : Bool) (moves : List Made) (places : List Place) : Type 0 where
  pub end : IsEnd kept is_sure moves
  pub loses : LosesTail kept moves
  pub place_is : place ≡ slice_get places (kept - 1)

abbrev pub IsFound : Option Place → Bool → List Made → List Place → Type 0
IsFound place is_sure moves places = (kept : ℕ) × IsFoundAt kept place is_sure moves places

-- An arbiter gave the result.
abbrev pub is_given : Option Given → Bool
is_given None = false
is_given (Some given) = given.is_added

-- Nobody saw the result standing, since time alone ends the game: that is sure only if an arbiter gave it.
abbrev pub is_seen : Happening → Option Given → Bool
is_seen Passes given = is_given given
is_seen other given = true

-- A game that ends with a result. What was written when it went back is the game's.
abbrev pub with_result : Why → Bool → Option Given → ℕ → Over
with_result why sure None front = record { why = why; result = None; bytes = front; is_sure = sure }
with_result why sure (Some given) front = record { why = why; result = Some given.outcome; bytes = max front given.bytes; is_sure = sure }

-- Somebody must look at its last move, if that was corrected after the result.
abbrev pub is_sure_by : Why → Happening → Option Given → Bool
is_sure_by Corrected what given = false
is_sure_by Stood what given = is_seen what given
is_sure_by other what given = true

-- how a game ends with a result
abbrev pub ended_with : Why → Happening → List Event → Over
ended_with why what past = with_result why (is_sure_by why what (last_given past)) (last_given past) (front past)

-- a game that ends without one
abbrev pub unfinished : Option Place → Bool → ℕ → Over
unfinished None is_sure front = record { why = Unfinished; result = None; bytes = front; is_sure = is_sure }
unfinished (Some place) is_sure front =
    record { why = Unfinished; result = place.result; bytes = max front place.bytes; is_sure = is_sure || nat_lt place.bytes front }

abbrev pub IsUnfinished : Said → List Event → Type 0
IsUnfinished said past = (place : Option Place) × (is_sure : Bool) × IsFound place is_sure (moves past) (places past)
    × (said ≡ IsOver (unfinished place is_sure (front past)))

-- what is said if the game doesn't end
abbrev pub said_else : Event → List Event → Said
said_else event past = if begins_now event past then BeginsNow else if goes_on event past then GoesOn (played (event ∷ past)) else Nothing

abbrev pub IsSaidFor : Option Why → Said → Event → List Event → Type 0
IsSaidFor None said event past = said ≡ said_else event past
IsSaidFor (Some Unfinished) said event past = IsUnfinished said past
IsSaidFor (Some Stood) said event past = said ≡ IsOver (ended_with Stood event.what past)
IsSaidFor (Some PlaysOn) said event past = said ≡ IsOver (ended_with PlaysOn event.what past)
IsSaidFor (Some Corrected) said event past = said ≡ IsOver (ended_with Corrected event.what past)
IsSaidFor (Some SetUp) said event past = said ≡ IsOver (ended_with SetUp event.what past)

-- This is said to an event, by all that happened before it.
abbrev pub IsSaid : Said → Event → List Event → Type 0
IsSaid said event past = IsSaidFor (ended_by event past) said event past
