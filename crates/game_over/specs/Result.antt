-- The result that stands. Events are listed with the latest first, times are milliseconds.
use Rattle.std.specs.Prelude.{ℕ, nat_le, Bool, true, false, List, [], ◌∷◌, Option, Some, None, if◌then◌else◌}
use Rattle.square_runs.specs.Lasting.{has_lasted}
use Rattle.game_over.specs.declared.happened.Event.{Event}
use Rattle.game_over.specs.declared.happened.Happening.{Happening}
use Rattle.game_over.specs.declared.happened.Happening.TheVariants.{Moves, Ends, Declares, Reopens, Resumes}
use Rattle.game_over.specs.declared.happened.Outcome.{Outcome}
use Rattle.game_over.specs.declared.result.Given.{Given}

abbrev pub new_given : Outcome → Bool → Bool → ℕ → ℕ → Given
new_given outcome declared added at bytes = record { outcome = outcome; at = at; bytes = bytes; is_declared = declared; is_added = added }

-- Nobody listened for a time, in which the result may have been taken back: it counts as given now.
abbrev pub resumed : ℕ → Option Given → Option Given
resumed at None = None
resumed at (Some given) = Some (new_given given.outcome given.is_declared given.is_added at given.bytes)

-- the result that was given since the last move or correction, and wasn't taken off
abbrev pub given_by : Happening → ℕ → ℕ → Option Given → Option Given
given_by (Ends outcome added) at bytes before = Some (new_given outcome false added at bytes)
given_by (Declares outcome added) at bytes before = Some (new_given outcome true added at bytes)
given_by (Moves move) at bytes before = None
given_by Reopens at bytes before = None
given_by Resumes at bytes before = resumed at before
given_by other at bytes before = before

abbrev pub last_given : List Event → Option Given
last_given [] = None
last_given (event ∷ past) = given_by event.what event.at event.bytes (last_given past)

-- A result ends the game when it has stood for this, and the board is heard then.
abbrev pub ten_seconds : ℕ
ten_seconds = 10000

-- If the board isn't heard then, its result waits for seven seconds more: a line may be late, or cut. A result that an arbiter gave needs
-- no board.
abbrev pub unheard : ℕ
unheard = 17000

abbrev pub waits : Given → ℕ
waits given = if given.is_added then ten_seconds else unheard

abbrev pub has_stood : ℕ → Option Given → Bool
has_stood now None = false
has_stood now (Some given) = has_lasted ten_seconds now (Some given.at)

-- Time alone ends the game.
abbrev pub has_passed : ℕ → Option Given → Bool
has_passed now None = false
has_passed now (Some given) = has_lasted (waits given) now (Some given.at)

-- A time has come, if there is one.
abbrev pub has_come : ℕ → Option ℕ → Bool
has_come now None = false
has_come now (Some time) = nat_le time now
