-- Until when all stays, and when a recorder is woken.
use Rattle.std.specs.Prelude.{◌≡◌, ◌⊎◌, ◌<◌, ◌≤◌, ◌^◌, ℕ, Bool, List, IfSome, Option, Some}
use Rattle.board_cable.specs.declared.line.Event.{Event as Told}
use Rattle.board_cable.specs.Asking.{Changes}
use Rattle.board_cable.specs.Lasting.{IsBefore}
use Rattle.board_cable.specs.Pace.{AsksAlike}
use Rattle.board_cable.specs.Whose.{HandledAlike}
use Rattle.board_events.specs.Settings.{Setting}
use Rattle.board_game.specs.Ending.{IsEndDueOf}
use Rattle.board_game.specs.Games.{IsDueOf}
use Rattle.board_game.specs.Hearing.{IsHeard}
use Rattle.board_game.specs.History.{Came}
use Rattle.board_standing.specs.declared.heard.Event.{Event}
use Rattle.board_standing.specs.Laws.{ReadsAlike}
use Rattle.square_runs.specs.Lasting.{earlier}

-- Before this time the same is read of the board, if nothing more comes.
abbrev pub StaysAlike : Setting → Bool → List Came → ℕ → Option ℕ → Type 0
StaysAlike setting recovers past now due = (heard : List Event) × IsHeard setting recovers past heard
    × ((later : ℕ) → now ≤ later → later < 2 ^ 64 → IsBefore later due → ReadsAlike now later heard)

-- At the later time the board is asked, or something else is done with what it sends; or a limit is reached by which it is read; or
-- time ends the game.
abbrev pub MayChange : Setting → Bool → List Came → List Told → ℕ → ℕ → Type 0
MayChange setting recovers past told now later = Changes now told later ⊎ (IsDueOf setting recovers past now (Some later) ⊎ IsEndDueOf setting recovers past now (Some later))

-- For the cable it is woken at the first time still to come at which the board is asked otherwise than now, or something else is done
-- with what it sends.
pub record IsCableDue (told : List Told) (now : ℕ) (due : Option ℕ) : Type 0 where
  pub ahead : IfSome due (λ d. (now < d) × (d < 2 ^ 64))
  pub asks : AsksAlike now told due
  pub handling : HandledAlike now told due
  pub changes : IfSome due (λ d. Changes now told d)

-- It is woken at the earliest of three times: this one; the next limit by which the board is read; and when time ends the game.
pub record IsDue (setting : Setting) (recovers : Bool) (past : List Came) (told : List Told) (now : ℕ) (due : Option ℕ) : Type 0 where
  pub cable : Option ℕ
  pub state : Option ℕ
  pub end : Option ℕ
  pub cable_is : IsCableDue told now cable
  pub state_is : IsDueOf setting recovers past now state
  pub end_is : IsEndDueOf setting recovers past now end
  pub due_is : due ≡ earlier (earlier cable state) end
