-- How a game stands with its end. Lists have the latest first.
use Rattle.std.specs.Prelude.{◌≡◌, ◌<◌, ◌≤◌, ◌^◌, ◌||◌, ℕ, Bool, false, List, [], ◌∷◌, Option, Some, None, is_some, ⊤}
use Rattle.board_events.specs.Settings.{Setting}
use Rattle.game_over.specs.declared.happened.Event.{Event}
use Rattle.game_over.specs.declared.happened.Happening.{Happening}
use Rattle.game_over.specs.declared.happened.Happening.TheVariants.{Reopens}
use Rattle.game_over.specs.declared.said.Said.{Said}
use Rattle.game_over.specs.declared.said.Said.TheVariants.{Nothing, IsOver, BeginsNow, GoesOn}
use Rattle.game_over.specs.Over.{ended_by, passes}
use Rattle.game_over.specs.Result.{has_come}
use Rattle.game_over.specs.Said.{IsSaid}
use Rattle.board_endings.specs.declared.news.End.{End}
use Rattle.board_endings.specs.Items.{Item, bytes_of}
use Rattle.board_endings.specs.Telling.{Tells, timed}

-- The game isn't over, and nothing is known of its beginning.
abbrev pub no_end : End
no_end = record { over = None; goes_on = None; begins = None }

-- An arbiter reopens it.
abbrev pub reopened : Happening → End → End
reopened Reopens before = record before { over = None; goes_on = None }
reopened other before = before

-- with what is said to this event
abbrev pub end_by : Said → Event → End → End
end_by Nothing event before = reopened event.what before
end_by (IsOver over) event before = record before { over = Some over; goes_on = None }
end_by BeginsNow event before = record before { begins = Some event.bytes }
end_by (GoesOn count) event before = record before { goes_on = Some count }

-- The game stands so after these events.
abbrev pub IsEnd : List Event → End → Type 0
IsEnd [] end = end ≡ no_end
IsEnd (event ∷ past) end = (before : End) × (said : Said) × IsEnd past before × IsSaid said event past × (end ≡ end_by said event before)

-- It stands so at this time, by what came.
abbrev pub IsEndAt : Setting → List Item → ℕ → End → Type 0
IsEndAt setting items now end = (told : List Event) × Tells setting items told × IsEnd (timed now (bytes_of items) told) end

-- If a time is named, it is still to come, and time hasn't ended the game yet.
abbrev pub IsToCome : Bool → ℕ → Option ℕ → Type 0
IsToCome ended now None = ⊤
IsToCome ended now (Some due) = (ended ≡ false) × (now < due) × (due < 2 ^ 64)

-- From now on, time alone has ended the game if it has by now, or once this time has come; if it has, no time is named.
abbrev pub IsDueAt : Setting → List Item → ℕ → Option ℕ → Type 0
IsDueAt setting items now due = (told : List Event) × Tells setting items told × ((time : ℕ) → now ≤ time → time < 2 ^ 64
    → is_some (ended_by (passes time (bytes_of items)) told) ≡ (is_some (ended_by (passes now (bytes_of items)) told) || has_come time due))
    × IsToCome (is_some (ended_by (passes now (bytes_of items)) told)) now due
