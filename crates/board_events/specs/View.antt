-- What a view knows of the events that it was given, which are listed with the latest first.
use Rattle.std.specs.Prelude.{◌≡◌, ℕ, Bool, List, Option, Some, None, if◌then◌else◌}
use Rattle.dgt_frame.specs.declared.events.Event.{Event}
use Rattle.dgt_frame.specs.declared.time.First.TheVariants.{White}
use Rattle.settle_core.specs.Entries.{last_picture}
use Rattle.board_events.specs.declared.view.View.{View}
use Rattle.board_events.specs.History.{is_trusted}
use Rattle.board_events.specs.Entries.{entries}

-- the picture that it has seen last, if any
abbrev pub last_of : View → Option (List ℕ)
last_of view = if view.seen then Some view.picture else None

-- The view, of a board that stands turned or not, was given these events.
pub record Views (view : View) (rotated : Bool) (past : List Event) : Type 0 where
  pub turned : view.rotated ≡ rotated
  pub trust : view.trusted ≡ is_trusted past
  pub last : last_of view ≡ last_picture (entries White rotated past)
