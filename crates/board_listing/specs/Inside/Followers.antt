-- What a follower knows of the events that it was given, which are listed with the latest first.
use Rattle.std.specs.Prelude.{◌≡◌, ℕ, List, ◌∷◌, ◌++◌}
use Rattle.chess_rules.specs.Valid.{Valid}
use Rattle.dgt_frame.specs.declared.events.Event.{Event}
use Rattle.dgt_frame.specs.Streams.{Timed}
use Rattle.settle_core.specs.Entries.{deduplicated}
use Rattle.settle_core.specs.Folding.{Folds, Score}
use Rattle.board_events.specs.Settings.{Setting}
use Rattle.board_events.specs.Session.{HasTakenEvents, entries_in}
use Rattle.board_listing.specs.declared.follower.Follower.{Follower}
use Rattle.board_listing.specs.GameText.{HasResult, TellsEvent}

-- The follower, set up so, was given these events: its session stands for them, and it keeps the result so far.
pub record HasFollowed (follower : Follower) (setting : Setting) (past : List Event) : Type 0 where
  pub stands : HasTakenEvents follower.session setting past
  pub score : Score
  pub folds : Folds setting.start (deduplicated (entries_in setting past)) score
  pub told : HasResult setting.start score follower.told
  pub valid : Valid setting.start

-- Whatever events were followed, this one was too, and its lines were added.
abbrev pub AddsEvent : Follower → List ℕ → Timed → Follower → List ℕ → Type 0
AddsEvent old lines x new lines' = (setting : Setting) (past : List Event) → HasFollowed old setting past
    → HasFollowed new setting (x.event ∷ past) × ((more : List ℕ) × (lines' ≡ lines ++ more) × TellsEvent setting past x more)
