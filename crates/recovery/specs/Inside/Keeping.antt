-- A keeper after the events that it was given. Events and entries are listed with the latest first.
use Rattle.std.specs.Prelude.{◌≡◌, List, ◌∷◌, Option, Some, None, if◌then◌else◌}
use Rattle.dgt_frame.specs.declared.events.Event.{Event}
use Rattle.settle_core.specs.Entries.{Entry}
use Rattle.unseen_pairs.specs.declared.pair.Recovery.{Recovery}
use Rattle.unseen_pairs.specs.declared.pair.SeenOrRecovered.TheVariants.{Recovered}
use Rattle.unseen_pairs.specs.Recoverer.{HasRecovered, written_after}
use Rattle.board_events.specs.Entries.{entry_at, is_entry}
use Rattle.board_events.specs.History.{reading_at}
use Rattle.board_events.specs.Settings.{Setting}
use Rattle.board_events.specs.Session.{entries_in}
use Rattle.board_events.specs.View.{Views}
use Rattle.recovery.specs.declared.keeper.Keeper.{Keeper}
use Rattle.recovery.specs.Keeping.{RecoversAt}

-- The entries with what was put in, after one more event.
abbrev pub entries_with : Setting → List Event → Event → Option Recovery → List Entry → List Entry
entries_with setting past event (Some r) written = written_after (entry_at setting.first setting.rotated (event ∷ past))
    (Recovered r) written
entries_with setting past event None written =
    if is_entry event past then entry_at setting.first setting.rotated (event ∷ past) ∷ written else written

-- The keeper, set up so, was given these events; with what was put in, their entries are these.
pub record Keeps (keeper : Keeper) (setting : Setting) (past : List Event) (written : List Entry) : Type 0 where
  pub view : Views keeper.view setting.rotated past
  pub reading : keeper.reading ≡ reading_at setting.first past
  pub first : keeper.first ≡ setting.first
  pub rotated : keeper.rotated ≡ setting.rotated
  pub recoverer : HasRecovered keeper.recoverer setting.start (entries_in setting past) written

-- It was given one more, at which this was recovered.
pub record KeepsNext (keeper : Keeper) (setting : Setting) (past : List Event) (event : Event) (found : Option Recovery)
    (written : List Entry) : Type 0 where
  pub keeps : Keeps keeper setting (event ∷ past) (entries_with setting past event found written)
  pub finds : RecoversAt setting past event found
