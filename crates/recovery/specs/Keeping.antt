-- What is recovered of a list of events. Events and entries are listed with the latest first.
use Rattle.std.specs.Prelude.{◌≡◌, true, false, List, ◌∷◌, Option, Some, None}
use Rattle.dgt_frame.specs.declared.events.Event.{Event}
use Rattle.settle_core.specs.declared.plies.Seen.{Seen}
use Rattle.settle_core.specs.Entries.{repeats}
use Rattle.unseen_pairs.specs.declared.pair.Recovery.{Recovery}
use Rattle.unseen_pairs.specs.declared.pair.SeenOrRecovered.TheVariants.{Shown, Recovered}
use Rattle.unseen_pairs.specs.Recoverer.{ReturnsTold}
use Rattle.board_events.specs.Entries.{is_entry}
use Rattle.board_events.specs.History.{picture_of}
use Rattle.board_events.specs.Settings.{Setting}
use Rattle.board_events.specs.Session.{entries_in}

-- What is recovered at an event after these: the pair that its picture confirms; or none, where it gives no entry, or
-- one that shows nothing but what it shows by itself.
abbrev pub RecoversAt : Setting → List Event → Event → Option Recovery → Type 0
RecoversAt setting past event (Some r) = (is_entry event past ≡ true)
    × ReturnsTold setting.start (entries_in setting past) (picture_of setting.rotated (event ∷ past)) (Recovered r)
RecoversAt setting past event None = is_entry event past ≡ true
    → (seen : Seen) × ReturnsTold setting.start (entries_in setting past) (picture_of setting.rotated (event ∷ past)) (Shown seen)

-- After these events the next one shows another picture than the last one, or the first: at no other event is memory
-- taken.
abbrev pub ShowsAnother : Setting → List Event → Event → Type 0
ShowsAnother setting past event = (is_entry event past ≡ true)
    × (repeats (picture_of setting.rotated (event ∷ past)) (entries_in setting past) ≡ false)
