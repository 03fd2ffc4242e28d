-- The pictures that events show, each with its reading. Events and entries are listed with the latest first.
use Rattle.std.specs.Prelude.{◌≡◌, Bool, true, false, if◌then◌else◌, List, [], ◌∷◌}
use Rattle.dgt_frame.specs.declared.events.Message.TheVariants.{Dump, Update, Time, Other}
use Rattle.dgt_frame.specs.declared.events.Event.{Event}
use Rattle.dgt_frame.specs.declared.events.Event.TheVariants.{Message as MessageEvent, Fault}
use Rattle.dgt_frame.specs.declared.First.{First}
use Rattle.settle_core.specs.Entries.{Entry, entry_of, last_picture}
use Rattle.board_events.specs.History.{is_fault, is_trusted, picture_of, reading_at}

-- A dump gives an entry, and so does an update before which a dump stands with no fault after it.
abbrev pub is_entry : Event → List Event → Bool
is_entry (MessageEvent (Dump codes)) past = true
is_entry (MessageEvent (Update field code)) past = is_trusted past
is_entry (MessageEvent (Time times)) past = false
is_entry (MessageEvent (Other id size)) past = false
is_entry (Fault kind) past = false

-- the picture and the reading at the latest of these events
abbrev pub entry_at : First → Bool → List Event → Entry
entry_at first rotated past = entry_of (picture_of rotated past) (reading_at first past)

-- all entries of these events
abbrev pub entries : First → Bool → List Event → List Entry
entries first rotated [] = []
entries first rotated (event ∷ past) = if is_entry event past
    then entry_at first rotated (event ∷ past) ∷ entries first rotated past else entries first rotated past

-- The event is no fault, and leaves what a session goes by: trust, the last picture and the reading.
pub record Idle (first : First) (rotated : Bool) (past : List Event) (event : Event) : Type 0 where
  pub message : is_fault event ≡ false
  pub trust : is_trusted (event ∷ past) ≡ is_trusted past
  pub picture : last_picture (entries first rotated (event ∷ past)) ≡ last_picture (entries first rotated past)
  pub reading : reading_at first (event ∷ past) ≡ reading_at first past
