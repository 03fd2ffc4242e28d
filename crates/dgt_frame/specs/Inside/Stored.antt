-- The message of a frame whose data is stored.
use Rattle.std.specs.Prelude.{ℕ, ◌==◌, if◌then◌else◌, List, [], ◌∷◌, slice_index}
use Rattle.dgt_frame.specs.declared.events.Message.{Message}
use Rattle.dgt_frame.specs.declared.events.Message.TheVariants.{Dump, Update, Time, Other}

-- the message of a frame with this identifier and size, whose first 64 data bytes are stored
abbrev pub message_stored : ℕ → ℕ → List ℕ → Message
message_stored id size stored = if id == 0x86 then Dump stored
    else (if id == 0x8E then Update (slice_index stored 0) (slice_index stored 1)
    else (if id == 0x8D then Time (slice_index stored 0 ∷ slice_index stored 1 ∷ slice_index stored 2 ∷ slice_index stored 3
    ∷ slice_index stored 4 ∷ slice_index stored 5 ∷ slice_index stored 6 ∷ []) else Other id size))
