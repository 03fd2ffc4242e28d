-- A frame that lies whole at the front of bytes.
use Rattle.std.specs.Prelude.{ℕ, ◌<◌, ◌≤◌, List, length, take}
use Rattle.dgt_frame.specs.declared.events.Event.{Event}
use Rattle.dgt_frame.specs.declared.events.Event.TheVariants.{Message as MessageEvent, Fault}
use Rattle.dgt_frame.specs.Frames.{Frame}

-- The first of these bytes, so many, are the frame of the message that the event is.
abbrev pub IsWhole : List ℕ → ℕ → Event → Type 0
IsWhole bytes count (MessageEvent message) = (0 < count) × (count ≤ length bytes) × Frame message (take count bytes)
IsWhole bytes count (Fault kind) = ⊥
