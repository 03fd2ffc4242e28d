-- What a decoder makes of one byte.
use Rattle.std.specs.Prelude.{ℕ, List, [], ◌∷◌, ◌++◌, length, Option, Some, None}
use Rattle.dgt_frame.specs.declared.events.Event.{Event}
use Rattle.dgt_frame.specs.declared.events.Event.TheVariants.{Message as MessageEvent, Fault}
use Rattle.dgt_frame.specs.declared.decode.Decoder.{Decoder}
use Rattle.dgt_frame.specs.declared.decode.Progress.{Progress}
use Rattle.dgt_frame.specs.declared.decode.Progress.TheVariants.{Waits, Fails, Ends}
use Rattle.dgt_frame.specs.Inside.Stored.{message_stored}
use Rattle.dgt_frame.specs.Streams.{Timed}
use Rattle.dgt_frame.specs.Decoder.{Decoded, timed}

-- Whatever the decoder was given, it has now been given this byte too, and has returned this.
abbrev pub TakesByte : Decoder → ℕ → Option Event → Decoder → Type 0
TakesByte old byte answer new = (bytes : List ℕ) (events : List Timed) → Decoded old bytes events
    → Decoded new (bytes ++ byte ∷ []) (events ++ timed (length bytes) answer)

-- what the progress of a byte shows, with the data that is stored
abbrev pub event_at_byte : Progress → List ℕ → Option Event
event_at_byte Waits stored = None
event_at_byte (Fails kind) stored = Some (Fault kind)
event_at_byte (Ends id size) stored = Some (MessageEvent (message_stored id size stored))
