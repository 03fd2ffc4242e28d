-- The lines of `show`: one for each event, and one for the rest.
use Rattle.std.specs.Prelude.{ℕ, ◌+◌, ◌/◌, ◌%◌, List, [], ◌∷◌, ◌++◌, map, codes, decimal, nat_lt, if◌then◌else◌}
use Rattle.std.specs.List.{flat_map}
use Rattle.dgt_frame.specs.declared.events.Message.{Message}
use Rattle.dgt_frame.specs.declared.events.Message.TheVariants.{Dump, Update, Time, Other}
use Rattle.dgt_frame.specs.declared.events.Event.{Event}
use Rattle.dgt_frame.specs.declared.events.Event.TheVariants.{Message as MessageEvent, Fault}
use Rattle.dgt_frame.specs.declared.events.FaultKind.{FaultKind}
use Rattle.dgt_frame.specs.declared.events.FaultKind.TheVariants.{Cut, Stray, Size, Data}
use Rattle.dgt_frame.specs.Streams.{Timed}

-- a lower-case hexadecimal digit
abbrev pub hex_digit : ℕ → ℕ
hex_digit n = if nat_lt n 10 then 48 + n else 87 + n

-- a byte as two of them
abbrev pub two_hex_digits : ℕ → List ℕ
two_hex_digits byte = hex_digit (byte / 16) ∷ hex_digit (byte % 16) ∷ []

-- the word of a fault
abbrev pub kind_text : FaultKind → List ℕ
kind_text Cut = codes "cut"
kind_text Stray = codes "stray"
kind_text Size = codes "size"
kind_text Data = codes "data"

-- a dump as its 64 digits, an update as field and code, a time as its seven bytes, an `Other` message as identifier and
-- size
abbrev pub message_text : Message → List ℕ
message_text (Dump pieces) = codes "dump " ++ map hex_digit pieces
message_text (Update field code) = codes "update " ++ decimal field ++ codes " " ++ decimal code
message_text (Time times) = codes "time" ++ flat_map (λ byte. 32 ∷ two_hex_digits byte) times
message_text (Other id size) = codes "other " ++ two_hex_digits id ++ codes " " ++ decimal size

-- what the line says of an event, after the offset
abbrev pub event_text : Event → List ℕ
event_text (MessageEvent message) = message_text message
event_text (Fault kind) = codes "fault " ++ kind_text kind

-- the line of an event: the offset of the byte at which it comes, then the event
abbrev pub line_of : Timed → List ℕ
line_of shown = decimal shown.offset ++ codes " " ++ event_text shown.event ++ codes "\n"

-- the last line: how many bytes of an unfinished frame are left
abbrev pub rest_line : ℕ → List ℕ
rest_line rest = codes "rest " ++ decimal rest ++ codes "\n"
