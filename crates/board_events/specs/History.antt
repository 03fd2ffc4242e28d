-- What events show, found by looking back over them. Events of the past are listed with the latest first.
use Rattle.std.specs.Prelude.{ℕ, ◌-◌, ◌<◌, All, ⊤, Bool, true, false, ◌&&◌, ◌||◌, not, ◌==◌, if◌then◌else◌, List, [], ◌∷◌, map, reverse, slice_index, Option, Some, None}
use Rattle.std.specs.List.{range_with_len}
use Rattle.dgt_frame.specs.declared.events.Message.TheVariants.{Dump, Update, Time, Other}
use Rattle.dgt_frame.specs.declared.events.Event.{Event}
use Rattle.dgt_frame.specs.declared.events.Event.TheVariants.{Message as MessageEvent, Fault}
use Rattle.dgt_frame.specs.declared.First.{First}
use Rattle.chess_clock.specs.declared.Reading.{Reading}
use Rattle.dgt_frame.specs.Times.{is_acknowledgement, lacks_clock, has_digits, reading_of}

-- codes are at most 15, and fields at most 63
abbrev pub IsInRange : Event → Type 0
IsInRange (MessageEvent (Dump codes)) = All (λ code. code < 16) codes
IsInRange (MessageEvent (Update field code)) = (field < 64) × (code < 16)
IsInRange (MessageEvent (Time times)) = ⊤
IsInRange (MessageEvent (Other id size)) = ⊤
IsInRange (Fault kind) = ⊤

abbrev pub is_fault : Event → Bool
is_fault (Fault kind) = true
is_fault (MessageEvent message) = false

-- a dump stands, with no fault after it
abbrev pub is_trusted : List Event → Bool
is_trusted [] = false
is_trusted (MessageEvent (Dump codes) ∷ past) = true
is_trusted (Fault kind ∷ past) = false
is_trusted (MessageEvent (Update field code) ∷ past) = is_trusted past
is_trusted (MessageEvent (Time times) ∷ past) = is_trusted past
is_trusted (MessageEvent (Other id size) ∷ past) = is_trusted past

-- the code of the last update for the field since the last dump, else that dump's code
abbrev pub code_of_field : ℕ → List Event → ℕ
code_of_field field [] = 0
code_of_field field (MessageEvent (Dump codes) ∷ past) = slice_index codes field
code_of_field field (MessageEvent (Update updated code) ∷ past) = if updated == field then code else code_of_field field past
code_of_field field (MessageEvent (Time times) ∷ past) = code_of_field field past
code_of_field field (MessageEvent (Other id size) ∷ past) = code_of_field field past
code_of_field field (Fault kind ∷ past) = code_of_field field past

-- the square of a field, and the field of a square: the last is the first on a rotated board
abbrev pub turned : Bool → ℕ → ℕ
turned rotated n = if rotated then 63 - n else n

-- the codes of the fields, of a board that stands turned or not
abbrev pub codes_by_field : Bool → List ℕ → List ℕ
codes_by_field rotated picture = if rotated then reverse picture else picture

-- the codes of the 64 squares
unfoldable pub picture_of : Bool → List Event → List ℕ
picture_of rotated past = map (λ square. code_of_field (turned rotated square) past) (range_with_len 0 64)

-- a time message that says something: it is no acknowledgement, and has no clock, or good digits
abbrev pub decides : List ℕ → Bool
decides times = not (is_acknowledgement times) && (lacks_clock times || has_digits times)

-- what it says: no clock is connected, or its two groups
abbrev pub reading_said : First → List ℕ → Option Reading
reading_said first times = if lacks_clock times then None else Some (reading_of first times)

-- what the last time message says that says something
abbrev pub reading_at : First → List Event → Option Reading
reading_at first [] = None
reading_at first (MessageEvent (Time times) ∷ past) = if decides times then reading_said first times else reading_at first past
reading_at first (MessageEvent (Dump codes) ∷ past) = reading_at first past
reading_at first (MessageEvent (Update field code) ∷ past) = reading_at first past
reading_at first (MessageEvent (Other id size) ∷ past) = reading_at first past
reading_at first (Fault kind ∷ past) = reading_at first past
