-- What a decoder knows of the bytes that it was given.
use Rattle.std.specs.Prelude.{◌≡◌, ℕ, ◌+◌, ◌-◌, ◌<◌, ◌≤◌, List, [], ◌∷◌, ◌++◌, length, take, Option, Some, None}
use Rattle.std.specs.List.{AllByRecursion}
use Rattle.dgt_frame.specs.declared.events.Event.{Event}
use Rattle.dgt_frame.specs.declared.decode.Decoder.{Decoder}
use Rattle.dgt_frame.specs.declared.decode.State.{State}
use Rattle.dgt_frame.specs.declared.decode.State.TheVariants.{Idle, Skipping, Identified, Measured, Filling}
use Rattle.dgt_frame.specs.Frames.{IsLow}
use Rattle.dgt_frame.specs.Layout.{FitsData, FitsHigh, IsHeader, IsIdentifier}
use Rattle.dgt_frame.specs.Streams.{ShowsFrom, StartsHigh, Timed}

-- These are the bytes of the unfinished frame.
abbrev pub Holds : State → List ℕ → List ℕ → Type 0
Holds Idle stored part = part ≡ []
Holds Skipping stored part = ⊥
Holds (Identified id) stored part = (part ≡ id ∷ []) × IsIdentifier id
Holds (Measured id high) stored part = (part ≡ id ∷ high ∷ []) × IsIdentifier id × FitsHigh id high
Holds (Filling id size count) stored part = (high low : ℕ) × (body : List ℕ)
    × (part ≡ id ∷ high ∷ low ∷ body) × IsHeader id high low size
    × (count ≡ length body) × (count + 3 < size) × FitsData id 0 body
    × (length body ≤ 64 → body ≡ take (length body) stored)

-- The bytes to come show this, where bytes with their top bit clear are passed over first.
abbrev pub Resumes : ℕ → List ℕ → List Timed → ℕ → Type 0
Resumes start bytes events rest = (run more : List ℕ) × (bytes ≡ run ++ more)
    × AllByRecursion IsLow run × StartsHigh more × ShowsFrom (start + length run) more events rest

-- The bytes to come, after these of an unfinished frame, show this.
abbrev pub Continues : List ℕ → ℕ → List ℕ → List Timed → ℕ → Type 0
Continues part start bytes events rest = ShowsFrom (start - length part) (part ++ bytes) events rest

-- what the bytes given so far show, together with what is to come
abbrev pub Completes : (ℕ → List ℕ → List Timed → ℕ → Type 0) → List ℕ → List Timed → Type 0
Completes Later bytes events = (more : List ℕ) (later : List Timed) (rest : ℕ)
    → Later (length bytes) more later rest → ShowsFrom 0 (bytes ++ more) (events ++ later) rest

-- the last of the bytes are this part, and those before it have shown the events
abbrev pub LeavesUnfinished : List ℕ → List ℕ → List Timed → Type 0
LeavesUnfinished part bytes events = (length part ≤ length bytes) × Completes (Continues part) bytes events

abbrev pub DecodedBy : State → List ℕ → List ℕ → List Timed → Type 0
DecodedBy Skipping stored bytes events = Completes Resumes bytes events
DecodedBy state stored bytes events = (part : List ℕ) × Holds state stored part × LeavesUnfinished part bytes events

-- The decoder was given these bytes, one by one, and has returned these events.
pub record Decoded (decoder : Decoder) (bytes : List ℕ) (events : List Timed) : Type 0 where
  pub state : DecodedBy decoder.state decoder.stored bytes events

-- the event that came at this offset, if one did
abbrev pub timed : ℕ → Option Event → List Timed
timed offset None = []
timed offset (Some event) = record { offset = offset; event = event } ∷ []

-- The same of several bytes, at none of which an event came.
abbrev pub TakesAll : Decoder → List ℕ → Decoder → Type 0
TakesAll old more new = (bytes : List ℕ) (events : List Timed) → Decoded old bytes events → Decoded new (bytes ++ more) events

-- The same of the first of these bytes, so many, where the event came at the last of them and none before it.
abbrev pub TakesUpTo : Decoder → List ℕ → ℕ → Event → Decoder → Type 0
TakesUpTo old more count event new = (bytes : List ℕ) (events : List Timed) → Decoded old bytes events
    → Decoded new (bytes ++ take count more) (events ++ record { offset = length bytes + (count - 1); event = event } ∷ [])
