-- What is put in behind an entry that confirmed a pair: dumps and time messages of the DGT Electronic Board Protocol.
-- Events stand in their order.
use Rattle.std.specs.Prelude.{◌≡◌, ℕ, ◌+◌, ◌*◌, ◌/◌, ◌%◌, Bool, if◌then◌else◌, List, [], ◌∷◌, ◌++◌, map, Option, Some, None}
use Rattle.std.specs.Str.{bytes_eq}
use Rattle.dgt_frame.specs.declared.events.Message.TheVariants.{Dump, Time}
use Rattle.dgt_frame.specs.declared.events.Event.{Event}
use Rattle.dgt_frame.specs.declared.events.Event.TheVariants.{Message as MessageEvent}
use Rattle.dgt_frame.specs.declared.First.{First}
use Rattle.dgt_frame.specs.declared.First.TheVariants.{White, Black}
use Rattle.chess_clock.specs.declared.Reading.{Reading}
use Rattle.chess_clock.specs.Clock.{Clock}
use Rattle.dgt_frame.specs.Streams.{Shows, Timed}
use Rattle.chess_rules.specs.Picture.{picture}
use Rattle.settle_core.specs.Entries.{Entry}
use Rattle.unseen_pairs.specs.declared.pair.Recovery.{Recovery}
use Rattle.board_events.specs.History.{codes_by_field}

-- a minute or a second: its tens in bits 6 to 4, its units in bits 3 to 0
abbrev pub digits : ℕ → ℕ
digits n = 16 * (n / 10) + n % 10

-- a group of a time message: hours, minutes, seconds
abbrev pub group_of : Clock → List ℕ
group_of clock = clock.hours ∷ digits clock.minutes ∷ digits clock.seconds ∷ []

-- The seven data bytes of a time message that gives this reading: two groups, of which the first is that of this side,
-- and the status, of which bit 5 says that no clock is connected.
abbrev pub times_of : First → Option Reading → List ℕ
times_of first None = 0 ∷ 0 ∷ 0 ∷ 0 ∷ 0 ∷ 0 ∷ 0x20 ∷ []
times_of White (Some reading) = group_of reading.white ++ group_of reading.black ++ 0 ∷ []
times_of Black (Some reading) = group_of reading.black ++ group_of reading.white ++ 0 ∷ []

-- where the reading is to be another one, a time message that gives it
abbrev pub time_put_in : First → Option Reading → Option Reading → List Event
time_put_in first now reading =
    if bytes_eq (times_of first now) (times_of first reading) then [] else MessageEvent (Time (times_of first reading)) ∷ []

-- a dump of the picture, its fields in the order of a board that stands turned or not
abbrev pub dump_of : Bool → List ℕ → Event
dump_of rotated shown = MessageEvent (Dump (codes_by_field rotated shown))

-- Behind the entry: the reading that the pair has, the boards after its first and its second ply, the entry's reading
-- again, and its board.
abbrev pub put_in : First → Bool → Entry → Recovery → List Event
put_in first rotated entry r =
    time_put_in first entry.reading r.reading
    ++ dump_of rotated (picture r.middle) ∷ dump_of rotated (picture r.after) ∷ (time_put_in first r.reading entry.reading
    ++ dump_of rotated entry.picture ∷ [])

-- These bytes alone show exactly these events, and leave nothing of a frame.
abbrev pub ShowsWhole : List ℕ → List Event → Type 0
ShowsWhole bytes events = (timed : List Timed) × Shows bytes timed 0 × (map (λ t. t.event) timed ≡ events)
