-- What the seven data bytes of a time message say: two groups of three bytes, and a status.
use Rattle.std.specs.Prelude.{ℕ, ◌+◌, ◌*◌, ◌/◌, ◌%◌, Bool, ◌&&◌, ◌||◌, ◌==◌, nat_lt, if◌then◌else◌, List, slice_index, Option, Some, None}
use Rattle.chess_clock.specs.Clock.{Clock}
use Rattle.dgt_frame.specs.declared.time.First.{First}
use Rattle.dgt_frame.specs.declared.time.First.TheVariants.{White, Black}
use Rattle.chess_clock.specs.declared.times.Reading.{Reading}

-- bits 6 to 4
abbrev pub tens : ℕ → ℕ
tens byte = byte / 16 % 8

-- bits 3 to 0
abbrev pub units : ℕ → ℕ
units byte = byte % 16

-- the message acknowledges a command to the clock, and is no time
abbrev pub is_acknowledgement : List ℕ → Bool
is_acknowledgement times = (units (slice_index times 0) == 10) || (units (slice_index times 3) == 10)

-- bit 5 of the status: no clock is connected
abbrev pub lacks_clock : List ℕ → Bool
lacks_clock times = (slice_index times 6 / 32 % 2) == 1

-- the byte has the tens and units of minutes or seconds, 0 to 59
abbrev pub are_digits : ℕ → Bool
are_digits byte = nat_lt (tens byte) 6 && nat_lt (units byte) 10

-- the three bytes from here on are hours, minutes and seconds, 0:00:00 to 9:59:59
abbrev pub is_group : List ℕ → ℕ → Bool
is_group times start = nat_lt (units (slice_index times start)) 10
    && are_digits (slice_index times (start + 1)) && are_digits (slice_index times (start + 2))

-- each of the two groups is a time
abbrev pub has_digits : List ℕ → Bool
has_digits times = is_group times 0 && is_group times 3

abbrev pub number_of : ℕ → ℕ
number_of byte = 10 * tens byte + units byte

-- the time of the group from here on
abbrev pub group : List ℕ → ℕ → Clock
group times start = record {
  hours = units (slice_index times start);
  minutes = number_of (slice_index times (start + 1));
  seconds = number_of (slice_index times (start + 2));
}

-- both times, where the first group is the time of this side
abbrev pub reading_of : First → List ℕ → Reading
reading_of White times = record { white = group times 0; black = group times 3 }
reading_of Black times = record { white = group times 3; black = group times 0 }

-- The reading after a time message, where it was `before` until then: the same where the message acknowledges, none
-- where no clock is connected, both groups where they are times, else the same.
abbrev pub reading_after : First → List ℕ → Option Reading → Option Reading
reading_after first times before = if is_acknowledgement times then before
    else (if lacks_clock times then None else (if has_digits times then Some (reading_of first times) else before))
