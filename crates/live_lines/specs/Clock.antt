-- The clock of all calls: it counts on from one call to the next. Entries are listed with the latest first, events in their order.
use Rattle.std.specs.Prelude.{◌+◌, ◌-◌, ◌^◌, min, max, ℕ, Bool, true, false, List, [], ◌∷◌}
use Rattle.board_times.specs.declared.events.Event.{Event}
use Rattle.board_times.specs.declared.events.What.TheVariants.{Begins, IsAway}
use Rattle.live_lines.specs.declared.entries.What.{What}
use Rattle.live_lines.specs.declared.entries.What.TheVariants.{Happens}
use Rattle.live_lines.specs.declared.entries.Entry.{Entry}
use Rattle.live_lines.specs.declared.clock.Clock.{Clock}
use Rattle.live_lines.specs.Entries.{brings_capture}
use Rattle.live_lines.specs.Heard.{Heard}

-- A time has 64 bits: what is later counts as the last of them.
abbrev pub capped : ℕ → ℕ
capped n = min n (2 ^ 64 - 1)

-- When the call of an entry began: at the last time of the call before, and later by the time in which nobody was there.
abbrev pub began_by : What → ℕ → ℕ → ℕ
began_by (Happens (Begins n)) last began = last
began_by (Happens (IsAway n)) last began = capped (began + n)
began_by _ last began = began

-- The entry's time counts from there. No time is before the last one.
abbrev pub clock_by : ℕ → ℕ → ℕ → Clock
clock_by began at last = record { began = began; last = max last (capped (began + at)) }

abbrev pub next_clock : Entry → Clock → Clock
next_clock entry clock = clock_by (began_by entry.what clock.last clock.began) entry.at clock.last

-- the clock after an event of a file of times, and after all of them
abbrev pub clock_at : Event → Clock → Clock
clock_at event clock = next_clock (record { at = event.at; what = Happens event.what }) clock

abbrev pub clock_over : Clock → List Event → Clock
clock_over clock [] = clock
clock_over clock (event ∷ events) = clock_over (clock_at event clock) events

-- A capture has the times of its file.
abbrev pub clock_of : Bool → Heard → Clock → Clock
clock_of true heard clock = clock_over clock heard.events
clock_of false heard clock = next_clock heard.entry clock

abbrev pub first_clock : Clock
first_clock = record { began = 0; last = 0 }

-- the clock after these entries
abbrev pub clock_after : List Heard → Clock
clock_after [] = first_clock
clock_after (heard ∷ past) = clock_of (brings_capture heard.entry.what) heard (clock_after past)
