-- The clock counts on.
use Rattle.std.proofs.Common.{◌≤◌, ◌+◌, max, ℕ, Bool, true, false, List, [], ◌∷◌, ◌++◌, arith}
use Rattle.board_times.specs.declared.events.Event.{Event}
use Rattle.live_lines.specs.declared.clock.Clock.{Clock}
use Rattle.live_lines.specs.declared.entries.Entry.{Entry}
use Rattle.live_lines.specs.declared.entries.What.TheVariants.{Happens}
use Rattle.live_lines.specs.Clock.{began_by, capped, clock_after, clock_at, clock_of, clock_over, next_clock}
use Rattle.live_lines.specs.Entries.{brings_capture}
use Rattle.live_lines.specs.Heard.{Heard}

no_sooner : (a b c : ℕ) → a ≤ b → a ≤ max b c
no_sooner a b c h = omega (arith, h)

same : (a : ℕ) → a ≤ a
same a = omega arith

along : (a b c : ℕ) → a ≤ b → b ≤ c → a ≤ c
along a b c h k = omega (arith, h, k)

next_goes_on : (entry : Entry) (clock : Clock) → clock.last ≤ (next_clock entry clock).last
next_goes_on entry clock = no_sooner clock.last clock.last (capped (began_by entry.what clock.last clock.began + entry.at)) (same clock.last)

over_goes_on : (events : List Event) (clock : Clock) → clock.last ≤ (clock_over clock events).last
over_goes_on [] clock = same clock.last
over_goes_on (event ∷ events) clock =
    along clock.last (clock_at event clock).last (clock_over (clock_at event clock) events).last
    (next_goes_on (record { at = event.at; what = Happens event.what }) clock) (over_goes_on events (clock_at event clock))

of_goes_on : (brings : Bool) (heard : Heard) (clock : Clock) → clock.last ≤ (clock_of brings heard clock).last
of_goes_on true heard clock = over_goes_on heard.events clock
of_goes_on false heard clock = next_goes_on heard.entry clock

pub goes_on : (later past : List Heard) → (clock_after past).last ≤ (clock_after (later ++ past)).last
goes_on [] past = same (clock_after past).last
goes_on (heard ∷ later) past =
    along (clock_after past).last (clock_after (later ++ past)).last (clock_after (heard ∷ later ++ past)).last
    (goes_on later past) (of_goes_on (brings_capture heard.entry.what) heard (clock_after (later ++ past)))
