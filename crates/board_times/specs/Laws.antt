-- What holds of each file of times. Events stand in their order.
use Rattle.std.specs.Prelude.{◌≡◌, ℕ, List, ◌++◌, length}
use Rattle.board_times.specs.declared.events.Event.{Event}
use Rattle.board_times.specs.declared.events.Heading.{Heading}
use Rattle.board_times.specs.declared.reading.Kept.{Kept}
use Rattle.board_times.specs.declared.reading.Found.TheVariants.{Times}
use Rattle.board_times.specs.Times.{AllFit, AreRead, BeginsNoEvent, HeadingFits, IsFound, heading_text, lines_of}

-- What is written reads back: a heading, events, and whatever stands behind them that begins with no event's line.
abbrev pub WrittenIsRead : Type 0
WrittenIsRead = (heading : Heading) (events : List Event) (torn : List ℕ) (kept : Kept)
    → HeadingFits heading → AllFit events → BeginsNoEvent torn
    → IsFound (heading_text heading ++ lines_of events ++ torn) (Times kept)
    → (kept.heading ≡ heading) × (kept.events.items ≡ events) × (kept.rest ≡ length torn)

-- The first bytes of a file give the first of its events.
abbrev pub FirstBytesGiveFirstEvents : Type 0
FirstBytesGiveFirstEvents = (text more : List ℕ) (events all : List Event) (n m : ℕ) → AreRead text events n → AreRead (text ++ more) all m
    → (others : List Event) × (all ≡ events ++ others)
