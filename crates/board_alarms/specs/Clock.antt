-- What is heard of the clock. Events are listed with the latest first.
use Rattle.std.specs.Prelude.{ℕ, ◌+◌, ◌*◌, ◌/◌, ◌%◌, ◌==◌, not, Bool, true, false, nat_lt, List, [], ◌∷◌, Option, Some, None, is_some, slice_index, if◌then◌else◌}
use Rattle.chess_clock.specs.Clock.{Clock}
use Rattle.chess_clock.specs.declared.times.Reading.{Reading}
use Rattle.dgt_frame.specs.declared.events.Event.{Event}
use Rattle.dgt_frame.specs.declared.events.Event.TheVariants.{Message as MessageEvent, Fault}
use Rattle.dgt_frame.specs.declared.events.Message.TheVariants.{Dump, Update, Time, Other}
use Rattle.board_doubts.specs.declared.heard.Heard.{Heard}
use Rattle.board_doubts.specs.declared.heard.Heard.TheVariants.{Clock as ClockSays, Presses, Counts}
use Rattle.board_doubts.specs.Clock.{running}
use Rattle.board_alarms.specs.declared.chunk.Chunk.{Chunk}
use Rattle.board_alarms.specs.Items.{Item, Sent, Noted, is_sent}

abbrev pub seconds_of : Clock → ℕ
seconds_of time = 3600 * time.hours + (60 * time.minutes + time.seconds)

abbrev pub goes_down : Clock → Clock → Bool
goes_down old new = nat_lt (seconds_of new) (seconds_of old)

-- whose time goes down, if one side's does and the other's doesn't
abbrev pub counts_by : Bool → Bool → Option Heard
counts_by white black = if white then (if black then None else Some (Counts false)) else (if black then Some (Counts true) else None)

-- the same, from one reading to the next
abbrev pub counts_of : Option Reading → Option Reading → Option Heard
counts_of (Some old) (Some new) = counts_by (goes_down old.white new.white) (goes_down old.black new.black)
counts_of old new = None

-- where the clock's lever is: bit 1 of the last of the seven bytes of a time message, if they say something of a clock
abbrev pub lever_of : List ℕ → Option Bool
lever_of bytes = if is_some (running bytes) then Some (slice_index bytes 6 / 2 % 2 == 1) else None

-- what a message says of the lever
abbrev pub lever_in : Event → Option Bool
lever_in (MessageEvent (Time bytes)) = lever_of bytes
lever_in (MessageEvent (Dump codes)) = None
lever_in (MessageEvent (Update field code)) = None
lever_in (MessageEvent (Other id size)) = None
lever_in (Fault kind) = None

-- and whether the clock runs
abbrev pub running_in : Event → Option Bool
running_in (MessageEvent (Time bytes)) = running bytes
running_in (MessageEvent (Dump codes)) = None
running_in (MessageEvent (Update field code)) = None
running_in (MessageEvent (Other id size)) = None
running_in (Fault kind) = None

-- Only what the board has sent says something of the clock. A time that is added or put in goes with a ply, and nothing else.
abbrev pub lever_said : Chunk → Event → Option Bool
lever_said chunk event = if is_sent chunk then lever_in event else None

abbrev pub runs_said : Chunk → Event → Option Bool
runs_said chunk event = if is_sent chunk then running_in event else None

abbrev pub counts_said : Chunk → Option Reading → Option Reading → Option Heard
counts_said chunk old new = if is_sent chunk then counts_of old new else None

abbrev pub later : Option Bool → Option Bool → Option Bool
later None before = before
later (Some now) before = Some now

-- where the lever was said to be last
abbrev pub lever_at : List Item → Option Bool
lever_at [] = None
lever_at (Sent chunk event ∷ items) = later (lever_said chunk event) (lever_at items)
lever_at (Noted at news ∷ items) = lever_at items

-- Somebody has pressed the clock if its lever was elsewhere before.
abbrev pub presses_of : Option Bool → Option Bool → Option Heard
presses_of (Some now) (Some before) = if (if now then not before else before) then Some Presses else None
presses_of now before = None

abbrev pub clock_of : Option Bool → Option Heard
clock_of None = None
clock_of (Some runs) = Some (ClockSays runs)
