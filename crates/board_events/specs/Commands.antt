-- What is sent to a board over a list of events, and how many of them count as messages and how many as faults. Lists
-- of timed events stand in their order, lists of events alone have the latest first.
use Rattle.std.specs.Prelude.{ℕ, not, if◌then◌else◌, List, [], ◌∷◌, ◌++◌, map, reverse, count_by}
use Rattle.dgt_frame.specs.declared.events.Event.{Event}
use Rattle.dgt_frame.specs.Streams.{Timed}
use Rattle.board_events.specs.History.{is_fault}

-- the events alone, the latest first
abbrev pub past_of : List Timed → List Event
past_of events = reverse (map (λ t. t.event) events)

-- what is sent at an event: a fault asks for a dump
abbrev pub asked : Event → List ℕ
asked event = if is_fault event then 0x42 ∷ [] else []

-- all that is sent over these events: first a dump and field updates are asked for, then a dump at each fault
abbrev pub asks : List Event → List ℕ
asks [] = 0x42 ∷ 0x4B ∷ []
asks (event ∷ past) = asks past ++ asked event

-- all that is sent to the board over these events, in the order of the events
abbrev pub commands : List Timed → List ℕ
commands events = asks (past_of events)

-- Every event that is no fault is counted as a message.
abbrev pub messages_in : List Timed → ℕ
messages_in events = count_by (λ t. not (is_fault t.event)) events

-- Every fault is counted as one.
abbrev pub faults_in : List Timed → ℕ
faults_in events = count_by (λ t. is_fault t.event) events
