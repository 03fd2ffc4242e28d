-- One more event, in the order in which a stream shows them.
use Rattle.std.proofs.Common.{◌≡◌, ℕ, List, [], ◌∷◌, ◌++◌, map, reverse, refl, ◌∙◌, ap}
use Rattle.std.proofs.lemmas.List.{map-append, reverse-append}
use Rattle.dgt_frame.specs.declared.events.Event.{Event}
use Rattle.dgt_frame.specs.Streams.{Timed}
use Rattle.dgt_frame.specs.Restarts.{moved_on}
use Rattle.board_events.specs.Commands.{asked, asks, commands, past_of}

-- the event at this offset
abbrev pub at : ℕ → Event → Timed
at offset event = record { offset = offset; event = event }

-- the events of two lists, and of those of other bytes
pub past_both : (a b : List Timed) → past_of (a ++ b) ≡ past_of b ++ past_of a
past_both a b = ap reverse (map-append (λ (t : Timed). t.event) a b) ∙ reverse-append (map (λ (t : Timed). t.event) a) (map (λ (t : Timed). t.event) b)

events_moved : (by : ℕ) (events : List Timed) → map (λ (t : Timed). t.event) (moved_on by events) ≡ map (λ (t : Timed). t.event) events
events_moved by [] = refl
events_moved by (x ∷ events) = ap (λ es. x.event ∷ es) (events_moved by events)

pub past_moved : (by : ℕ) (events : List Timed) → past_of (moved_on by events) ≡ past_of events
past_moved by events = ap reverse (events_moved by events)

pub past_more : (taken : List Timed) (offset : ℕ) (event : Event) → past_of (taken ++ at offset event ∷ []) ≡ event ∷ past_of taken
past_more taken offset event = past_both taken (at offset event ∷ [])

pub commands_more : (taken : List Timed) (offset : ℕ) (event : Event) → commands (taken ++ at offset event ∷ []) ≡ commands taken ++ asked event
commands_more taken offset event = ap asks (past_more taken offset event)
