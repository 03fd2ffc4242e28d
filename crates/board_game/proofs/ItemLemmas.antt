-- The events among items.
use Rattle.std.proofs.Common.{◌≡◌, ℕ, List, [], ◌∷◌, ◌++◌, reverse, Option, Some, None, refl, sym, ap, ◌∙◌, append_assoc}
use Rattle.std.proofs.lemmas.List.{reverse-append}
use Rattle.dgt_frame.specs.declared.events.Event.{Event}
use Rattle.dgt_frame.specs.Streams.{Timed}
use Rattle.unseen_pairs.specs.declared.pair.Recovery.{Recovery}
use Rattle.board_events.specs.Entries.{entry_at}
use Rattle.board_events.specs.Settings.{Setting}
use Rattle.board_alarms.specs.declared.chunk.Chunk.{Chunk}
use Rattle.pair_frames.specs.PutIn.{put_in}
use Rattle.recovery.specs.Inside.Passing.{added}
use Rattle.board_game.specs.History.{Item, Pair, Sent, events_of, put_in_with, with_events, with_found}

events_with : (time : Chunk) (offset : ℕ) (events : List Event) (items : List Item) → events_of (with_events time offset events items) ≡ reverse events ++ events_of items
events_with time offset [] items = refl
events_with time offset (event ∷ events) items =
    events_with time offset events (Sent time (record { offset = offset; event = event }) ∷ items)
    ∙ sym (append_assoc (reverse events) (event ∷ []) (events_of items))
    ∙ ap (λ (es : List Event). es ++ events_of items) (sym (reverse-append (event ∷ []) events))

-- Of an event with what was recovered at it these are the events with what was put in.
pub events_found : (setting : Setting) (past : List Event) (time : Chunk) (x : Timed) (found : Option Recovery) (items : List Item)
    → events_of (with_found setting past time x found items) ≡ added setting past x.event found (events_of items)
events_found setting past time x None items = refl
events_found setting past time x (Some r) items = events_with (put_in_with time) x.offset
    (put_in setting.first setting.rotated (entry_at setting.first setting.rotated (x.event ∷ past)) r) (Pair time x.offset r ∷ Sent time x ∷ items)

-- one event more behind others
pub with_more : (time : Chunk) (offset : ℕ) (events : List Event) (event : Event) (items : List Item)
    → with_events time offset (events ++ event ∷ []) items ≡ Sent time (record { offset = offset; event = event }) ∷ with_events time offset events items
with_more time offset [] event items = refl
with_more time offset (x ∷ events) event items = with_more time offset events event (Sent time (record { offset = offset; event = x }) ∷ items)
