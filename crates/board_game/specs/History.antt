-- What came of a board, and what is told of it, one thing after the other. Lists have the latest first, but the events of
-- bytes and what is put in, which stand in their order.
use Rattle.std.specs.Prelude.{◌≡◌, ◌-◌, ℕ, Bool, true, false, List, [], ◌∷◌, ◌++◌, length, map, reverse, Option, Some, None}
use Rattle.dgt_frame.specs.declared.events.Event.{Event}
use Rattle.dgt_frame.specs.Streams.{Shows, Timed}
use Rattle.unseen_pairs.specs.declared.pair.Recovery.{Recovery}
use Rattle.board_events.specs.Commands.{past_of}
use Rattle.board_events.specs.Entries.{entry_at}
use Rattle.board_events.specs.Limits.{limit}
use Rattle.board_events.specs.Settings.{Setting}
use Rattle.board_alarms.specs.declared.chunk.When.{When}
use Rattle.board_alarms.specs.declared.chunk.Chunk.{Chunk}
use Rattle.board_game.specs.declared.note.Note.{Note}
use Rattle.pair_frames.specs.PutIn.{put_in}
use Rattle.recovery.specs.Keeping.{RecoversAt}

-- What came at a time: bytes of the board, or bytes that were added by hand; or what isn't in the bytes.
pub data Came : Type 0 where
  Bytes : When → List ℕ → Came
  News : ℕ → Note → Came

-- all bytes that came, in their order
abbrev pub bytes_of : List Came → List ℕ
bytes_of [] = []
bytes_of (Bytes time bytes ∷ past) = bytes_of past ++ bytes
bytes_of (News time note ∷ past) = bytes_of past

-- how many bytes more are taken
abbrev pub room_of : List Came → ℕ
room_of past = limit - length (bytes_of past)

-- The bytes show these events.
abbrev pub AreShown : List ℕ → List Timed → Type 0
AreShown bytes events = (rest : ℕ) × Shows bytes events rest

-- the bytes that come at this time, with which these are all so far
abbrev pub chunk_of : When → List ℕ → Chunk
chunk_of time all = record { when = time; end = length all; is_put_in = false }

-- The capture doesn't have these bytes: they are put in with those.
abbrev pub put_in_with : Chunk → Chunk
put_in_with chunk = record { when = chunk.when; end = chunk.end; is_put_in = true }

-- What is told, with the bytes that brought it: an event, which the board sent, or which was added by hand or is put in, at its offset;
-- a pair of plies that was recovered at this offset. Or, with its time, what isn't in the bytes.
pub data Item : Type 0 where
  Sent : Chunk → Timed → Item
  Pair : Chunk → ℕ → Recovery → Item
  Noted : ℕ → Note → Item

-- the events among them
abbrev pub events_of : List Item → List Event
events_of [] = []
events_of (Sent chunk x ∷ items) = x.event ∷ events_of items
events_of (Pair chunk offset r ∷ items) = events_of items
events_of (Noted time note ∷ items) = events_of items

-- events of one chunk and at one offset, behind these items
abbrev pub with_events : Chunk → ℕ → List Event → List Item → List Item
with_events chunk offset [] items = items
with_events chunk offset (event ∷ events) items = with_events chunk offset events (Sent chunk (record { offset = offset; event = event }) ∷ items)

-- an event, and what was recovered at it: the pair, and the events that are put in for it, all with the offset of the
-- event
abbrev pub with_found : Setting → List Event → Chunk → Timed → Option Recovery → List Item → List Item
with_found setting past chunk x None items = Sent chunk x ∷ items
with_found setting past chunk x (Some r) items = with_events (put_in_with chunk) x.offset
    (put_in setting.first setting.rotated (entry_at setting.first setting.rotated (x.event ∷ past)) r) (Pair chunk x.offset r ∷ Sent chunk x ∷ items)

-- What is recovered at an event after these: what its picture confirms, or nothing where no pairs are recovered.
abbrev pub Finds : Setting → Bool → List Event → Event → Option Recovery → Type 0
Finds setting false past event found = found ≡ None
Finds setting true past event found = RecoversAt setting past event found

-- Behind the first items come those of the second events, which this chunk brings; the first events came before.
abbrev pub Adds : Setting → Bool → Chunk → List Event → List Timed → List Item → List Item → Type 0
Adds setting recovers chunk past [] before items = items ≡ before
Adds setting recovers chunk past (x ∷ more) before items = (earlier : List Item) × (found : Option Recovery)
    × Adds setting recovers chunk past more before earlier × Finds setting recovers (map (λ t. t.event) more ++ past) x.event found
    × (items ≡ with_found setting (map (λ t. t.event) more ++ past) chunk x found earlier)

-- What is told of what came. Bytes bring the events that they complete: those that all bytes so far show more than the
-- bytes before.
abbrev pub Makes : Setting → Bool → List Came → List Item → Type 0
Makes setting recovers [] items = items ≡ []
Makes setting recovers (Bytes time bytes ∷ past) items = (before : List Item) × (events more : List Timed) × Makes setting recovers past before
    × AreShown (bytes_of past) events × AreShown (bytes_of past ++ bytes) (events ++ reverse more)
    × Adds setting recovers (chunk_of time (bytes_of past ++ bytes)) (past_of events) more before items
Makes setting recovers (News time note ∷ past) items = (before : List Item) × Makes setting recovers past before × (items ≡ Noted time note ∷ before)
