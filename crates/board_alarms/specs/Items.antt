-- What comes of a game, listed with the latest first.
use Rattle.std.specs.Prelude.{ℕ, ◌||◌, not, Bool, List, [], ◌∷◌}
use Rattle.dgt_frame.specs.declared.events.Event.{Event}
use Rattle.board_alarms.specs.declared.chunk.Chunk.{Chunk}
use Rattle.board_alarms.specs.declared.news.News.{News}

-- What comes: an event, with the bytes that brought it; or news, at a time.
pub data Item : Type 0 where
  Sent : Chunk → Event → Item
  Noted : ℕ → News → Item

-- the events among them
abbrev pub events_of : List Item → List Event
events_of [] = []
events_of (Sent chunk event ∷ items) = event ∷ events_of items
events_of (Noted at news ∷ items) = events_of items

-- The board has sent these bytes: nobody has added them by hand, and they aren't put in.
abbrev pub is_sent : Chunk → Bool
is_sent chunk = not (chunk.when.is_added || chunk.is_put_in)

-- how many bytes the capture has with the last event
abbrev pub bytes_of : List Item → ℕ
bytes_of [] = 0
bytes_of (Sent chunk event ∷ items) = chunk.end
bytes_of (Noted at news ∷ items) = bytes_of items
