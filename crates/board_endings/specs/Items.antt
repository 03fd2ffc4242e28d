-- What comes of a game, listed with the latest first.
use Rattle.std.specs.Prelude.{ℕ, Bool, List, [], ◌∷◌}
use Rattle.dgt_frame.specs.declared.events.Event.{Event}
use Rattle.board_endings.specs.declared.news.News.{News}

-- What comes at a time: an event, which the board sent or which was added by hand, with so many bytes of the capture; or news.
pub data Item : Type 0 where
  Sent : ℕ → Bool → ℕ → Event → Item
  Noted : ℕ → News → Item

-- the events among them
abbrev pub events_of : List Item → List Event
events_of [] = []
events_of (Sent at added bytes event ∷ items) = event ∷ events_of items
events_of (Noted at news ∷ items) = events_of items

-- how many bytes the capture has with the last event
abbrev pub bytes_of : List Item → ℕ
bytes_of [] = 0
bytes_of (Sent at added bytes event ∷ items) = bytes
bytes_of (Noted at news ∷ items) = bytes_of items
