-- What put in frames do to a stream, and to what is read from it. Events of the past, and entries, are listed with the
-- latest first.
use Rattle.std.specs.Prelude.{◌≡◌, ℕ, ◌+◌, Bool, true, List, [], ◌∷◌, ◌++◌, reverse, length, Option, Some, None, ⊤}
use Rattle.dgt_frame.specs.declared.events.Event.{Event}
use Rattle.dgt_frame.specs.declared.events.Event.TheVariants.{Message as MessageEvent, Fault}
use Rattle.dgt_frame.specs.declared.First.{First}
use Rattle.chess_clock.specs.declared.Reading.{Reading}
use Rattle.chess_clock.specs.Clock.{IsTime}
use Rattle.dgt_frame.specs.Restarts.{moved_on}
use Rattle.dgt_frame.specs.Streams.{Shows, Timed}
use Rattle.chess_rules.specs.Picture.{picture}
use Rattle.settle_core.specs.Entries.{Entry, entry_of}
use Rattle.unseen_pairs.specs.declared.pair.Recovery.{Recovery}
use Rattle.board_events.specs.Commands.{past_of}
use Rattle.board_events.specs.Entries.{entries}
use Rattle.board_events.specs.History.{is_trusted, picture_of, reading_at}
use Rattle.pair_frames.specs.PutIn.{put_in}

-- The latest event is no fault: no byte that follows belongs to it.
abbrev pub EndsWhole : List Event → Type 0
EndsWhole [] = ⊤
EndsWhole (MessageEvent message ∷ past) = ⊤
EndsWhole (Fault kind ∷ past) = ⊥

-- A stream that ends with a frame, and another one behind it: each shows what it shows alone.
abbrev pub StreamsAreJoined : Type 0
StreamsAreJoined = (front back : List ℕ) (events others : List Timed) (rest : ℕ)
    → EndsWhole (past_of events) → Shows front events 0 → Shows back others rest
    → Shows (front ++ back) (events ++ moved_on (length front) others) rest

-- The frames are put in where one frame ends: nothing else of what the stream shows changes.
abbrev pub FramesArePutIn : Type 0
FramesArePutIn = (front frames back : List ℕ) (events middle others : List Timed) (rest : ℕ)
    → EndsWhole (past_of events) → Shows front events 0 → EndsWhole (past_of middle) → Shows frames middle 0 → Shows back others rest
    → Shows (front ++ frames ++ back)
    (events ++ moved_on (length front) middle ++ moved_on (length front + length frames) others) rest

abbrev pub IsRead : Option Reading → Type 0
IsRead None = ⊤
IsRead (Some reading) = IsTime reading.white × IsTime reading.black

-- Behind these events, what was put in leaves the board trusted, the entry's picture and its reading; and it adds the
-- entries of the pair, and the entry again.
pub record IsReadBehind (first : First) (rotated : Bool) (past : List Event) (entry : Entry) (r : Recovery) : Type 0 where
  pub trust : is_trusted (reverse (put_in first rotated entry r) ++ past) ≡ true
  pub shown : picture_of rotated (reverse (put_in first rotated entry r) ++ past) ≡ entry.picture
  pub reading : reading_at first (reverse (put_in first rotated entry r) ++ past) ≡ entry.reading
  pub adds : entries first rotated (reverse (put_in first rotated entry r) ++ past)
      ≡ entry ∷ entry_of (picture r.after) r.reading ∷ entry_of (picture r.middle) r.reading ∷ entries first rotated past

-- So it is behind all events at which the reading is the entry's.
abbrev pub PutInIsRead : Type 0
PutInIsRead = (first : First) (rotated : Bool) (past : List Event) (entry : Entry) (r : Recovery)
    → length entry.picture ≡ 64 → length (picture r.middle) ≡ 64 → length (picture r.after) ≡ 64 → IsRead entry.reading → IsRead r.reading
    → reading_at first past ≡ entry.reading
    → IsReadBehind first rotated past entry r
