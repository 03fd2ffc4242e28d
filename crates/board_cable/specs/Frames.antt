-- What a board's frames tell of its line. Events are listed with the latest first; bytes, and what they show, as they came.
use Rattle.std.specs.Prelude.{◌≡◌, ℕ, ◌+◌, ◌==◌, ◌&&◌, nat_lt, if◌then◌else◌, List, [], ◌∷◌, ◌++◌, drop, length, take, Option, Some, None}
use Rattle.dgt_frame.specs.declared.events.Event.{Event as Shown}
use Rattle.dgt_frame.specs.declared.events.Event.TheVariants.{Message as MessageEvent, Fault}
use Rattle.dgt_frame.specs.declared.events.Message.TheVariants.{Dump, Update, Time, Other}
use Rattle.dgt_frame.specs.Decoder.{Decoded}
use Rattle.dgt_frame.specs.Streams.{Shows, Timed}
use Rattle.board_cable.specs.declared.line.Event.{Event}
use Rattle.board_cable.specs.declared.line.Happening.{Happening}
use Rattle.board_cable.specs.declared.line.Happening.TheVariants.{Comes, Dumps, Faults, Numbers, Updates}
use Rattle.board_cable.specs.Serial.{is_serial}
use Rattle.board_cable.specs.declared.frames.Frames.{Frames}

-- the last five bytes, with zeros in front of fewer
abbrev pub last_five : List ℕ → List ℕ
last_five bytes = drop (length bytes) (0 ∷ 0 ∷ 0 ∷ 0 ∷ 0 ∷ bytes)

-- A frame of eight bytes has five bytes of data, its last. They may be the board's serial number.
abbrev pub number_in : ℕ → ℕ → List ℕ → Option Happening
number_in id size characters = if (size == 8) && is_serial id characters then Some (Numbers characters) else None

-- what an event tells that comes with the last of these bytes
abbrev pub told_of : Shown → List ℕ → Option Happening
told_of (Fault kind) bytes = Some Faults
told_of (MessageEvent (Dump codes)) bytes = Some (Dumps codes)
told_of (MessageEvent (Update field code)) bytes = Some Updates
told_of (MessageEvent (Time times)) bytes = None
told_of (MessageEvent (Other id size)) bytes = number_in id size (last_five bytes)

abbrev pub with_happening : ℕ → Option Happening → List Event → List Event
with_happening at None before = before
with_happening at (Some what) before = record { at = at; what = what } ∷ before

-- with what these events of the bytes tell
abbrev pub with_shown : ℕ → List ℕ → List Timed → List Event → List Event
with_shown at bytes [] before = before
with_shown at bytes (one ∷ shown) before =
    with_shown at bytes shown (with_happening at (told_of one.event (take (one.offset + 1) bytes)) before)

-- A read of these bytes, after those of the stream, tells the events that come with them, and whether a frame is left unfinished.
abbrev pub TellsRead : ℕ → List ℕ → List ℕ → List Event → List Event → Type 0
TellsRead at stream bytes before now = (old new : List Timed) × (rest last : ℕ)
    × Shows stream old rest × Shows (stream ++ bytes) (old ++ new) last
    × (now ≡ record { at = at; what = Comes (nat_lt 0 last) } ∷ with_shown at (stream ++ bytes) new before)

-- The frames of these bytes were read.
pub record HasFrames (frames : Frames) (bytes : List ℕ) : Type 0 where
  pub events : List Timed
  pub decoded : Decoded frames.decoder bytes events
  pub last_is : frames.last ≡ last_five bytes
