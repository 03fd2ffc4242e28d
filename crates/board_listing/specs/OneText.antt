-- What `show` and `pictures` write: the one text that these lines of the events and this last line are.
use Rattle.std.specs.Prelude.{◌≡◌, ◌<◌, ◌≤◌, ◌⊎◌, ℕ, List, [], ◌∷◌, ◌++◌, length, reverse, Option, IfSome, Bool, true, false, Contains}
use Rattle.std.specs.List.{flat_map}
use Rattle.std.specs.Io.KnownBytes.{Appends, Consumes, Keeps}
use Rattle.dgt_frame.specs.Streams.{Shows, Timed}
use Rattle.board_events.specs.Commands.{past_of}
use Rattle.board_events.specs.Limits.{limit}
use Rattle.board_events.specs.Pictures.{pictures}
use Rattle.board_listing.specs.EventLines.{line_of}
use Rattle.watched_streams.specs.Input.{ReadsWithin}
use Rattle.board_listing.specs.Listings.{WritesFront}
use Rattle.board_listing.specs.PictureLines.{placement_line}

-- the lines of `show`: one for each event
abbrev pub event_lines : List Timed → List ℕ
event_lines events = flat_map line_of events

-- the lines of `pictures`: one for each picture that differs from the one before
abbrev pub picture_lines : Bool → List Timed → List ℕ
picture_lines rotated events = flat_map placement_line (reverse (pictures rotated (past_of events)))

-- no last line
abbrev pub no_line : ℕ → List ℕ
no_line rest = []

-- All of the input was read, which is within the limit, and the text of what it shows was written.
abbrev pub WritesAll : (List Timed → List ℕ) → (ℕ → List ℕ) → Option (List ℕ) → Option (List ℕ) → Option (List ℕ) → Type 0
WritesAll lines last input written written' = IfSome input (λ bytes. (events : List Timed) × (rest : ℕ) × (length bytes ≤ limit)
    × Shows bytes events rest × Appends written written' (lines events ++ last rest))

-- The input is longer than the limit, and the lines of its first bytes, so many, were written.
abbrev pub WritesFirst : (List Timed → List ℕ) → Option (List ℕ) → Option (List ℕ) → Option (List ℕ) → Type 0
WritesFirst lines input written written' = IfSome input (λ bytes. (first more : List ℕ) × (events : List Timed) × (rest : ℕ)
    × (bytes ≡ first ++ more) × (length first ≡ limit) × (0 < length more)
    × Shows first events rest × Appends written written' (lines events))

-- These bytes were read, and the lines of their events were written.
abbrev pub WritesRead : (List Timed → List ℕ) → Option (List ℕ) → Option (List ℕ) → Option (List ℕ) → Option (List ℕ) → Type 0
WritesRead lines input input' written written' = (bytes : List ℕ) × (events : List Timed) × (rest : ℕ)
    × Consumes input input' bytes × Shows bytes events rest × Appends written written' (lines events)

-- Of the bytes that were read, these show a text of which a front was written.
abbrev pub WritesPart : (List Timed → List ℕ) → (ℕ → List ℕ) → Option (List ℕ) → Option (List ℕ) → Option (List ℕ) → Option (List ℕ) → Type 0
WritesPart lines last input input' written written' = (bytes after : List ℕ) × (events : List Timed) × (rest : ℕ)
    × Consumes input input' (bytes ++ after) × Shows bytes events rest × WritesFront written written' (lines events ++ last rest)

-- How the writing of such a text ends, by the status.
pub record TextEnds (lines : List Timed → List ℕ) (last : ℕ → List ℕ) (status : ℕ) (input input' written written' : Option (List ℕ)) (reader_failed out_failed : Bool) : Type 0 where
  -- all was written
  pub done : status ≡ 0 → WritesAll lines last input written written'
  -- the stream is past its limit
  pub long : status ≡ 1 → WritesFirst lines input written written'
  -- a stream has failed: where it isn't the reader, a front of the text stands
  pub fault : status ≡ 3 → ((reader_failed ≡ true) × WritesRead lines input input' written written')
      ⊎ ((out_failed ≡ true) × WritesPart lines last input input' written written')
  -- out of memory, nothing was read or written
  pub memory : status ≡ 4 → Keeps input input' × Keeps written written'
  pub known : Contains (0 ∷ 1 ∷ 3 ∷ 4 ∷ []) status
  pub bounded : ReadsWithin limit input input'
  pub whole : status ≡ 0 → (reader_failed ≡ false) × (out_failed ≡ false)
  -- where a read has failed, the lines of all bytes before it stand: they were written before it began
  pub read : reader_failed ≡ true → (status ≡ 3) × WritesRead lines input input' written written'
