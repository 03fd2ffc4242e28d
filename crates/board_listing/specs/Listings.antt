-- What `show`, `pictures`, `follow` and `watch` list of a stream.
use Rattle.std.specs.Prelude.{◌≡◌, ◌<◌, ◌≤◌, ◌⊎◌, ℕ, List, [], ◌∷◌, ◌++◌, length, reverse, Option, IfSome, Bool, true, false, Contains, ⊤}
use Rattle.std.specs.List.{flat_map}
use Rattle.std.specs.Io.KnownBytes.{Appends, Consumes, Keeps}
use Rattle.watched_streams.specs.Output.{Gathers}
use Rattle.watched_streams.specs.Input.{ReadsWithin}
use Rattle.dgt_frame.specs.Streams.{Shows, Timed}
use Rattle.board_events.specs.Commands.{past_of}
use Rattle.board_events.specs.Limits.{limit}
use Rattle.board_events.specs.Session.{WantsMemory}
use Rattle.board_events.specs.Pictures.{pictures}
use Rattle.board_listing.specs.declared.listing.Listing.{Listing}
use Rattle.board_listing.specs.declared.listing.Listing.TheVariants.{Events, Pictures, Game, Watched}
use Rattle.board_listing.specs.GameText.{TellsEvents}
use Rattle.board_listing.specs.EventLines.{line_of, rest_line}
use Rattle.board_listing.specs.GivenGame.{GameLine, text_of}
use Rattle.board_listing.specs.PictureLines.{placement_line}
use Rattle.board_listing.specs.WatchLines.{position_words}
use Rattle.board_listing.specs.WatchText.{Watches}
use Rattle.watched_streams.specs.Lines.{line}

-- The text is the lines of these events, in their order: `show` has one for each, `pictures` one for each picture that
-- differs from the one before, `follow` those of what each makes of the game, and `watch` these with what the board and
-- the clocks show.
abbrev pub HasLines : Listing → List Timed → List ℕ → Type 0
HasLines Events events text = text ≡ flat_map line_of events
HasLines (Pictures rotated) events text = text ≡ flat_map placement_line (reverse (pictures rotated (past_of events)))
HasLines (Game start first rotated) events text = TellsEvents (record { start = start; first = first; rotated = rotated }) (reverse events) text
HasLines (Watched start first rotated) events text = (lines : List GameLine)
    × Watches (record { start = start; first = first; rotated = rotated }) (reverse events) lines × (text ≡ text_of lines)

-- the first line: `watch` tells the position at the start
abbrev pub first_line : Listing → List ℕ
first_line Events = []
first_line (Pictures rotated) = []
first_line (Game start first rotated) = []
first_line (Watched start first rotated) = line 0 (position_words start)

-- the last line: `show`, `follow` and `watch` tell how many bytes of an unfinished frame are left
abbrev pub last_line : Listing → ℕ → List ℕ
last_line Events rest = rest_line rest
last_line (Pictures rotated) rest = []
last_line (Game start first rotated) rest = rest_line rest
last_line (Watched start first rotated) rest = rest_line rest

-- After these events the memory for the next one may be refused: under `follow` and `watch`, where it gives a move.
abbrev pub LacksMemory : Listing → List Timed → Timed → Type 0
LacksMemory Events events x = ⊥
LacksMemory (Pictures rotated) events x = ⊥
LacksMemory (Game start first rotated) events x = WantsMemory (record { start = start; first = first; rotated = rotated }) (past_of events) x.event
LacksMemory (Watched start first rotated) events x = WantsMemory (record { start = start; first = first; rotated = rotated }) (past_of events) x.event

-- After these events no other was left out, or one for which memory ran out.
abbrev pub LeavesOut : Listing → List Timed → List Timed → Type 0
LeavesOut listing events [] = ⊤
LeavesOut listing events (x ∷ []) = LacksMemory listing events x
LeavesOut listing events (x ∷ y ∷ more) = ⊥

-- All of the input was read, which is within the limit, and the text of what it shows was written.
abbrev pub ListsAll : Listing → Option (List ℕ) → Option (List ℕ) → Option (List ℕ) → Type 0
ListsAll listing input written written' = IfSome input (λ bytes. (events : List Timed) × (rest : ℕ) × (text : List ℕ) × (length bytes ≤ limit)
    × Shows bytes events rest × HasLines listing events text × Appends written written' (text ++ last_line listing rest))

-- The input is longer than the limit, and the lines of its first bytes, so many, were written.
abbrev pub ListsFirst : Listing → Option (List ℕ) → Option (List ℕ) → Option (List ℕ) → Type 0
ListsFirst listing input written written' = IfSome input (λ bytes. (first more : List ℕ) × (events : List Timed) × (rest : ℕ) × (text : List ℕ)
    × (bytes ≡ first ++ more) × (length first ≡ limit) × (0 < length more)
    × Shows first events rest × HasLines listing events text × Appends written written' text)

-- These bytes were read, and the lines of their events were written.
abbrev pub ListsRead : Listing → Option (List ℕ) → Option (List ℕ) → Option (List ℕ) → Option (List ℕ) → Type 0
ListsRead listing input input' written written' = (bytes : List ℕ) × (events : List Timed) × (rest : ℕ) × (text : List ℕ)
    × Consumes input input' bytes × Shows bytes events rest × HasLines listing events text × Appends written written' text

-- A front of the text was written, and no other byte.
abbrev pub WritesFront : Option (List ℕ) → Option (List ℕ) → List ℕ → Type 0
WritesFront written written' text = (left : List ℕ) × Gathers written written' left text

-- Of the bytes that were read, these show a text of which a front was written. The lines are those of all their events,
-- or of those before one for which memory ran out.
abbrev pub ListsFront : Listing → Option (List ℕ) → Option (List ℕ) → Option (List ℕ) → Option (List ℕ) → Type 0
ListsFront listing input input' written written' = (bytes after : List ℕ) × (events extra : List Timed) × (rest : ℕ) × (text : List ℕ)
    × Consumes input input' (bytes ++ after) × Shows bytes (events ++ extra) rest × LeavesOut listing events extra × HasLines listing events text
    × WritesFront written written' (text ++ last_line listing rest)

-- Of the bytes that were read, the last event that these show gives a move, the memory for it was refused, and the
-- lines of the events before it were written.
abbrev pub ListsRefused : Listing → Option (List ℕ) → Option (List ℕ) → Option (List ℕ) → Option (List ℕ) → Type 0
ListsRefused listing input input' written written' = (bytes after : List ℕ) × (events : List Timed) × (refused : Timed) × (rest : ℕ) × (text : List ℕ)
    × Consumes input input' (bytes ++ after) × Shows bytes (events ++ refused ∷ []) rest × LacksMemory listing events refused × HasLines listing events text
    × Appends written written' text

-- Out of memory, nothing was read or written; or, under `follow` and `watch`, a move was refused.
abbrev pub EndsForMemory : Listing → Option (List ℕ) → Option (List ℕ) → Option (List ℕ) → Option (List ℕ) → Type 0
EndsForMemory Events input input' written written' = Keeps input input' × Keeps written written'
EndsForMemory (Pictures rotated) input input' written written' = Keeps input input' × Keeps written written'
EndsForMemory (Game start first rotated) input input' written written' = (Keeps input input' × Keeps written written')
    ⊎ ListsRefused (Game start first rotated) input input' written written'
EndsForMemory (Watched start first rotated) input input' written written' = (Keeps input input' × Keeps written written')
    ⊎ ListsRefused (Watched start first rotated) input input' written written'

-- How a listing ends, by its status.
pub record ListingEnds (listing : Listing) (status : ℕ) (input input' written written' : Option (List ℕ)) (reader_failed out_failed : Bool) : Type 0 where
  -- all was written
  pub done : status ≡ 0 → ListsAll listing input written written'
  -- the stream is past its limit
  pub long : status ≡ 1 → ListsFirst listing input written written'
  -- a stream has failed: where it isn't the reader, a front of the text stands
  pub fault : status ≡ 3 → ((reader_failed ≡ true) × ListsRead listing input input' written written')
      ⊎ ((out_failed ≡ true) × ListsFront listing input input' written written')
  -- out of memory
  pub memory : status ≡ 4 → EndsForMemory listing input input' written written'
  pub known : Contains (0 ∷ 1 ∷ 3 ∷ 4 ∷ []) status
  pub bounded : ReadsWithin limit input input'
  pub whole : status ≡ 0 → (reader_failed ≡ false) × (out_failed ≡ false)
  -- where a read has failed, the lines of all bytes before it stand: they were written before it began
  pub read : reader_failed ≡ true → (status ≡ 3) × ListsRead listing input input' written written'
