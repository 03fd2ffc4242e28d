-- What stands while a stream is listed.
use Rattle.std.specs.Prelude.{◌≡◌, ℕ, List, [], ◌∷◌, ◌++◌, length, Option}
use Rattle.std.specs.Io.KnownBytes.{Appends, Consumes}
use Rattle.dgt_frame.specs.declared.decode.Decoder.{Decoder}
use Rattle.dgt_frame.specs.Decoder.{Decoded}
use Rattle.dgt_frame.specs.Streams.{Shows, Timed}
use Rattle.board_listing.specs.declared.stream.ListError.{ListError}
use Rattle.board_listing.specs.declared.stream.ListError.TheVariants.{Memory, Read, TooLong, Write}
use Rattle.board_listing.specs.declared.printer.Printer.{Printer}
use Rattle.board_listing.specs.declared.listing.Listing.{Listing}
use Rattle.board_listing.specs.Inside.Printers.{Follows}
use Rattle.board_listing.specs.Listings.{HasLines, LeavesOut, WritesFront, last_line}
use Rattle.watched_streams.specs.Output.{Gathers}

-- Whatever was gathered before, the lines of this event are gathered too.
abbrev pub GathersEvent : Printer → Option (List ℕ) → List ℕ → Timed → Printer → Option (List ℕ) → List ℕ → Type 0
GathersEvent old written waiting x new written' waiting' = (listing : Listing) (events : List Timed) (text : List ℕ) (begin : Option (List ℕ))
    → Follows old listing events → HasLines listing events text → Gathers begin written waiting text
    → Follows new listing (events ++ x ∷ []) × ((text' : List ℕ) × HasLines listing (events ++ x ∷ []) text' × Gathers begin written' waiting' text')

-- What stands of a text after a refusal: all of it, where memory ran out at the last event, or a front of it.
abbrev pub Stops : ListError → List Timed → Option (List ℕ) → Option (List ℕ) → List ℕ → Type 0
Stops Memory extra begin written' text = ((refused : Timed) × (extra ≡ refused ∷ [])) × Appends begin written' text
Stops Write extra begin written' text = WritesFront begin written' text
Stops Read extra begin written' text = ⊥
Stops TooLong extra begin written' text = ⊥

-- Of these events the lines of all, or of all but one for which memory ran out, were written, as far as this refusal
-- says.
pub record Broken (error : ListError) (listing : Listing) (events : List Timed) (begin written' : Option (List ℕ)) : Type 0 where
  pub taken : List Timed
  pub extra : List Timed
  pub text : List ℕ
  pub parts : events ≡ taken ++ extra
  pub leaves : LeavesOut listing taken extra
  pub lines : HasLines listing taken text
  pub stops : Stops error extra begin written' text

-- Whatever was gathered before, this refusal came at this event.
abbrev pub BreaksLines : Printer → Option (List ℕ) → List ℕ → Timed → ListError → Option (List ℕ) → Type 0
BreaksLines old written waiting x error written' = (listing : Listing) (events : List Timed) (text : List ℕ) (begin : Option (List ℕ))
    → Follows old listing events → HasLines listing events text → Gathers begin written waiting text → Broken error listing (events ++ x ∷ []) begin written'

-- A decoder was given these bytes and a printer has followed their events, of which the lines were written but for
-- those that wait.
pub record Stands (decoder : Decoder) (printer : Printer) (listing : Listing) (bytes : List ℕ) (events : List Timed)
    (begin written : Option (List ℕ)) (waiting : List ℕ) : Type 0 where
  pub decoded : Decoded decoder bytes events
  pub follows : Follows printer listing events
  pub text : List ℕ
  pub lines : HasLines listing events text
  pub gathers : Gathers begin written waiting text

-- Where that stood before this chunk, whose first byte has this offset, it stands with the chunk.
abbrev pub ListsChunk : Decoder → Printer → ℕ → List ℕ → Decoder → Printer → Option (List ℕ) → Option (List ℕ) → List ℕ → Type 0
ListsChunk old printer start chunk new printer' written written' waiting = (listing : Listing) (bytes : List ℕ) (events : List Timed) (begin : Option (List ℕ))
    → length bytes ≡ start → Stands old printer listing bytes events begin written []
    → (later : List Timed) × Stands new printer' listing (bytes ++ chunk) (events ++ later) begin written' waiting

-- Where that stood before this chunk, a part of it was decoded, and this refusal came.
abbrev pub BreaksOff : ListError → Decoder → Printer → ℕ → List ℕ → Decoder → Option (List ℕ) → Option (List ℕ) → Type 0
BreaksOff error old printer start chunk new written written' = (listing : Listing) (bytes : List ℕ) (events : List Timed) (begin : Option (List ℕ))
    → length bytes ≡ start → Stands old printer listing bytes events begin written []
    → (taken after : List ℕ) × (later : List Timed) × (chunk ≡ taken ++ after)
    × Decoded new (bytes ++ taken) (events ++ later) × Broken error listing (events ++ later) begin written'

-- So many bytes were read, and their events listed.
abbrev pub HasListed : Decoder → Printer → Listing → ℕ → Option (List ℕ) → Option (List ℕ) → Option (List ℕ) → Option (List ℕ) → Type 0
HasListed decoder printer listing count input input' written written' = (bytes : List ℕ) × (events : List Timed)
    × (length bytes ≡ count) × Consumes input input' bytes × Stands decoder printer listing bytes events written written' []

-- The last line was written.
abbrev pub Finishes : Decoder → Printer → Option (List ℕ) → Option (List ℕ) → Type 0
Finishes decoder printer written written' = (listing : Listing) (bytes : List ℕ) (events : List Timed) → Decoded decoder bytes events → Follows printer listing events
    → (rest : ℕ) × Shows bytes events rest × Appends written written' (last_line listing rest)

-- A front of the last line was written.
abbrev pub FinishBreaksOff : Decoder → Printer → Option (List ℕ) → Option (List ℕ) → Type 0
FinishBreaksOff decoder printer written written' = (listing : Listing) (bytes : List ℕ) (events : List Timed) → Decoded decoder bytes events → Follows printer listing events
    → (rest : ℕ) × Shows bytes events rest × WritesFront written written' (last_line listing rest)

-- The decoder was given so many bytes.
abbrev pub HasTaken : Decoder → ℕ → Type 0
HasTaken decoder count = (bytes : List ℕ) × (events : List Timed) × Decoded decoder bytes events × (length bytes ≡ count)
