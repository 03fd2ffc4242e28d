-- What is listed as one text.
use Rattle.std.proofs.Common.{◌≡◌, ◌∙◌, ℕ, Bool, List, [], ◌∷◌, ◌++◌, Option, Some, None, inl, inr, ap, refl, subst, append-nil}
use Rattle.std.specs.Io.KnownBytes.{Appends, Keeps}
use Rattle.dgt_frame.specs.Streams.{Shows, Timed}
use Rattle.board_listing.specs.declared.listing.Listing.{Listing}
use Rattle.board_listing.specs.declared.listing.Listing.TheVariants.{Events, Pictures}
use Rattle.board_listing.specs.EventLines.{rest_line}
use Rattle.board_listing.specs.Listings.{EndsForMemory, HasLines, LeavesOut, ListingEnds, ListsAll, ListsFirst, ListsFront, ListsRead, LacksMemory, WritesFront, last_line}
use Rattle.board_listing.specs.OneText.{TextEnds, WritesAll, WritesFirst, WritesPart, WritesRead, event_lines, no_line, picture_lines}

-- What is listed has one text, and memory runs out at no event.
record HasOneText (listing : Listing) (lines : List Timed → List ℕ) (last : ℕ → List ℕ) : Type 0 where
  text : (events : List Timed) (text : List ℕ) → HasLines listing events text → text ≡ lines events
  ending : (rest : ℕ) → last_line listing rest ≡ last rest
  granted : (events : List Timed) (x : Timed) → LacksMemory listing events x → ⊥
  memory : (input input' written written' : Option (List ℕ)) → EndsForMemory listing input input' written written' → Keeps input input' × Keeps written written'

whole_text : (listing : Listing) (lines : List Timed → List ℕ) (last : ℕ → List ℕ) → HasOneText listing lines last → (events : List Timed) (rest : ℕ) (text : List ℕ) → HasLines listing events text
    → text ++ last_line listing rest ≡ lines events ++ last rest
whole_text listing lines last one events rest text has = ap (λ t. t ++ last_line listing rest) (one.text events text has) ∙ ap (λ t. lines events ++ t) (one.ending rest)

all_text : (listing : Listing) (lines : List Timed → List ℕ) (last : ℕ → List ℕ) → HasOneText listing lines last → (input written written' : Option (List ℕ)) → ListsAll listing input written written'
    → WritesAll lines last input written written'
all_text listing lines last one None written written' all = tt
all_text listing lines last one (Some bytes) written written' (events, rest, text, within, shows, has, appends) =
    let P : List ℕ → Type 0 = λ t. Appends written written' t in
    (events, rest, within, shows, subst P (whole_text listing lines last one events rest text has) appends)

first_text : (listing : Listing) (lines : List Timed → List ℕ) (last : ℕ → List ℕ) → HasOneText listing lines last → (input written written' : Option (List ℕ)) → ListsFirst listing input written written'
    → WritesFirst lines input written written'
first_text listing lines last one None written written' all = tt
first_text listing lines last one (Some bytes) written written' (first, more, events, rest, text, parts, len, left, shows, has, appends) =
    let P : List ℕ → Type 0 = λ t. Appends written written' t in
    (first, more, events, rest, parts, len, left, shows, subst P (one.text events text has) appends)

read_text : (listing : Listing) (lines : List Timed → List ℕ) (last : ℕ → List ℕ) → HasOneText listing lines last → (input input' written written' : Option (List ℕ))
    → ListsRead listing input input' written written' → WritesRead lines input input' written written'
read_text listing lines last one input input' written written' (bytes, events, rest, text, consumes, shows, has, appends) =
    let P : List ℕ → Type 0 = λ t. Appends written written' t in
    (bytes, events, rest, consumes, shows, subst P (one.text events text has) appends)

-- No event was left out.
none_left : (listing : Listing) (lines : List Timed → List ℕ) (last : ℕ → List ℕ) → HasOneText listing lines last → (bytes : List ℕ) (events extra : List Timed) (rest : ℕ) → LeavesOut listing events extra
    → Shows bytes (events ++ extra) rest → Shows bytes events rest
none_left listing lines last one bytes events [] rest leaves shows = let P : List Timed → Type 0 = λ es. Shows bytes es rest in subst P (append-nil events) shows
none_left listing lines last one bytes events (x ∷ []) rest leaves shows = absurd (one.granted events x leaves)
none_left listing lines last one bytes events (x ∷ y ∷ more) rest leaves shows = absurd leaves

part_text : (listing : Listing) (lines : List Timed → List ℕ) (last : ℕ → List ℕ) → HasOneText listing lines last → (input input' written written' : Option (List ℕ))
    → ListsFront listing input input' written written' → WritesPart lines last input input' written written'
part_text listing lines last one input input' written written' (bytes, after, events, extra, rest, text, consumes, shows, leaves, has, front) =
    let P : List ℕ → Type 0 = λ t. WritesFront written written' t in
    (bytes, after, events, rest, consumes, none_left listing lines last one bytes events extra rest leaves shows, subst P (whole_text listing lines last one events rest text has) front)

text_ends : (listing : Listing) (lines : List Timed → List ℕ) (last : ℕ → List ℕ) → HasOneText listing lines last → (status : ℕ) (input input' written written' : Option (List ℕ)) (reader_failed out_failed : Bool)
    → ListingEnds listing status input input' written written' reader_failed out_failed → TextEnds lines last status input input' written written' reader_failed out_failed
text_ends listing lines last one status input input' written written' reader_failed out_failed ends = record {
  done = λ e. all_text listing lines last one input written written' (ends.done e);
  long = λ e. first_text listing lines last one input written written' (ends.long e);
  fault = λ e. elim (ends.fault e) [
    | inl read ↦ inl (read.0, read_text listing lines last one input input' written written' read.1)
    | inr wrote ↦ inr (wrote.0, part_text listing lines last one input input' written written' wrote.1)
  ];
  memory = λ e. one.memory input input' written written' (ends.memory e);
  known = ends.known;
  bounded = ends.bounded;
  whole = ends.whole;
  read = λ e. (let blamed = ends.read e in (blamed.0, read_text listing lines last one input input' written written' blamed.1));
}

pub events_end : (status : ℕ) (input input' written written' : Option (List ℕ)) (reader_failed out_failed : Bool) → ListingEnds Events status input input' written written' reader_failed out_failed
    → TextEnds event_lines rest_line status input input' written written' reader_failed out_failed
events_end = text_ends Events event_lines rest_line (record {
  text = λ events text has. has;
  ending = λ rest. refl;
  granted = λ events x refuses. refuses;
  memory = λ input input' written written' ends. ends;
})

pub pictures_end : (rotated : Bool) (status : ℕ) (input input' written written' : Option (List ℕ)) (reader_failed out_failed : Bool)
    → ListingEnds (Pictures rotated) status input input' written written' reader_failed out_failed
    → TextEnds (picture_lines rotated) no_line status input input' written written' reader_failed out_failed
pictures_end rotated = text_ends (Pictures rotated) (picture_lines rotated) no_line (record {
  text = λ events text has. has;
  ending = λ rest. refl;
  granted = λ events x refuses. refuses;
  memory = λ input input' written written' ends. ends;
})
