-- What stands when a stream has been listed, wholly or in part.
use Rattle.std.proofs.Common.{◌≡◌, ◌⊎◌, inl, inr, ℕ, ◌+◌, ◌≤◌, List, [], ◌∷◌, ◌++◌, length, take, Option, Some, None, Result, Ok, Err, OnErr, OnOk, false, true, refl, sym, ◌∙◌, ap, subst, append_assoc, append-nil, length-append, arith}
use Rattle.std.proofs.KnownBytes.{Appends-trans, Consumes-kept, Consumes-trans}
use Rattle.std.proofs.lemmas.List.{length-take-le}
use Rattle.std.specs.Io.KnownBytes.{Appends, Consumes, IsAtEnd, Keeps}
use Rattle.dgt_frame.specs.declared.decode.Decoder.{Decoder}
use Rattle.watched_streams.specs.declared.chunks.ReadChunk.{ReadChunk}
use Rattle.dgt_frame.specs.Decoder.{Decoded}
use Rattle.watched_streams.specs.Input.{GivesChunk}
use Rattle.dgt_frame.specs.Streams.{Shows, Timed}
use Rattle.board_events.specs.Limits.{limit}
use Rattle.board_listing.specs.declared.printer.Printer.{Printer}
use Rattle.board_listing.specs.declared.listing.Listing.{Listing}
use Rattle.board_listing.specs.declared.listing.Listing.TheVariants.{Events, Pictures, Game, Watched}
use Rattle.board_listing.specs.Inside.Printers.{Follows, HasBegun}
use Rattle.watched_streams.specs.Input.{ReadsWithin}
use Rattle.board_listing.specs.Listings.{HasLines, LeavesOut, ListsAll, ListsFirst, ListsFront, ListsRead, ListsRefused, WritesFront, first_line, last_line}
use Rattle.watched_streams.specs.Output.{Gathers}
use Rattle.watched_streams.proofs.InputLemmas.{cut_bytes}
use Rattle.board_listing.specs.WatchLines.{position_words}
use Rattle.board_listing.specs.WatchText.{line_with}
use Rattle.board_listing.specs.Inside.Progress.{BreaksOff, FinishBreaksOff, Finishes, HasListed, HasTaken, ListsChunk, Stops}
use Rattle.board_listing.specs.declared.stream.ListError.{ListError}
use Rattle.board_listing.specs.declared.stream.ListError.TheVariants.{Memory, Read, TooLong, Write}

-- the decoder was given so many bytes
pub has_taken : (decoder : Decoder) (printer : Printer) (listing : Listing) (count : ℕ) (input now written so_far : Option (List ℕ))
    → HasListed decoder printer listing count input now written so_far → HasTaken decoder count
has_taken decoder printer listing count input now written so_far done = (done.0, done.1, done.4.decoded, done.2)

-- What is known of a decoder that tells the rest.
abbrev pub Concludes : Decoder → ℕ → Type 0
Concludes decoder rest = (bytes : List ℕ) (events : List Timed) → Decoded decoder bytes events → Shows bytes events rest

written_all : (written written' : Option (List ℕ)) (text : List ℕ) → Gathers written written' [] text → Appends written written' text
written_all written written' text gathered =
    let P : List ℕ → Type 0 = λ bs. Appends written written' bs in
    subst P (sym (append-nil gathered.0) ∙ sym gathered.1) gathered.2

-- All that was read was listed, up to the last line.
pub read_so_far : (decoder : Decoder) (printer : Printer) (listing : Listing) (count rest : ℕ) (input now left written so_far : Option (List ℕ))
    → HasListed decoder printer listing count input now written so_far → Keeps now left → Concludes decoder rest → ListsRead listing input left written so_far
read_so_far decoder printer listing count rest input now left written so_far done kept concludes =
    (done.0, done.1, rest, done.4.text, Consumes-kept input now left done.0 done.3 kept, concludes done.0 done.1 done.4.decoded, done.4.lines, written_all written so_far done.4.text done.4.gathers)

pub front_of_read : (listing : Listing) (input left written so_far : Option (List ℕ)) → ListsRead listing input left written so_far → ListsFront listing input left written so_far
front_of_read listing input left written so_far read = (
  read.0,
  [],
  read.1,
  [],
  read.2,
  read.3,
  (let P : List ℕ → Type 0 = λ bs. Consumes input left bs in subst P (sym (append-nil read.0)) read.4),
  (let P : List Timed → Type 0 = λ es. Shows read.0 es read.2 in subst P (sym (append-nil read.1)) read.5),
  tt,
  read.6,
  (last_line listing read.2, (read.3, refl, read.7)),
)

-- a front of a text is one of a longer text
front_longer : (written written' : Option (List ℕ)) (text more : List ℕ) → WritesFront written written' text → WritesFront written written' (text ++ more)
front_longer written written' text more front = (front.0 ++ more, (front.1.0, ap (λ bs. bs ++ more) front.1.1 ∙ append_assoc front.1.0 front.0 more, front.1.2))

-- what stands after a refusal is a front
front_stopped : (error : ListError) (extra : List Timed) (written written' : Option (List ℕ)) (text : List ℕ) → Stops error extra written written' text → WritesFront written written' text
front_stopped Memory extra written written' text stops = ([], (text, sym (append-nil text), stops.1))
front_stopped Write extra written written' text stops = stops
front_stopped Read extra written written' text stops = absurd stops
front_stopped TooLong extra written written' text stops = absurd stops

-- A refusal came amid a chunk.
pub front_at_chunk : (error : ListError) (old new : Decoder) (printer : Printer) (listing : Listing) (count rest room : ℕ) (buffer : List ℕ) (chunk : ReadChunk) (input now left written so_far after : Option (List ℕ))
    → HasListed old printer listing count input now written so_far → GivesChunk room buffer chunk now left → BreaksOff error old printer count (take chunk.within buffer) new so_far after → Concludes new rest
    → ListsFront listing input left written after
front_at_chunk error old new printer listing count rest room buffer chunk input now left written so_far after done gives breaks concludes =
    let heard = take chunk.within buffer in
    let bytes = done.0 in
    let events = done.1 in
    let cut = breaks listing bytes events written done.2 done.4 in
    let broken = cut.5 in
    let consumed : Consumes input left (bytes ++ (heard ++ gives.beyond)) = Consumes-trans input now left bytes (heard ++ gives.beyond) done.3 gives.consumes in
    let P : List ℕ → Type 0 = λ bs. Consumes input left bs in
    let Q : List Timed → Type 0 = λ es. Shows (bytes ++ cut.0) es rest in (
      bytes ++ cut.0,
      cut.1 ++ gives.beyond,
      broken.taken,
      broken.extra,
      rest,
      broken.text,
      subst P (cut_bytes bytes heard cut.0 cut.1 gives.beyond cut.3) consumed,
      subst Q broken.parts (concludes (bytes ++ cut.0) (events ++ cut.2) cut.4),
      broken.leaves,
      broken.lines,
      front_longer written after broken.text (last_line listing rest) (front_stopped error broken.extra written after broken.text broken.stops),
    )

-- Memory ran out amid a chunk.
pub refused_at_chunk : (old new : Decoder) (printer : Printer) (listing : Listing) (count rest room : ℕ) (buffer : List ℕ) (chunk : ReadChunk) (input now left written so_far after : Option (List ℕ))
    → HasListed old printer listing count input now written so_far → GivesChunk room buffer chunk now left → BreaksOff Memory old printer count (take chunk.within buffer) new so_far after → Concludes new rest
    → ListsRefused listing input left written after
refused_at_chunk old new printer listing count rest room buffer chunk input now left written so_far after done gives breaks concludes =
    let heard = take chunk.within buffer in
    let bytes = done.0 in
    let events = done.1 in
    let cut = breaks listing bytes events written done.2 done.4 in
    let broken = cut.5 in
    let refused = broken.stops.0.0 in
    let only : broken.extra ≡ refused ∷ [] = broken.stops.0.1 in
    let consumed : Consumes input left (bytes ++ (heard ++ gives.beyond)) = Consumes-trans input now left bytes (heard ++ gives.beyond) done.3 gives.consumes in
    let P : List ℕ → Type 0 = λ bs. Consumes input left bs in
    let Q : List Timed → Type 0 = λ es. Shows (bytes ++ cut.0) es rest in
    let L : List Timed → Type 0 = λ es. LeavesOut listing broken.taken es in (
      bytes ++ cut.0,
      cut.1 ++ gives.beyond,
      broken.taken,
      refused,
      rest,
      broken.text,
      subst P (cut_bytes bytes heard cut.0 cut.1 gives.beyond cut.3) consumed,
      subst Q (broken.parts ∙ ap (λ es. broken.taken ++ es) only) (concludes (bytes ++ cut.0) (events ++ cut.2) cut.4),
      subst L only broken.leaves,
      broken.lines,
      broken.stops.1,
    )

-- A chunk was listed.
pub listed_more : (old new : Decoder) (printer printer' : Printer) (listing : Listing) (count room : ℕ) (buffer : List ℕ) (chunk : ReadChunk) (input now left written so_far after : Option (List ℕ))
    → chunk.past ≡ false → HasListed old printer listing count input now written so_far → GivesChunk room buffer chunk now left
    → ListsChunk old printer count (take chunk.within buffer) new printer' so_far after []
    → HasListed new printer' listing (count + chunk.within) input left written after
listed_more old new printer printer' listing count room buffer chunk input now left written so_far after within done gives lists =
    let heard = take chunk.within buffer in
    let given = lists listing done.0 done.1 written done.2 done.4 in (
      done.0 ++ heard,
      done.1 ++ given.0,
      omega (arith, length-append done.0 heard, length-take-le chunk.within buffer gives.fits, done.2),
      Consumes-trans input now left done.0 heard done.3 (gives.none_past within).2,
      given.1,
    )

-- The lines of a chunk were written, and more bytes had been read.
pub front_past_limit : (old new : Decoder) (printer printer' : Printer) (listing : Listing) (count rest room : ℕ) (buffer : List ℕ) (chunk : ReadChunk) (input now left written so_far after : Option (List ℕ))
    → HasListed old printer listing count input now written so_far → GivesChunk room buffer chunk now left → ListsChunk old printer count (take chunk.within buffer) new printer' so_far after [] → Concludes new rest
    → ListsFront listing input left written after
front_past_limit old new printer printer' listing count rest room buffer chunk input now left written so_far after done gives lists concludes =
    let heard = take chunk.within buffer in
    let given = lists listing done.0 done.1 written done.2 done.4 in
    let events = done.1 ++ given.0 in
    let consumed : Consumes input left (done.0 ++ (heard ++ gives.beyond)) = Consumes-trans input now left done.0 (heard ++ gives.beyond) done.3 gives.consumes in (
      done.0 ++ heard,
      gives.beyond,
      events,
      [],
      rest,
      given.1.text,
      (let P : List ℕ → Type 0 = λ bs. Consumes input left bs in subst P (sym (append_assoc done.0 heard gives.beyond)) consumed),
      (let P : List Timed → Type 0 = λ es. Shows (done.0 ++ heard) es rest in subst P (sym (append-nil events)) (concludes (done.0 ++ heard) events given.1.decoded)),
      tt,
      given.1.lines,
      (last_line listing rest, (given.1.text, refl, written_all written after given.1.text given.1.gathers)),
    )

-- There are more bytes than may be.
pub first_at_limit : (old new : Decoder) (printer printer' : Printer) (listing : Listing) (count rest room : ℕ) (buffer : List ℕ) (chunk : ReadChunk) (input now left written so_far after : Option (List ℕ))
    → count + room ≡ limit → chunk.past ≡ true → HasListed old printer listing count input now written so_far → GivesChunk room buffer chunk now left → ListsChunk old printer count (take chunk.within buffer) new printer' so_far after [] → Concludes new rest
    → ListsFirst listing input written after
first_at_limit old new printer printer' listing count rest room buffer chunk None now left written so_far after full past done gives lists concludes = tt
first_at_limit old new printer printer' listing count rest room buffer chunk (Some all) None left written so_far after full past done gives lists concludes = absurd done.3
first_at_limit old new printer printer' listing count rest room buffer chunk (Some all) (Some ahead) None written so_far after full past done gives lists concludes = absurd gives.consumes
first_at_limit old new printer printer' listing count rest room buffer chunk (Some all) (Some ahead) (Some left) written so_far after full past done gives lists concludes =
    let heard = take chunk.within buffer in
    let bytes = done.0 in
    let given = lists listing bytes done.1 written done.2 done.4 in
    let events = done.1 ++ given.0 in (
      bytes ++ heard,
      gives.beyond ++ left,
      events,
      rest,
      given.1.text,
      done.3 ∙ ap (λ bs. bytes ++ bs) (gives.consumes ∙ append_assoc heard gives.beyond left) ∙ sym (append_assoc bytes heard (gives.beyond ++ left)),
      omega (arith, length-append bytes heard, length-take-le chunk.within buffer gives.fits, done.2, (gives.one_past past).0, full),
      omega (arith, length-append gives.beyond left, (gives.one_past past).1),
      concludes (bytes ++ heard) events given.1.decoded,
      given.1.lines,
      written_all written after given.1.text given.1.gathers,
    )

-- How many bytes were read.
pub reads_within : (decoder : Decoder) (printer : Printer) (listing : Listing) (count room : ℕ) (buffer : List ℕ) (chunk : ReadChunk) (input now left written so_far : Option (List ℕ)) → count + room ≡ limit
    → HasListed decoder printer listing count input now written so_far → GivesChunk room buffer chunk now left → ReadsWithin limit input left
reads_within decoder printer listing count room buffer chunk input now left written so_far full done gives =
    let read = take chunk.within buffer ++ gives.beyond in
    (done.0 ++ read, Consumes-trans input now left done.0 read done.3 gives.consumes, omega (arith, length-append done.0 read, done.2, full, gives.bounded))

pub reads_none : (decoder : Decoder) (printer : Printer) (listing : Listing) (count : ℕ) (input now left written so_far : Option (List ℕ)) → count ≤ limit
    → HasListed decoder printer listing count input now written so_far → Consumes now left [] → ReadsWithin limit input left
reads_none decoder printer listing count input now left written so_far within done read =
    (done.0 ++ [], Consumes-trans input now left done.0 [] done.3 read, omega (arith, length-append done.0 [], done.2, within))

pub reads_no_more : (decoder : Decoder) (printer : Printer) (listing : Listing) (count : ℕ) (input now left written so_far : Option (List ℕ)) → count ≤ limit
    → HasListed decoder printer listing count input now written so_far → Keeps now left → ReadsWithin limit input left
reads_no_more decoder printer listing count input now left written so_far within done kept = (done.0, Consumes-kept input now left done.0 done.3 kept, omega (arith, done.2, within))

-- The input ended, and the last line was written, or a front of it.
pub front_at_end : {T E : Type 0} (r : Result T E) (decoder : Decoder) (printer : Printer) (listing : Listing) (count : ℕ) (input now left written so_far after : Option (List ℕ))
    → HasListed decoder printer listing count input now written so_far → Consumes now left [] → OnOk r (Finishes decoder printer so_far after) → OnErr r (FinishBreaksOff decoder printer so_far after)
    → ListsFront listing input left written after
front_at_end (Ok v) decoder printer listing count input now left written so_far after done read whole broken =
    let last = whole listing done.0 done.1 done.4.decoded done.4.follows in
    let text = done.4.text in (
      done.0,
      [],
      done.1,
      [],
      last.0,
      text,
      Consumes-trans input now left done.0 [] done.3 read,
      (let P : List Timed → Type 0 = λ es. Shows done.0 es last.0 in subst P (sym (append-nil done.1)) last.1),
      tt,
      done.4.lines,
      (
        [],
        (
          text ++ last_line listing last.0,
          sym (append-nil (text ++ last_line listing last.0)),
          Appends-trans written so_far after text (last_line listing last.0) (written_all written so_far text done.4.gathers) last.2,
        ),
      ),
    )
front_at_end (Err e) decoder printer listing count input now left written so_far after done read whole broken =
    let last = broken listing done.0 done.1 done.4.decoded done.4.follows in
    let text = done.4.text in
    let front = last.2 in (
      done.0,
      [],
      done.1,
      [],
      last.0,
      text,
      Consumes-trans input now left done.0 [] done.3 read,
      (let P : List Timed → Type 0 = λ es. Shows done.0 es last.0 in subst P (sym (append-nil done.1)) last.1),
      tt,
      done.4.lines,
      (
        front.0,
        (
          text ++ front.1.0,
          ap (λ bs. text ++ bs) front.1.1 ∙ sym (append_assoc text front.1.0 front.0),
          Appends-trans written so_far after text front.1.0 (written_all written so_far text done.4.gathers) front.1.2,
        ),
      ),
    )

pub all_at_end : (decoder : Decoder) (printer : Printer) (listing : Listing) (count : ℕ) (input now left written so_far after : Option (List ℕ)) → count ≤ limit
    → HasListed decoder printer listing count input now written so_far → Consumes now left [] → IsAtEnd left → Finishes decoder printer so_far after → ListsAll listing input written after
all_at_end decoder printer listing count None now left written so_far after within done read end whole = tt
all_at_end decoder printer listing count (Some all) None left written so_far after within done read end whole = absurd done.3
all_at_end decoder printer listing count (Some all) (Some ahead) None written so_far after within done read end whole = absurd read
all_at_end decoder printer listing count (Some all) (Some ahead) (Some left) written so_far after within done read end whole =
    let last = whole listing done.0 done.1 done.4.decoded done.4.follows in
    let bytes_are : done.0 ≡ all = sym (done.3 ∙ ap (λ bs. done.0 ++ bs) (read ∙ end) ∙ append-nil done.0) in (
      done.1,
      last.0,
      done.4.text,
      omega (arith, done.2, within, ap length bytes_are),
      (let P : List ℕ → Type 0 = λ bs. Shows bs done.1 last.0 in subst P bytes_are last.1),
      done.4.lines,
      Appends-trans written so_far after done.4.text (last_line listing last.0) (written_all written so_far done.4.text done.4.gathers) last.2,
    )

-- The printer was given some events.
pub has_begun : (decoder : Decoder) (printer : Printer) (listing : Listing) (count : ℕ) (input now written so_far : Option (List ℕ))
    → HasListed decoder printer listing count input now written so_far → HasBegun printer
has_begun decoder printer listing count input now written so_far done = (listing, done.1, done.4.follows)

never : (error : ListError) (extra : List Timed) (written written' : Option (List ℕ)) (text : List ℕ) → Stops error extra written written' text → (error ≡ Read) ⊎ (error ≡ TooLong) → ⊥
never error extra written written' text stops (inl is) = (let P : ListError → Type 0 = λ e. Stops e extra written written' text in subst P is stops)
never error extra written written' text stops (inr is) = (let P : ListError → Type 0 = λ e. Stops e extra written written' text in subst P is stops)

-- Amid a chunk only a write fails or memory runs out.
pub no_other : (error : ListError) (old new : Decoder) (printer : Printer) (listing : Listing) (count : ℕ) (chunk : List ℕ) (input now written so_far after : Option (List ℕ))
    → HasListed old printer listing count input now written so_far → BreaksOff error old printer count chunk new so_far after → (error ≡ Read) ⊎ (error ≡ TooLong) → ⊥
no_other error old new printer listing count chunk input now written so_far after done breaks is =
    let cut = breaks listing done.0 done.1 written done.2 done.4 in
    let broken = cut.5 in
    never error broken.extra written after broken.text broken.stops is

-- Before any event the first line is all that is told.
first_lines : (listing : Listing) → HasLines listing [] (first_line listing)
first_lines Events = refl
first_lines (Pictures rotated) = refl
first_lines (Game start first rotated) = refl
first_lines (Watched start first rotated) = (line_with 0 (position_words start) ∷ [], refl, refl)

-- The first line was written, and nothing was read.
pub listed_none : (decoder : Decoder) (printer : Printer) (listing : Listing) (input written so_far : Option (List ℕ)) → Decoded decoder [] [] → Follows printer listing []
    → Consumes input input [] → Appends written so_far (first_line listing) → HasListed decoder printer listing 0 input input written so_far
listed_none decoder printer listing input written so_far decoded follows none sent = (
  [],
  [],
  refl,
  none,
  record {
    decoded = decoded;
    follows = follows;
    text = first_line listing;
    lines = first_lines listing;
    gathers = (first_line listing, sym (append-nil (first_line listing)), sent);
  },
)

-- A front of the first line was written, and nothing was read.
pub front_at_begin : (listing : Listing) (input written after : Option (List ℕ)) → Consumes input input [] → WritesFront written after (first_line listing)
    → ListsFront listing input input written after
front_at_begin listing input written after none front =
    ([], [], [], [], 0, first_line listing, none, (inl refl, refl), tt, first_lines listing, front_longer written after (first_line listing) (last_line listing 0) front)
