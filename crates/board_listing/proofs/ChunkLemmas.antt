-- Chunks of a stream, one event at a time.
use Rattle.std.proofs.Common.{◌≡◌, ℕ, ◌+◌, ◌-◌, ◌≤◌, List, [], ◌∷◌, ◌++◌, length, take, Option, refl, sym, ◌∙◌, ap, subst, append_assoc, append-nil, add_assoc, length-append}
use Rattle.std.proofs.lemmas.List.{length-take-le}
use Rattle.std.specs.Io.KnownBytes.{Appends}
use Rattle.dgt_frame.specs.declared.decode.Decoder.{Decoder}
use Rattle.dgt_frame.specs.declared.events.Event.{Event}
use Rattle.dgt_frame.specs.Decoder.{Decoded, TakesAll, TakesUpTo}
use Rattle.dgt_frame.specs.Streams.{Timed}
use Rattle.board_listing.specs.declared.printer.Printer.{Printer}
use Rattle.board_listing.specs.declared.stream.ListError.{ListError}
use Rattle.board_listing.specs.declared.stream.ListError.TheVariants.{Write}
use Rattle.board_listing.specs.Inside.Progress.{BreaksLines, BreaksOff, Broken, GathersEvent, HasTaken, ListsChunk}
use Rattle.board_listing.proofs.GatherLemmas.{front_written}
use Rattle.watched_streams.proofs.OutputLemmas.{gathers_sent}

-- nothing was taken yet
pub lists_start : (decoder : Decoder) (printer : Printer) (start : ℕ) (written : Option (List ℕ)) (waiting : List ℕ) → waiting ≡ []
    → ListsChunk decoder printer start [] decoder printer written written waiting
lists_start decoder printer start written waiting none listing bytes events begin at stands = (
  [],
  record {
    decoded = rw (append-nil bytes, append-nil events) stands.decoded;
    follows = rw (append-nil events) stands.follows;
    text = stands.text;
    lines = rw (append-nil events) stands.lines;
    gathers = rw none stands.gathers;
  },
)

-- more bytes, at none of which an event came
pub lists_none : (old now new : Decoder) (printer printer' : Printer) (start : ℕ) (chunk more : List ℕ) (written written' : Option (List ℕ)) (waiting : List ℕ)
    → TakesAll now more new → ListsChunk old printer start chunk now printer' written written' waiting → ListsChunk old printer start (chunk ++ more) new printer' written written' waiting
lists_none old now new printer printer' start chunk more written written' waiting takes part listing bytes events begin at stands =
    let before = part listing bytes events begin at stands in (
      before.0,
      record {
        decoded = rw (← append_assoc bytes chunk more) (takes (bytes ++ chunk) (events ++ before.0) before.1.decoded);
        follows = before.1.follows;
        text = before.1.text;
        lines = before.1.lines;
        gathers = before.1.gathers;
      },
    )

-- the event that came, after these bytes of the chunk and so many more
abbrev pub arrived : List ℕ → List ℕ → ℕ → Event → Timed
arrived bytes chunk count event = record { offset = length (bytes ++ chunk) + (count - 1); event = event }

decoded_more : (now new : Decoder) (count : ℕ) (event : Event) (bytes chunk more : List ℕ) (events later : List Timed) → TakesUpTo now more count event new
    → Decoded now (bytes ++ chunk) (events ++ later) → Decoded new (bytes ++ (chunk ++ take count more)) (events ++ (later ++ arrived bytes chunk count event ∷ []))
decoded_more now new count event bytes chunk more events later takes decoded =
    rw (← append_assoc bytes chunk (take count more), ← append_assoc events later (arrived bytes chunk count event ∷ [])) (takes (bytes ++ chunk) (events ++ later) decoded)

-- an event came, and its lines were gathered
pub lists_event : (old now new : Decoder) (printer printer' printer'' : Printer) (start count offset : ℕ) (event : Event) (chunk more : List ℕ) (begin written written' : Option (List ℕ)) (waiting waiting' : List ℕ)
    → offset ≡ start + length chunk + (count - 1) → TakesUpTo now more count event new
    → GathersEvent printer' written waiting (record { offset = offset; event = event }) printer'' written' waiting'
    → ListsChunk old printer start chunk now printer' begin written waiting → ListsChunk old printer start (chunk ++ take count more) new printer'' begin written' waiting'
lists_event old now new printer printer' printer'' start count offset event chunk more begin written written' waiting waiting' offset_is takes gathers part listing bytes events from at stands =
    let before = part listing bytes events from at stands in
    let later = before.0 in
    let x = arrived bytes chunk count event in
    let here : offset ≡ length (bytes ++ chunk) + (count - 1) = offset_is ∙ ap (λ n. n + (count - 1)) (ap (λ n. n + length chunk) (sym at) ∙ sym (length-append bytes chunk)) in
    let gathers_x : GathersEvent printer' written waiting x printer'' written' waiting' =
    (let P : ℕ → Type 0 = λ n. GathersEvent printer' written waiting (record { offset = n; event = event }) printer'' written' waiting' in subst P here gathers) in
    let given = gathers_x listing (events ++ later) before.1.text from before.1.follows before.1.lines before.1.gathers in (
      later ++ x ∷ [],
      record {
        decoded = decoded_more now new count event bytes chunk more events later takes before.1.decoded;
        follows = rw (← append_assoc events later (x ∷ [])) given.0;
        text = given.1.0;
        lines = rw (← append_assoc events later (x ∷ [])) given.1.1;
        gathers = given.1.2;
      },
    )

-- an event came, and there it ended
pub breaks_event : (error : ListError) (old now new : Decoder) (printer printer' : Printer) (start count offset : ℕ) (event : Event) (chunk more after : List ℕ) (begin written written' : Option (List ℕ)) (waiting : List ℕ)
    → offset ≡ start + length chunk + (count - 1) → TakesUpTo now more count event new → BreaksLines printer' written waiting (record { offset = offset; event = event }) error written'
    → ListsChunk old printer start chunk now printer' begin written waiting → BreaksOff error old printer start ((chunk ++ take count more) ++ after) new begin written'
breaks_event error old now new printer printer' start count offset event chunk more after begin written written' waiting offset_is takes breaks part listing bytes events from at stands =
    let before = part listing bytes events from at stands in
    let later = before.0 in
    let x = arrived bytes chunk count event in
    let here : offset ≡ length (bytes ++ chunk) + (count - 1) = offset_is ∙ ap (λ n. n + (count - 1)) (ap (λ n. n + length chunk) (sym at) ∙ sym (length-append bytes chunk)) in
    let breaks_x : BreaksLines printer' written waiting x error written' =
    (let P : ℕ → Type 0 = λ n. BreaksLines printer' written waiting (record { offset = n; event = event }) error written' in subst P here breaks) in
    let broken = breaks_x listing (events ++ later) before.1.text from before.1.follows before.1.lines before.1.gathers in
    let B : List Timed → Type 0 = λ es. Broken error listing es from written' in (
      chunk ++ take count more,
      after,
      later ++ x ∷ [],
      refl,
      decoded_more now new count event bytes chunk more events later takes before.1.decoded,
      subst B (append_assoc events later (x ∷ [])) broken,
    )

-- what waits was written
pub lists_end : (old new : Decoder) (printer printer' : Printer) (start : ℕ) (chunk : List ℕ) (begin written written' : Option (List ℕ)) (waiting : List ℕ)
    → Appends written written' waiting → ListsChunk old printer start chunk new printer' begin written waiting → ListsChunk old printer start chunk new printer' begin written' []
lists_end old new printer printer' start chunk begin written written' waiting sent part listing bytes events from at stands =
    let before = part listing bytes events from at stands in (
      before.0,
      record {
        decoded = before.1.decoded;
        follows = before.1.follows;
        text = before.1.text;
        lines = before.1.lines;
        gathers = gathers_sent from written written' waiting before.1.text before.1.gathers sent;
      },
    )

-- the write of what waits failed
pub breaks_end : (old new : Decoder) (printer printer' : Printer) (start n : ℕ) (chunk : List ℕ) (begin written written' : Option (List ℕ)) (waiting : List ℕ)
    → Appends written written' (take n waiting) → ListsChunk old printer start chunk new printer' begin written waiting → BreaksOff Write old printer start chunk new begin written'
breaks_end old new printer printer' start n chunk begin written written' waiting took part listing bytes events from at stands =
    let before = part listing bytes events from at stands in (
      chunk,
      [],
      before.0,
      sym (append-nil chunk),
      before.1.decoded,
      record {
        taken = events ++ before.0;
        extra = [];
        text = before.1.text;
        parts = sym (append-nil (events ++ before.0));
        leaves = tt;
        lines = before.1.lines;
        stops = front_written from written written' waiting before.1.text n before.1.gathers took;
      },
    )

pub taken_more : (now new : Decoder) (count start before : ℕ) (event : Event) (more : List ℕ) → count ≤ length more → TakesUpTo now more count event new
    → HasTaken now (start + before) → HasTaken new (start + (before + count))
taken_more now new count start before event more inside takes taken = (
  taken.0 ++ take count more,
  taken.1 ++ record { offset = length taken.0 + (count - 1); event = event } ∷ [],
  takes taken.0 taken.1 taken.2,
  length-append taken.0 (take count more) ∙ ap (λ n. length taken.0 + n) (length-take-le count more inside) ∙ ap (λ n. n + count) taken.3 ∙ add_assoc start before count,
)
