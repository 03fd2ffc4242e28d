-- Lines that are gathered, and written in chunks.
use Rattle.std.proofs.Common.{◌<◌, ℕ, List, [], ◌∷◌, ◌++◌, take, drop, Option, Result, Ok, Err, OnErr, OnOk, IfErr, refl, sym, subst, true, ◌≡◌, ◌∙◌, ap, append_assoc, append-nil}
use Rattle.std.specs.Prelude.{is_err, is_ok}
use Rattle.std.proofs.KnownBytes.{Appends-trans}
use Rattle.std.proofs.lemmas.List.{take-append-drop}
use Rattle.std.specs.Io.KnownBytes.{Appends}
use Rattle.watched_streams.specs.declared.WriteFault.{WriteFault}
use Rattle.dgt_frame.specs.Streams.{Timed}
use Rattle.board_listing.specs.declared.printer.Printer.{Printer}
use Rattle.board_listing.specs.declared.listing.Listing.{Listing}
use Rattle.board_listing.specs.Inside.Printers.{AddsLines, Follows, HasBegun}
use Rattle.board_listing.specs.declared.stream.ListError.TheVariants.{Memory, Write}
use Rattle.board_listing.specs.Inside.Progress.{BreaksLines, GathersEvent}
use Rattle.board_listing.specs.Listings.{LacksMemory, WritesFront}
use Rattle.watched_streams.specs.Output.{Gathers}
use Rattle.watched_streams.proofs.OutputLemmas.{gathers_sent}

-- What follows from the bytes that a write took before it failed.
pub on_fault : {T : Type 0} (P : Type 0) (whole : ℕ) (Q : ℕ → Type 0) (r : Result T WriteFault) → IfErr r (λ fault. (fault.written < whole) × Q fault.written)
    → ((n : ℕ) → Q n → P) → OnErr r P
on_fault P whole Q (Ok v) h k = tt
on_fault P whole Q (Err fault) h k = k fault.written h.1

-- A front of what waits was written.
pub front_written : (begin written written' : Option (List ℕ)) (waiting text : List ℕ) (n : ℕ) → Gathers begin written waiting text
    → Appends written written' (take n waiting) → WritesFront begin written' text
front_written begin written written' waiting text n gathered more = (
  drop n waiting,
  (
    gathered.0 ++ take n waiting,
    gathered.1 ∙ ap (λ bs. gathered.0 ++ bs) (sym (take-append-drop n waiting)) ∙ sym (append_assoc gathered.0 (take n waiting) (drop n waiting)),
    Appends-trans begin written written' gathered.0 (take n waiting) gathered.2 more,
  ),
)

-- A front of a text of which nothing waits was written.
pub front_of : (written written' : Option (List ℕ)) (text : List ℕ) (n : ℕ) → Appends written written' (take n text) → WritesFront written written' text
front_of written written' text n more = (drop n text, (take n text, sym (take-append-drop n text), more))

-- The lines of one more event wait.
pub gathers_event : (old new : Printer) (waiting waiting' : List ℕ) (x : Timed) (written : Option (List ℕ))
    → AddsLines old waiting x new waiting' → GathersEvent old written waiting x new written waiting'
gathers_event old new waiting waiting' x written adds listing events text begin follows lines gathered =
    let added = adds listing events follows in
    let more = added.1.0 in (
      added.0,
      (text ++ more, added.1.2 text lines, (gathered.0, ap (λ bs. bs ++ more) gathered.1 ∙ append_assoc gathered.0 waiting more ∙ ap (λ bs. gathered.0 ++ bs) (sym added.1.1), gathered.2)),
    )

-- A printer that has begun goes on.
pub begun_on : (old new : Printer) (waiting waiting' : List ℕ) (x : Timed) → HasBegun old → AddsLines old waiting x new waiting' → HasBegun new
begun_on old new waiting waiting' x begun adds = (begun.0, begun.1 ++ x ∷ [], (adds begun.0 begun.1 begun.2).0)

-- Those that waited were written.
pub gathers_none : (old new : Printer) (waiting waiting' : List ℕ) (x : Timed) (written written' : Option (List ℕ))
    → GathersEvent old written waiting x new written waiting' → Appends written written' waiting' → GathersEvent old written waiting x new written' []
gathers_none old new waiting waiting' x written written' gathers sent listing events text begin follows lines gathered =
    let here = gathers listing events text begin follows lines gathered in
    (here.0, (here.1.0, here.1.1, gathers_sent begin written written' waiting' here.1.0 here.1.2 sent))

-- Or a front of them, and the stream has failed.
pub broken_write : (old new : Printer) (waiting waiting' : List ℕ) (x : Timed) (n : ℕ) (written written' : Option (List ℕ))
    → GathersEvent old written waiting x new written waiting' → Appends written written' (take n waiting') → BreaksLines old written waiting x Write written'
broken_write old new waiting waiting' x n written written' gathers took listing events text begin follows lines gathered =
    let here = gathers listing events text begin follows lines gathered in
    record {
      taken = events ++ x ∷ [];
      extra = [];
      text = here.1.0;
      parts = sym (append-nil (events ++ x ∷ []));
      leaves = tt;
      lines = here.1.1;
      stops = front_written begin written written' waiting' here.1.0 n here.1.2 took;
    }

written_now : (begin written written' : Option (List ℕ)) (waiting text : List ℕ) → Gathers begin written waiting text → Appends written written' waiting → Appends begin written' text
written_now begin written written' waiting text gathered sent =
    let P : List ℕ → Type 0 = λ bs. Appends begin written' bs in
    subst P (sym gathered.1) (Appends-trans begin written written' gathered.0 waiting gathered.2 sent)

-- Memory ran out, and the lines of the events before were written.
pub broken_memory : (old : Printer) (waiting : List ℕ) (x : Timed) (written written' : Option (List ℕ))
    → ((listing : Listing) (events : List Timed) → Follows old listing events → LacksMemory listing events x) → Appends written written' waiting
    → BreaksLines old written waiting x Memory written'
broken_memory old waiting x written written' refuses sent listing events text begin follows lines gathered = record {
  taken = events;
  extra = x ∷ [];
  text = text;
  parts = refl;
  leaves = refuses listing events follows;
  lines = lines;
  stops = ((x, refl), written_now begin written written' waiting text gathered sent);
}

-- Memory ran out, and then the stream has failed.
pub broken_both : (old : Printer) (waiting : List ℕ) (x : Timed) (n : ℕ) (written written' : Option (List ℕ))
    → ((listing : Listing) (events : List Timed) → Follows old listing events → LacksMemory listing events x) → Appends written written' (take n waiting)
    → BreaksLines old written waiting x Write written'
broken_both old waiting x n written written' refuses took listing events text begin follows lines gathered = record {
  taken = events;
  extra = x ∷ [];
  text = text;
  parts = refl;
  leaves = refuses listing events follows;
  lines = lines;
  stops = front_written begin written written' waiting text n gathered took;
}

-- what a failed write took
pub at_fault : (whole : ℕ) (Q : ℕ → Type 0) {T : Type 0} (r : Result T WriteFault) → is_err r ≡ true → IfErr r (λ fault. (fault.written < whole) × Q fault.written) → (n : ℕ) × Q n
at_fault whole Q (Ok v) h clause = absurd (cc)
at_fault whole Q (Err fault) h clause = (fault.written, clause.1)

-- What follows where another result is good wherever the first is.
pub ok_through : {S T D E : Type 0} (P Q : Type 0) (r : Result S D) (r' : Result T E) → is_ok r' ≡ is_ok r → OnOk r P → (P → Q) → OnOk r' Q
ok_through P Q (Ok v) (Ok w) same p k = k p
ok_through P Q (Err d) (Ok w) same p k = absurd (cc)
ok_through P Q (Ok v) (Err e) same p k = tt
ok_through P Q (Err d) (Err e) same p k = tt
