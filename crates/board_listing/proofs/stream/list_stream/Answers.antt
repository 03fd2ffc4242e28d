use Prim.{search}
use Rattle.std.proofs.Common.{◌≡◌, ◌∙◌, ℕ, ◌+◌, ◌-◌, ◌≤◌, Bool, true, false, ◌||◌, [], Result, Ok, ap, take, subst, sym, inl, inr, arith, rules}
use Rattle.std.specs.Prelude.{is_err}
use Rattle.watched_streams.proofs.ResultLemmas.{at_err, at_ok}
use Rattle.std.specs.Io.KnownBytes.{Consumes, IsAtEnd}
use Rattle.watched_streams.specs.Input.{GivesChunk}
use Rattle.watched_streams.specs.Watch.{has_failed, inner_of}
use Rattle.board_listing.specs.Inside.Progress.{BreaksOff, Finishes}
use Rattle.board_listing.proofs.StreamLemmas.{all_at_end, first_at_limit, front_at_begin, front_at_end, front_at_chunk, front_of_read, front_past_limit, has_begun, listed_more, listed_none, no_other, read_so_far, reads_no_more, reads_none, reads_within, refused_at_chunk}
use Rattle.board_listing.proofs.GatherLemmas.{ok_through}
use Rattle.board_listing.specs.Listings.{ListsAll}
use Rattle.board_listing.specs.declared.stream.ListError.{ListError}
use Rattle.board_listing.specs.declared.stream.ListError.TheVariants.{Memory, Read, TooLong}
use Rattle.board_listing.proofs.stream.list_stream.Goals as goal

-- A read that ended well has not failed.
read_on : {T E : Type 0} (before after : Bool) (r : Result T E) (read : T) → after ≡ (before || is_err r) → before ≡ false → r ≡ Ok read → after ≡ false
read_on before after r read fails well is = fails ∙ ap (λ b. b || is_err r) well ∙ ap is_err is

not_both : {A : Type 0} (b : Bool) → b ≡ true → b ≡ false → A
not_both b is isnt = let bad : true ≡ false = sym is ∙ isnt in cc

rest_up : (total most : ℕ) → total ≤ most → total + (most - total) ≡ most
rest_up total most within = omega arith

more_within : (total more most : ℕ) → total ≤ most → more ≤ most - total → total + more ≤ most
more_within total more most within fits = omega arith

pub returns-in_default-read-clause-reader_blamed : goal.returns-in_default-read-clause-reader_blamed
returns-in_default-read-clause-reader_blamed g c failed =
    let reading = read_on (has_failed c.chunks.reader) (has_failed c.read_chunk.new.reader) c.read_chunk.result c.in-Ok.read c.read_chunk.ensures.failed c.chunks.invariant.reading c.in-Ok.is in
    not_both (has_failed c.read_chunk.new.reader) failed reading

pub returns-in_default-read-clause-whole : goal.returns-in_default-read-clause-whole
returns-in_default-read-clause-whole g c =
    let reading : has_failed c.read_chunk.new.reader ≡ false =
    read_on (has_failed c.chunks.reader) (has_failed c.read_chunk.new.reader) c.read_chunk.result c.in-Ok.read c.read_chunk.ensures.failed c.chunks.invariant.reading c.in-Ok.is in
    ok_through (has_failed c.finish.new.out ≡ false) ((has_failed c.read_chunk.new.reader ≡ false) × (has_failed c.finish.new.out ≡ false)) c.finish.result c.map_err.result c.map_err.ensures.variant
    c.finish.ensures.working (λ working. (reading, working))

pub returns-in-Err-clause-reader_blamed : goal.returns-in-Err-clause-reader_blamed
returns-in-Err-clause-reader_blamed g c failed =
    let reading = read_on (has_failed c.chunks.reader) (has_failed c.read_chunk.new.reader) c.read_chunk.result c.in-Ok.read c.read_chunk.ensures.failed c.chunks.invariant.reading c.in-Ok.is in
    not_both (has_failed c.read_chunk.new.reader) failed reading

pub returns-then-chunk-clause-reader_blamed : goal.returns-then-chunk-clause-reader_blamed
returns-then-chunk-clause-reader_blamed g c failed =
    let reading = read_on (has_failed c.chunks.reader) (has_failed c.read_chunk.new.reader) c.read_chunk.result c.in-Ok.read c.read_chunk.ensures.failed c.chunks.invariant.reading c.in-Ok.is in
    not_both (has_failed c.read_chunk.new.reader) failed reading

pub returns-in_default-clause-front : goal.returns-in_default-clause-front
returns-in_default-clause-front g c =
    let input = g.R.Read.remaining (inner_of c.args.reader.now) in
    let left = g.R.Read.remaining (inner_of c.read_chunk.new.reader) in
    let written = g.O.Write.contents (inner_of c.args.out.now) in
    let so_far = g.O.Write.contents (inner_of c.chunks.out) in
    front_of_read c.args.listing input left written so_far
    (read_so_far c.chunks.decoder c.chunks.printer c.args.listing c.chunks.total c.pending.result input (g.R.Read.remaining (inner_of c.chunks.reader)) left written so_far
    c.chunks.invariant.done c.in_default.ensures.bytes c.pending.ensures)

pub returns-in_default-read-clause-front : goal.returns-in_default-read-clause-front
returns-in_default-read-clause-front g c =
    let ended : Consumes (g.R.Read.remaining (inner_of c.chunks.reader)) (g.R.Read.remaining (inner_of c.read_chunk.new.reader)) [] × IsAtEnd (g.R.Read.remaining (inner_of c.read_chunk.new.reader)) =
    rw c.in_default-read.is at c.in-Ok.ensures.bytes in
    front_at_end c.finish.result c.chunks.decoder c.chunks.printer c.args.listing c.chunks.total
    (g.R.Read.remaining (inner_of c.args.reader.now)) (g.R.Read.remaining (inner_of c.chunks.reader)) (g.R.Read.remaining (inner_of c.read_chunk.new.reader))
    (g.O.Write.contents (inner_of c.args.out.now)) (g.O.Write.contents (inner_of c.chunks.out)) (g.O.Write.contents (inner_of c.finish.new.out))
    c.chunks.invariant.done ended.0 c.finish.ensures.ok c.finish.ensures.front

pub returns-in-Err-clause-front : goal.returns-in-Err-clause-front
returns-in-Err-clause-front g c =
    let so_far = g.O.Write.contents (inner_of c.chunks.out) in
    let after = g.O.Write.contents (inner_of c.list_chunk.new.out) in
    front_at_chunk c.in-Err.error c.chunks.decoder c.list_chunk.new.decoder c.chunks.printer c.args.listing c.chunks.total c.pending-in-Err.result _ c.read_chunk.new.buffer c.in-Some.chunk
    (g.R.Read.remaining (inner_of c.args.reader.now)) (g.R.Read.remaining (inner_of c.chunks.reader)) (g.R.Read.remaining (inner_of c.read_chunk.new.reader))
    (g.O.Write.contents (inner_of c.args.out.now)) so_far after c.chunks.invariant.done (rw c.in-Some.is at c.in-Ok.ensures.bytes)
    c.in-Err.ensures.broken c.pending-in-Err.ensures

pub returns-in-Err-clause-memory : goal.returns-in-Err-clause-memory
returns-in-Err-clause-memory g c is =
    let so_far = g.O.Write.contents (inner_of c.chunks.out) in
    let after = g.O.Write.contents (inner_of c.list_chunk.new.out) in
    let chunk = take c.in-Some.chunk.within c.read_chunk.new.buffer in
    let same : c.in-Err.error ≡ Memory = cc in
    let P : ListError → Type 0 = λ error. BreaksOff error c.chunks.decoder c.chunks.printer c.chunks.total chunk c.list_chunk.new.decoder so_far after in
    refused_at_chunk c.chunks.decoder c.list_chunk.new.decoder c.chunks.printer c.args.listing c.chunks.total c.pending-in-Err.result _ c.read_chunk.new.buffer c.in-Some.chunk
    (g.R.Read.remaining (inner_of c.args.reader.now)) (g.R.Read.remaining (inner_of c.chunks.reader)) (g.R.Read.remaining (inner_of c.read_chunk.new.reader))
    (g.O.Write.contents (inner_of c.args.out.now)) so_far after c.chunks.invariant.done (rw c.in-Some.is at c.in-Ok.ensures.bytes)
    (subst P same c.in-Err.ensures.broken) c.pending-in-Err.ensures

pub list_chunk-requires-clause-begun : goal.list_chunk-requires-clause-begun
list_chunk-requires-clause-begun g c =
    has_begun c.chunks.decoder c.chunks.printer c.args.listing c.chunks.total (g.R.Read.remaining (inner_of c.args.reader.now)) (g.R.Read.remaining (inner_of c.chunks.reader))
    (g.O.Write.contents (inner_of c.args.out.now)) (g.O.Write.contents (inner_of c.chunks.out)) c.chunks.invariant.done

pub returns-then-chunk-clause-front : goal.returns-then-chunk-clause-front
returns-then-chunk-clause-front g c =
    let so_far = g.O.Write.contents (inner_of c.chunks.out) in
    let after = g.O.Write.contents (inner_of c.list_chunk.new.out) in
    front_past_limit c.chunks.decoder c.list_chunk.new.decoder c.chunks.printer c.list_chunk.new.printer c.args.listing c.chunks.total c.pending-then-chunk.result _ c.read_chunk.new.buffer c.in-Some.chunk
    (g.R.Read.remaining (inner_of c.args.reader.now)) (g.R.Read.remaining (inner_of c.chunks.reader)) (g.R.Read.remaining (inner_of c.read_chunk.new.reader))
    (g.O.Write.contents (inner_of c.args.out.now)) so_far after c.chunks.invariant.done (rw c.in-Some.is at c.in-Ok.ensures.bytes)
    c.in_default-list_chunk.ensures.ok
    c.pending-then-chunk.ensures

pub returns-then-chunk-clause-long : goal.returns-then-chunk-clause-long
returns-then-chunk-clause-long g c same =
    let so_far = g.O.Write.contents (inner_of c.chunks.out) in
    let after = g.O.Write.contents (inner_of c.list_chunk.new.out) in
    first_at_limit c.chunks.decoder c.list_chunk.new.decoder c.chunks.printer c.list_chunk.new.printer c.args.listing c.chunks.total c.pending-then-chunk.result _ c.read_chunk.new.buffer c.in-Some.chunk
    (g.R.Read.remaining (inner_of c.args.reader.now)) (g.R.Read.remaining (inner_of c.chunks.reader)) (g.R.Read.remaining (inner_of c.read_chunk.new.reader))
    (g.O.Write.contents (inner_of c.args.out.now)) so_far after (rest_up c.chunks.total 67108864 c.chunks.invariant.within) c.if-chunk.true
    c.chunks.invariant.done (rw c.in-Some.is at c.in-Ok.ensures.bytes)
    c.in_default-list_chunk.ensures.ok
    c.pending-then-chunk.ensures

pub chunks-preserved : goal.chunks-preserved
chunks-preserved g c =
    let so_far = g.O.Write.contents (inner_of c.chunks.out) in
    let after = g.O.Write.contents (inner_of c.list_chunk.new.out) in
    let now = g.R.Read.remaining (inner_of c.chunks.reader) in
    let left = g.R.Read.remaining (inner_of c.read_chunk.new.reader) in
    let gives : GivesChunk _ c.read_chunk.new.buffer c.in-Some.chunk now left = rw c.in-Some.is at c.in-Ok.ensures.bytes in
    record {
      within = more_within c.chunks.total c.in-Some.chunk.within 67108864 c.chunks.invariant.within (gives.none_past c.if-chunk.false).1;
      reading = read_on (has_failed c.chunks.reader) (has_failed c.read_chunk.new.reader) c.read_chunk.result c.in-Ok.read c.read_chunk.ensures.failed c.chunks.invariant.reading c.in-Ok.is;
      working = c.in_default-list_chunk.ensures.working;
      done = listed_more c.chunks.decoder c.list_chunk.new.decoder c.chunks.printer c.list_chunk.new.printer c.args.listing c.chunks.total _
          c.read_chunk.new.buffer c.in-Some.chunk (g.R.Read.remaining (inner_of c.args.reader.now)) now left (g.O.Write.contents (inner_of c.args.out.now)) so_far after
          c.if-chunk.false c.chunks.invariant.done gives c.in_default-list_chunk.ensures.ok;
    }

pub returns-in-Err-clause-bounded : goal.returns-in-Err-clause-bounded
returns-in-Err-clause-bounded g c =
    reads_within c.chunks.decoder c.chunks.printer c.args.listing c.chunks.total _ c.read_chunk.new.buffer c.in-Some.chunk
    (g.R.Read.remaining (inner_of c.args.reader.now)) (g.R.Read.remaining (inner_of c.chunks.reader)) (g.R.Read.remaining (inner_of c.read_chunk.new.reader))
    (g.O.Write.contents (inner_of c.args.out.now)) (g.O.Write.contents (inner_of c.chunks.out)) (rest_up c.chunks.total 67108864 c.chunks.invariant.within)
    c.chunks.invariant.done (rw c.in-Some.is at c.in-Ok.ensures.bytes)

pub returns-then-chunk-clause-bounded : goal.returns-then-chunk-clause-bounded
returns-then-chunk-clause-bounded g c =
    reads_within c.chunks.decoder c.chunks.printer c.args.listing c.chunks.total _ c.read_chunk.new.buffer c.in-Some.chunk
    (g.R.Read.remaining (inner_of c.args.reader.now)) (g.R.Read.remaining (inner_of c.chunks.reader)) (g.R.Read.remaining (inner_of c.read_chunk.new.reader))
    (g.O.Write.contents (inner_of c.args.out.now)) (g.O.Write.contents (inner_of c.chunks.out)) (rest_up c.chunks.total 67108864 c.chunks.invariant.within)
    c.chunks.invariant.done (rw c.in-Some.is at c.in-Ok.ensures.bytes)

pub returns-in-Err-clause-reading : goal.returns-in-Err-clause-reading
returns-in-Err-clause-reading g c is =
    let same : c.in-Err.error ≡ Read = cc in
    absurd (no_other c.in-Err.error c.chunks.decoder c.list_chunk.new.decoder c.chunks.printer c.args.listing c.chunks.total (take c.in-Some.chunk.within c.read_chunk.new.buffer)
    (g.R.Read.remaining (inner_of c.args.reader.now)) (g.R.Read.remaining (inner_of c.chunks.reader)) (g.O.Write.contents (inner_of c.args.out.now)) (g.O.Write.contents (inner_of c.chunks.out))
    (g.O.Write.contents (inner_of c.list_chunk.new.out)) c.chunks.invariant.done c.in-Err.ensures.broken (inl same))

pub returns-in-Err-clause-read : goal.returns-in-Err-clause-read
returns-in-Err-clause-read g c is =
    let same : c.in-Err.error ≡ Read = cc in
    absurd (no_other c.in-Err.error c.chunks.decoder c.list_chunk.new.decoder c.chunks.printer c.args.listing c.chunks.total (take c.in-Some.chunk.within c.read_chunk.new.buffer)
    (g.R.Read.remaining (inner_of c.args.reader.now)) (g.R.Read.remaining (inner_of c.chunks.reader)) (g.O.Write.contents (inner_of c.args.out.now)) (g.O.Write.contents (inner_of c.chunks.out))
    (g.O.Write.contents (inner_of c.list_chunk.new.out)) c.chunks.invariant.done c.in-Err.ensures.broken (inl same))

pub returns-in-Err-clause-long : goal.returns-in-Err-clause-long
returns-in-Err-clause-long g c is =
    let same : c.in-Err.error ≡ TooLong = cc in
    absurd (no_other c.in-Err.error c.chunks.decoder c.list_chunk.new.decoder c.chunks.printer c.args.listing c.chunks.total (take c.in-Some.chunk.within c.read_chunk.new.buffer)
    (g.R.Read.remaining (inner_of c.args.reader.now)) (g.R.Read.remaining (inner_of c.chunks.reader)) (g.O.Write.contents (inner_of c.args.out.now)) (g.O.Write.contents (inner_of c.chunks.out))
    (g.O.Write.contents (inner_of c.list_chunk.new.out)) c.chunks.invariant.done c.in-Err.ensures.broken (inr same))

pub returns-in_default-clause-bounded : goal.returns-in_default-clause-bounded
returns-in_default-clause-bounded g c =
    reads_no_more c.chunks.decoder c.chunks.printer c.args.listing c.chunks.total (g.R.Read.remaining (inner_of c.args.reader.now)) (g.R.Read.remaining (inner_of c.chunks.reader))
    (g.R.Read.remaining (inner_of c.read_chunk.new.reader)) (g.O.Write.contents (inner_of c.args.out.now)) (g.O.Write.contents (inner_of c.chunks.out))
    c.chunks.invariant.within c.chunks.invariant.done c.in_default.ensures.bytes

pub returns-in_default-clause-read : goal.returns-in_default-clause-read
returns-in_default-clause-read g c same =
    read_so_far c.chunks.decoder c.chunks.printer c.args.listing c.chunks.total c.pending.result (g.R.Read.remaining (inner_of c.args.reader.now)) (g.R.Read.remaining (inner_of c.chunks.reader))
    (g.R.Read.remaining (inner_of c.read_chunk.new.reader)) (g.O.Write.contents (inner_of c.args.out.now)) (g.O.Write.contents (inner_of c.chunks.out))
    c.chunks.invariant.done c.in_default.ensures.bytes c.pending.ensures

pub returns-in_default-read-clause-ok : goal.returns-in_default-read-clause-ok
returns-in_default-read-clause-ok g c =
    let ended : Consumes (g.R.Read.remaining (inner_of c.chunks.reader)) (g.R.Read.remaining (inner_of c.read_chunk.new.reader)) [] × IsAtEnd (g.R.Read.remaining (inner_of c.read_chunk.new.reader)) =
    rw c.in_default-read.is at c.in-Ok.ensures.bytes in
    let input = g.R.Read.remaining (inner_of c.args.reader.now) in
    let left = g.R.Read.remaining (inner_of c.read_chunk.new.reader) in
    let written = g.O.Write.contents (inner_of c.args.out.now) in
    let so_far = g.O.Write.contents (inner_of c.chunks.out) in
    let after = g.O.Write.contents (inner_of c.finish.new.out) in
    ok_through (Finishes c.chunks.decoder c.chunks.printer so_far after) (ListsAll c.args.listing input written after) c.finish.result c.map_err.result c.map_err.ensures.variant c.finish.ensures.ok
    (all_at_end c.chunks.decoder c.chunks.printer c.args.listing c.chunks.total input (g.R.Read.remaining (inner_of c.chunks.reader)) left written so_far after c.chunks.invariant.within
    c.chunks.invariant.done ended.0 ended.1)

pub returns-in_default-read-clause-bounded : goal.returns-in_default-read-clause-bounded
returns-in_default-read-clause-bounded g c =
    let ended : Consumes (g.R.Read.remaining (inner_of c.chunks.reader)) (g.R.Read.remaining (inner_of c.read_chunk.new.reader)) [] × IsAtEnd (g.R.Read.remaining (inner_of c.read_chunk.new.reader)) =
    rw c.in_default-read.is at c.in-Ok.ensures.bytes in
    reads_none c.chunks.decoder c.chunks.printer c.args.listing c.chunks.total (g.R.Read.remaining (inner_of c.args.reader.now)) (g.R.Read.remaining (inner_of c.chunks.reader))
    (g.R.Read.remaining (inner_of c.read_chunk.new.reader)) (g.O.Write.contents (inner_of c.args.out.now)) (g.O.Write.contents (inner_of c.chunks.out))
    c.chunks.invariant.within c.chunks.invariant.done ended.0

pub chunks-init : goal.chunks-init
chunks-init g c =
    let begun = sym c.is_err.ensures.value ∙ c.if-is_err.false in
    record {
      within = omega arith;
      reading = c.requires.reading;
      working = at_ok _ c.begin.result begun c.begin.ensures.working;
      done = listed_none c.new-decoder.result c.new-printer.result c.args.listing (g.R.Read.remaining (inner_of c.args.reader.now)) (g.O.Write.contents (inner_of c.args.out.now))
          (g.O.Write.contents (inner_of c.begin.new.out)) (search rules) c.new-printer.ensures (search rules) (at_ok _ c.begin.result begun c.begin.ensures.ok);
    }

pub returns-then-is_err-clause-front : goal.returns-then-is_err-clause-front
returns-then-is_err-clause-front g c =
    front_at_begin c.args.listing (g.R.Read.remaining (inner_of c.args.reader.now)) (g.O.Write.contents (inner_of c.args.out.now)) (g.O.Write.contents (inner_of c.begin.new.out))
    (search rules) (at_err _ c.begin.result (sym c.is_err.ensures.value ∙ c.if-is_err.true) c.begin.ensures.front)

pub returns-then-is_err-clause-ok : goal.returns-then-is_err-clause-ok
returns-then-is_err-clause-ok g c = search rules

pub returns-then-is_err-clause-reading : goal.returns-then-is_err-clause-reading
returns-then-is_err-clause-reading g c = search rules

pub returns-then-is_err-clause-working : goal.returns-then-is_err-clause-working
returns-then-is_err-clause-working g c = search rules

pub returns-then-is_err-clause-reader_blamed : goal.returns-then-is_err-clause-reader_blamed
returns-then-is_err-clause-reader_blamed g c = search rules

pub returns-then-is_err-clause-whole : goal.returns-then-is_err-clause-whole
returns-then-is_err-clause-whole g c = search rules

pub returns-then-is_err-clause-bounded : goal.returns-then-is_err-clause-bounded
returns-then-is_err-clause-bounded g c = search rules

pub returns-then-is_err-clause-read : goal.returns-then-is_err-clause-read
returns-then-is_err-clause-read g c = search rules

pub returns-then-is_err-clause-long : goal.returns-then-is_err-clause-long
returns-then-is_err-clause-long g c = search rules

pub returns-then-is_err-clause-memory : goal.returns-then-is_err-clause-memory
returns-then-is_err-clause-memory g c = search rules

pub returns-in_default-clause-ok : goal.returns-in_default-clause-ok
returns-in_default-clause-ok g c = search rules

pub returns-in_default-clause-reading : goal.returns-in_default-clause-reading
returns-in_default-clause-reading g c = search rules

pub returns-in_default-clause-working : goal.returns-in_default-clause-working
returns-in_default-clause-working g c = search rules

pub returns-in_default-clause-reader_blamed : goal.returns-in_default-clause-reader_blamed
returns-in_default-clause-reader_blamed g c = search rules

pub returns-in_default-clause-whole : goal.returns-in_default-clause-whole
returns-in_default-clause-whole g c = search rules

pub returns-in_default-clause-long : goal.returns-in_default-clause-long
returns-in_default-clause-long g c = search rules

pub returns-in_default-clause-memory : goal.returns-in_default-clause-memory
returns-in_default-clause-memory g c = search rules

pub returns-in_default-read-clause-reading : goal.returns-in_default-read-clause-reading
returns-in_default-read-clause-reading g c = search rules

pub returns-in_default-read-clause-working : goal.returns-in_default-read-clause-working
returns-in_default-read-clause-working g c = search rules

pub returns-in_default-read-clause-read : goal.returns-in_default-read-clause-read
returns-in_default-read-clause-read g c = search rules

pub returns-in_default-read-clause-long : goal.returns-in_default-read-clause-long
returns-in_default-read-clause-long g c = search rules

pub returns-in_default-read-clause-memory : goal.returns-in_default-read-clause-memory
returns-in_default-read-clause-memory g c = search rules

pub returns-in-Err-clause-ok : goal.returns-in-Err-clause-ok
returns-in-Err-clause-ok g c = search rules

pub returns-in-Err-clause-working : goal.returns-in-Err-clause-working
returns-in-Err-clause-working g c = search rules

pub returns-in-Err-clause-whole : goal.returns-in-Err-clause-whole
returns-in-Err-clause-whole g c = search rules

pub returns-then-chunk-clause-ok : goal.returns-then-chunk-clause-ok
returns-then-chunk-clause-ok g c = search rules

pub returns-then-chunk-clause-reading : goal.returns-then-chunk-clause-reading
returns-then-chunk-clause-reading g c = search rules

pub returns-then-chunk-clause-working : goal.returns-then-chunk-clause-working
returns-then-chunk-clause-working g c = search rules

pub returns-then-chunk-clause-whole : goal.returns-then-chunk-clause-whole
returns-then-chunk-clause-whole g c = search rules

pub returns-then-chunk-clause-read : goal.returns-then-chunk-clause-read
returns-then-chunk-clause-read g c = search rules

pub returns-then-chunk-clause-memory : goal.returns-then-chunk-clause-memory
returns-then-chunk-clause-memory g c = search rules

pub list_chunk-requires-clause-working : goal.list_chunk-requires-clause-working
list_chunk-requires-clause-working g c = search rules

pub list_chunk-requires-clause-room : goal.list_chunk-requires-clause-room
list_chunk-requires-clause-room g c = search rules

pub list_chunk-requires-clause-taken : goal.list_chunk-requires-clause-taken
list_chunk-requires-clause-taken g c = search rules
