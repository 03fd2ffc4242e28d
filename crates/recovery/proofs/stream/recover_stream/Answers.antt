use Rattle.std.proofs.Common.{◌≡◌, ◌∙◌, ◌+◌, ◌-◌, ◌≤◌, ◌||◌, ℕ, [], Bool, true, false, Result, Ok, Err, sym, take, subst, ap, inl, inr, arith, rules}
use Rattle.std.specs.Prelude.{is_err}
use Rattle.std.specs.Io.KnownBytes.{Consumes, IsAtEnd}
use Rattle.watched_streams.specs.Input.{GivesChunk}
use Rattle.watched_streams.specs.Watch.{inner_of, has_failed}
use Rattle.board_events.specs.Settings.{Setting}
use Rattle.recovery.specs.declared.refusal.RecoverError.{RecoverError}
use Rattle.recovery.specs.declared.refusal.RecoverError.TheVariants.{Read, TooLong, Memory}
use Rattle.recovery.specs.Inside.Progress.{BreaksOff}
use Rattle.recovery.proofs.StreamLemmas.{all_given, ended_given, first_given, front_broken, front_of_read, front_past, given_more, given_none, line_fails, no_other, read_given, reads_no_more, reads_none, reads_within, some_broken, write_fails}
use Rattle.recovery.proofs.stream.recover_stream.Goals as goal

-- A read that ended well has not failed.
read_on : {T E : Type 0} (before after : Bool) (r : Result T E) (read : T) → after ≡ (before || is_err r) → before ≡ false → r ≡ Ok read → after ≡ false
read_on before after r read fails well is = fails ∙ ap (λ b. b || is_err r) well ∙ ap is_err is

not_both : {A : Type 0} (b : Bool) → b ≡ true → b ≡ false → A
not_both b is isnt = let bad : true ≡ false = sym is ∙ isnt in cc

rest_up : (total most : ℕ) → total ≤ most → total + (most - total) ≡ most
rest_up total most within = omega arith

more_within : (total more most : ℕ) → total ≤ most → more ≤ most - total → total + more ≤ most
more_within total more most within fits = omega arith

pub chunks-init : goal.chunks-init
chunks-init g c =
    let setting : Setting = record { start = c.args.start; first = c.args.first; rotated = c.args.rotated } in
    record {
      within = omega arith;
      reading = c.requires.reading;
      working = c.requires.working;
      telling = c.requires.telling;
      flushed = λ was. was;
      told = λ was. was;
      given = given_none c.new-decoder.result c.new-keeper.result setting (g.R.Read.remaining (inner_of c.args.reader.now)) (g.O.Write.contents (inner_of c.args.out.now)) (g.E.Write.contents (inner_of c.args.err.now)) (c.begin.ensures setting c.new-decoder.ensures c.new-keeper.ensures);
    }

pub returns-in_default-clause-read : goal.returns-in_default-clause-read
returns-in_default-clause-read g c same =
    let setting : Setting = record { start = c.args.start; first = c.args.first; rotated = c.args.rotated } in
    read_given c.chunks.decoder c.chunks.keeper setting c.chunks.total (g.R.Read.remaining (inner_of c.args.reader.now)) (g.R.Read.remaining (inner_of c.chunks.reader)) (g.R.Read.remaining (inner_of c.read_chunk.new.reader)) (g.O.Write.contents (inner_of c.args.out.now)) (g.O.Write.contents (inner_of c.chunks.out)) (g.E.Write.contents (inner_of c.args.err.now)) (g.E.Write.contents (inner_of c.chunks.err))
    c.chunks.invariant.given c.in_default.ensures.bytes c.conclude.ensures

pub returns-in_default-clause-front : goal.returns-in_default-clause-front
returns-in_default-clause-front g c =
    let setting : Setting = record { start = c.args.start; first = c.args.first; rotated = c.args.rotated } in
    front_of_read setting (g.R.Read.remaining (inner_of c.args.reader.now)) (g.R.Read.remaining (inner_of c.read_chunk.new.reader)) (g.O.Write.contents (inner_of c.args.out.now)) (g.O.Write.contents (inner_of c.chunks.out)) (g.E.Write.contents (inner_of c.args.err.now)) (g.E.Write.contents (inner_of c.chunks.err)) _
    (read_given c.chunks.decoder c.chunks.keeper setting c.chunks.total (g.R.Read.remaining (inner_of c.args.reader.now)) (g.R.Read.remaining (inner_of c.chunks.reader)) (g.R.Read.remaining (inner_of c.read_chunk.new.reader)) (g.O.Write.contents (inner_of c.args.out.now)) (g.O.Write.contents (inner_of c.chunks.out)) (g.E.Write.contents (inner_of c.args.err.now)) (g.E.Write.contents (inner_of c.chunks.err))
    c.chunks.invariant.given c.in_default.ensures.bytes c.conclude.ensures)

pub returns-in_default-clause-bounded : goal.returns-in_default-clause-bounded
returns-in_default-clause-bounded g c =
    let setting : Setting = record { start = c.args.start; first = c.args.first; rotated = c.args.rotated } in
    reads_no_more c.chunks.decoder c.chunks.keeper setting c.chunks.total (g.R.Read.remaining (inner_of c.args.reader.now)) (g.R.Read.remaining (inner_of c.chunks.reader)) (g.R.Read.remaining (inner_of c.read_chunk.new.reader)) (g.O.Write.contents (inner_of c.args.out.now)) (g.O.Write.contents (inner_of c.chunks.out)) (g.E.Write.contents (inner_of c.args.err.now)) (g.E.Write.contents (inner_of c.chunks.err))
    c.chunks.invariant.within c.chunks.invariant.given c.in_default.ensures.bytes

pub returns-in_default-read-clause-ok : goal.returns-in_default-read-clause-ok
returns-in_default-read-clause-ok g c =
    let setting : Setting = record { start = c.args.start; first = c.args.first; rotated = c.args.rotated } in
    let ended : Consumes (g.R.Read.remaining (inner_of c.chunks.reader)) (g.R.Read.remaining (inner_of c.read_chunk.new.reader)) [] × IsAtEnd (g.R.Read.remaining (inner_of c.read_chunk.new.reader)) = rw c.in_default-read.is at c.in-Ok.ensures.bytes in
    all_given c.chunks.decoder c.chunks.keeper setting c.chunks.total (g.R.Read.remaining (inner_of c.args.reader.now)) (g.R.Read.remaining (inner_of c.chunks.reader)) (g.R.Read.remaining (inner_of c.read_chunk.new.reader)) (g.O.Write.contents (inner_of c.args.out.now)) (g.O.Write.contents (inner_of c.chunks.out)) (g.E.Write.contents (inner_of c.args.err.now)) (g.E.Write.contents (inner_of c.chunks.err))
    c.chunks.invariant.within c.chunks.invariant.given ended.0 ended.1 c.conclude-in_default-read.ensures

pub returns-in_default-read-clause-front : goal.returns-in_default-read-clause-front
returns-in_default-read-clause-front g c =
    let setting : Setting = record { start = c.args.start; first = c.args.first; rotated = c.args.rotated } in
    let ended : Consumes (g.R.Read.remaining (inner_of c.chunks.reader)) (g.R.Read.remaining (inner_of c.read_chunk.new.reader)) [] × IsAtEnd (g.R.Read.remaining (inner_of c.read_chunk.new.reader)) = rw c.in_default-read.is at c.in-Ok.ensures.bytes in
    front_of_read setting (g.R.Read.remaining (inner_of c.args.reader.now)) (g.R.Read.remaining (inner_of c.read_chunk.new.reader)) (g.O.Write.contents (inner_of c.args.out.now)) (g.O.Write.contents (inner_of c.chunks.out)) (g.E.Write.contents (inner_of c.args.err.now)) (g.E.Write.contents (inner_of c.chunks.err)) _
    (ended_given c.chunks.decoder c.chunks.keeper setting c.chunks.total (g.R.Read.remaining (inner_of c.args.reader.now)) (g.R.Read.remaining (inner_of c.chunks.reader)) (g.R.Read.remaining (inner_of c.read_chunk.new.reader)) (g.O.Write.contents (inner_of c.args.out.now)) (g.O.Write.contents (inner_of c.chunks.out)) (g.E.Write.contents (inner_of c.args.err.now)) (g.E.Write.contents (inner_of c.chunks.err))
    c.chunks.invariant.given ended.0 c.conclude-in_default-read.ensures)

pub returns-in_default-read-clause-bounded : goal.returns-in_default-read-clause-bounded
returns-in_default-read-clause-bounded g c =
    let setting : Setting = record { start = c.args.start; first = c.args.first; rotated = c.args.rotated } in
    let ended : Consumes (g.R.Read.remaining (inner_of c.chunks.reader)) (g.R.Read.remaining (inner_of c.read_chunk.new.reader)) [] × IsAtEnd (g.R.Read.remaining (inner_of c.read_chunk.new.reader)) = rw c.in_default-read.is at c.in-Ok.ensures.bytes in
    reads_none c.chunks.decoder c.chunks.keeper setting c.chunks.total (g.R.Read.remaining (inner_of c.args.reader.now)) (g.R.Read.remaining (inner_of c.chunks.reader)) (g.R.Read.remaining (inner_of c.read_chunk.new.reader)) (g.O.Write.contents (inner_of c.args.out.now)) (g.O.Write.contents (inner_of c.chunks.out)) (g.E.Write.contents (inner_of c.args.err.now)) (g.E.Write.contents (inner_of c.chunks.err))
    c.chunks.invariant.within c.chunks.invariant.given ended.0

pub returns-in-Err-clause-read : goal.returns-in-Err-clause-read
returns-in-Err-clause-read g c is =
    let setting : Setting = record { start = c.args.start; first = c.args.first; rotated = c.args.rotated } in
    let heard = take c.in-Some.chunk.within c.read_chunk.new.buffer in
    let never = no_other c.in-Err.error c.chunks.decoder c.chunks.keeper setting c.chunks.total heard (g.R.Read.remaining (inner_of c.args.reader.now)) (g.R.Read.remaining (inner_of c.chunks.reader)) (g.O.Write.contents (inner_of c.args.out.now)) (g.O.Write.contents (inner_of c.chunks.out)) (g.O.Write.contents (inner_of c.give_chunk.new.out)) (g.E.Write.contents (inner_of c.args.err.now)) (g.E.Write.contents (inner_of c.chunks.err)) (g.E.Write.contents (inner_of c.give_chunk.new.err))
    c.chunks.invariant.given c.in-Err.ensures.broken in
    let same : c.in-Err.error ≡ Read = cc in
    absurd (never (inl same))

pub returns-in-Err-clause-reading : goal.returns-in-Err-clause-reading
returns-in-Err-clause-reading g c is =
    let setting : Setting = record { start = c.args.start; first = c.args.first; rotated = c.args.rotated } in
    let heard = take c.in-Some.chunk.within c.read_chunk.new.buffer in
    let never = no_other c.in-Err.error c.chunks.decoder c.chunks.keeper setting c.chunks.total heard (g.R.Read.remaining (inner_of c.args.reader.now)) (g.R.Read.remaining (inner_of c.chunks.reader)) (g.O.Write.contents (inner_of c.args.out.now)) (g.O.Write.contents (inner_of c.chunks.out)) (g.O.Write.contents (inner_of c.give_chunk.new.out)) (g.E.Write.contents (inner_of c.args.err.now)) (g.E.Write.contents (inner_of c.chunks.err)) (g.E.Write.contents (inner_of c.give_chunk.new.err))
    c.chunks.invariant.given c.in-Err.ensures.broken in
    let same : c.in-Err.error ≡ Read = cc in
    absurd (never (inl same))

pub returns-in-Err-clause-long : goal.returns-in-Err-clause-long
returns-in-Err-clause-long g c is =
    let setting : Setting = record { start = c.args.start; first = c.args.first; rotated = c.args.rotated } in
    let heard = take c.in-Some.chunk.within c.read_chunk.new.buffer in
    let never = no_other c.in-Err.error c.chunks.decoder c.chunks.keeper setting c.chunks.total heard (g.R.Read.remaining (inner_of c.args.reader.now)) (g.R.Read.remaining (inner_of c.chunks.reader)) (g.O.Write.contents (inner_of c.args.out.now)) (g.O.Write.contents (inner_of c.chunks.out)) (g.O.Write.contents (inner_of c.give_chunk.new.out)) (g.E.Write.contents (inner_of c.args.err.now)) (g.E.Write.contents (inner_of c.chunks.err)) (g.E.Write.contents (inner_of c.give_chunk.new.err))
    c.chunks.invariant.given c.in-Err.ensures.broken in
    let same : c.in-Err.error ≡ TooLong = cc in
    absurd (never (inr same))

pub returns-in-Err-clause-memory : goal.returns-in-Err-clause-memory
returns-in-Err-clause-memory g c is =
    let setting : Setting = record { start = c.args.start; first = c.args.first; rotated = c.args.rotated } in
    let gives : GivesChunk _ c.read_chunk.new.buffer c.in-Some.chunk (g.R.Read.remaining (inner_of c.chunks.reader)) (g.R.Read.remaining (inner_of c.read_chunk.new.reader)) = rw c.in-Some.is at c.in-Ok.ensures.bytes in
    let same : c.in-Err.error ≡ Memory = cc in
    let B : RecoverError → Type 0 = λ error. BreaksOff error c.chunks.decoder c.chunks.keeper c.chunks.total (take c.in-Some.chunk.within c.read_chunk.new.buffer) (g.O.Write.contents (inner_of c.chunks.out)) (g.O.Write.contents (inner_of c.give_chunk.new.out)) (g.E.Write.contents (inner_of c.chunks.err)) (g.E.Write.contents (inner_of c.give_chunk.new.err)) in
    some_broken c.chunks.decoder c.chunks.keeper setting c.chunks.total _ c.read_chunk.new.buffer c.in-Some.chunk (g.R.Read.remaining (inner_of c.args.reader.now)) (g.R.Read.remaining (inner_of c.chunks.reader)) (g.R.Read.remaining (inner_of c.read_chunk.new.reader)) (g.O.Write.contents (inner_of c.args.out.now)) (g.O.Write.contents (inner_of c.chunks.out)) (g.O.Write.contents (inner_of c.give_chunk.new.out)) (g.E.Write.contents (inner_of c.args.err.now)) (g.E.Write.contents (inner_of c.chunks.err)) (g.E.Write.contents (inner_of c.give_chunk.new.err))
    c.chunks.invariant.given gives (subst B same c.in-Err.ensures.broken)

pub returns-in-Err-clause-front : goal.returns-in-Err-clause-front
returns-in-Err-clause-front g c =
    let setting : Setting = record { start = c.args.start; first = c.args.first; rotated = c.args.rotated } in
    let gives : GivesChunk _ c.read_chunk.new.buffer c.in-Some.chunk (g.R.Read.remaining (inner_of c.chunks.reader)) (g.R.Read.remaining (inner_of c.read_chunk.new.reader)) = rw c.in-Some.is at c.in-Ok.ensures.bytes in
    front_broken c.in-Err.error c.chunks.decoder c.chunks.keeper setting c.chunks.total _ c.read_chunk.new.buffer c.in-Some.chunk (g.R.Read.remaining (inner_of c.args.reader.now)) (g.R.Read.remaining (inner_of c.chunks.reader)) (g.R.Read.remaining (inner_of c.read_chunk.new.reader)) (g.O.Write.contents (inner_of c.args.out.now)) (g.O.Write.contents (inner_of c.chunks.out)) (g.O.Write.contents (inner_of c.give_chunk.new.out)) (g.E.Write.contents (inner_of c.args.err.now)) (g.E.Write.contents (inner_of c.chunks.err)) (g.E.Write.contents (inner_of c.give_chunk.new.err)) _
    (λ e. (c.give_chunk.ensures.lines (c.in-Err.is ∙ ap Err e)).0) c.chunks.invariant.given gives c.in-Err.ensures.broken

pub returns-in-Err-clause-bounded : goal.returns-in-Err-clause-bounded
returns-in-Err-clause-bounded g c =
    let setting : Setting = record { start = c.args.start; first = c.args.first; rotated = c.args.rotated } in
    let gives : GivesChunk _ c.read_chunk.new.buffer c.in-Some.chunk (g.R.Read.remaining (inner_of c.chunks.reader)) (g.R.Read.remaining (inner_of c.read_chunk.new.reader)) = rw c.in-Some.is at c.in-Ok.ensures.bytes in
    reads_within c.chunks.decoder c.chunks.keeper setting c.chunks.total _ c.read_chunk.new.buffer c.in-Some.chunk (g.R.Read.remaining (inner_of c.args.reader.now)) (g.R.Read.remaining (inner_of c.chunks.reader)) (g.R.Read.remaining (inner_of c.read_chunk.new.reader)) (g.O.Write.contents (inner_of c.args.out.now)) (g.O.Write.contents (inner_of c.chunks.out)) (g.E.Write.contents (inner_of c.args.err.now)) (g.E.Write.contents (inner_of c.chunks.err))
    (rest_up c.chunks.total 67108864 c.chunks.invariant.within) c.chunks.invariant.given gives

pub returns-in-Err-clause-out_blamed : goal.returns-in-Err-clause-out_blamed
returns-in-Err-clause-out_blamed g c failed =
    let setting : Setting = record { start = c.args.start; first = c.args.first; rotated = c.args.rotated } in
    let heard = take c.in-Some.chunk.within c.read_chunk.new.buffer in
    let never = no_other c.in-Err.error c.chunks.decoder c.chunks.keeper setting c.chunks.total heard (g.R.Read.remaining (inner_of c.args.reader.now)) (g.R.Read.remaining (inner_of c.chunks.reader)) (g.O.Write.contents (inner_of c.args.out.now)) (g.O.Write.contents (inner_of c.chunks.out)) (g.O.Write.contents (inner_of c.give_chunk.new.out)) (g.E.Write.contents (inner_of c.args.err.now)) (g.E.Write.contents (inner_of c.chunks.err)) (g.E.Write.contents (inner_of c.give_chunk.new.err))
    c.chunks.invariant.given c.in-Err.ensures.broken in
    ap Err (write_fails c.in-Err.error (has_failed c.give_chunk.new.out) never (λ e. (c.give_chunk.ensures.lines (c.in-Err.is ∙ ap Err e)).1) (λ e. (c.give_chunk.ensures.memory (c.in-Err.is ∙ ap Err e)).1) failed)

pub returns-in-Err-clause-err_blamed : goal.returns-in-Err-clause-err_blamed
returns-in-Err-clause-err_blamed g c failed =
    let setting : Setting = record { start = c.args.start; first = c.args.first; rotated = c.args.rotated } in
    let heard = take c.in-Some.chunk.within c.read_chunk.new.buffer in
    let never = no_other c.in-Err.error c.chunks.decoder c.chunks.keeper setting c.chunks.total heard (g.R.Read.remaining (inner_of c.args.reader.now)) (g.R.Read.remaining (inner_of c.chunks.reader)) (g.O.Write.contents (inner_of c.args.out.now)) (g.O.Write.contents (inner_of c.chunks.out)) (g.O.Write.contents (inner_of c.give_chunk.new.out)) (g.E.Write.contents (inner_of c.args.err.now)) (g.E.Write.contents (inner_of c.chunks.err)) (g.E.Write.contents (inner_of c.give_chunk.new.err))
    c.chunks.invariant.given c.in-Err.ensures.broken in
    ap Err (line_fails c.in-Err.error (has_failed c.give_chunk.new.err) never (λ e. (c.give_chunk.ensures.write (c.in-Err.is ∙ ap Err e)).1) (λ e. (c.give_chunk.ensures.memory (c.in-Err.is ∙ ap Err e)).0) failed)

pub returns-in-Err-clause-flushed : goal.returns-in-Err-clause-flushed
returns-in-Err-clause-flushed g c other was = c.give_chunk.ensures.flushed (λ e. other (sym c.in-Err.is ∙ e))

pub returns-then-chunk-clause-long : goal.returns-then-chunk-clause-long
returns-then-chunk-clause-long g c same =
    let setting : Setting = record { start = c.args.start; first = c.args.first; rotated = c.args.rotated } in
    let gives : GivesChunk _ c.read_chunk.new.buffer c.in-Some.chunk (g.R.Read.remaining (inner_of c.chunks.reader)) (g.R.Read.remaining (inner_of c.read_chunk.new.reader)) = rw c.in-Some.is at c.in-Ok.ensures.bytes in
    first_given c.chunks.decoder c.give_chunk.new.decoder c.chunks.keeper c.give_chunk.new.keeper setting c.chunks.total _ c.read_chunk.new.buffer c.in-Some.chunk (g.R.Read.remaining (inner_of c.args.reader.now)) (g.R.Read.remaining (inner_of c.chunks.reader)) (g.R.Read.remaining (inner_of c.read_chunk.new.reader)) (g.O.Write.contents (inner_of c.args.out.now)) (g.O.Write.contents (inner_of c.chunks.out)) (g.O.Write.contents (inner_of c.give_chunk.new.out)) (g.E.Write.contents (inner_of c.args.err.now)) (g.E.Write.contents (inner_of c.chunks.err)) (g.E.Write.contents (inner_of c.give_chunk.new.err))
    (rest_up c.chunks.total 67108864 c.chunks.invariant.within) c.if-chunk.true c.chunks.invariant.given gives c.in_default-give_chunk.ensures.ok c.conclude-then-chunk.ensures

pub returns-then-chunk-clause-front : goal.returns-then-chunk-clause-front
returns-then-chunk-clause-front g c =
    let setting : Setting = record { start = c.args.start; first = c.args.first; rotated = c.args.rotated } in
    let gives : GivesChunk _ c.read_chunk.new.buffer c.in-Some.chunk (g.R.Read.remaining (inner_of c.chunks.reader)) (g.R.Read.remaining (inner_of c.read_chunk.new.reader)) = rw c.in-Some.is at c.in-Ok.ensures.bytes in
    front_past c.chunks.decoder c.give_chunk.new.decoder c.chunks.keeper c.give_chunk.new.keeper setting c.chunks.total _ c.read_chunk.new.buffer c.in-Some.chunk (g.R.Read.remaining (inner_of c.args.reader.now)) (g.R.Read.remaining (inner_of c.chunks.reader)) (g.R.Read.remaining (inner_of c.read_chunk.new.reader)) (g.O.Write.contents (inner_of c.args.out.now)) (g.O.Write.contents (inner_of c.chunks.out)) (g.O.Write.contents (inner_of c.give_chunk.new.out)) (g.E.Write.contents (inner_of c.args.err.now)) (g.E.Write.contents (inner_of c.chunks.err)) (g.E.Write.contents (inner_of c.give_chunk.new.err)) _
    c.chunks.invariant.given gives c.in_default-give_chunk.ensures.ok c.conclude-then-chunk.ensures

pub returns-then-chunk-clause-bounded : goal.returns-then-chunk-clause-bounded
returns-then-chunk-clause-bounded g c =
    let setting : Setting = record { start = c.args.start; first = c.args.first; rotated = c.args.rotated } in
    let gives : GivesChunk _ c.read_chunk.new.buffer c.in-Some.chunk (g.R.Read.remaining (inner_of c.chunks.reader)) (g.R.Read.remaining (inner_of c.read_chunk.new.reader)) = rw c.in-Some.is at c.in-Ok.ensures.bytes in
    reads_within c.chunks.decoder c.chunks.keeper setting c.chunks.total _ c.read_chunk.new.buffer c.in-Some.chunk (g.R.Read.remaining (inner_of c.args.reader.now)) (g.R.Read.remaining (inner_of c.chunks.reader)) (g.R.Read.remaining (inner_of c.read_chunk.new.reader)) (g.O.Write.contents (inner_of c.args.out.now)) (g.O.Write.contents (inner_of c.chunks.out)) (g.E.Write.contents (inner_of c.args.err.now)) (g.E.Write.contents (inner_of c.chunks.err))
    (rest_up c.chunks.total 67108864 c.chunks.invariant.within) c.chunks.invariant.given gives

pub chunks-preserved : goal.chunks-preserved
chunks-preserved g c =
    let setting : Setting = record { start = c.args.start; first = c.args.first; rotated = c.args.rotated } in
    let gives : GivesChunk _ c.read_chunk.new.buffer c.in-Some.chunk (g.R.Read.remaining (inner_of c.chunks.reader)) (g.R.Read.remaining (inner_of c.read_chunk.new.reader)) = rw c.in-Some.is at c.in-Ok.ensures.bytes in
    record {
      within = more_within c.chunks.total c.in-Some.chunk.within 67108864 c.chunks.invariant.within (gives.none_past c.if-chunk.false).1;
      reading = read_on (has_failed c.chunks.reader) (has_failed c.read_chunk.new.reader) c.read_chunk.result c.in-Ok.read c.read_chunk.ensures.failed c.chunks.invariant.reading c.in-Ok.is;
      working = c.in_default-give_chunk.ensures.working.0;
      telling = c.in_default-give_chunk.ensures.working.1;
      flushed = λ was. c.in_default-give_chunk.ensures.flushed (λ other. cc);
      told = λ was. c.give_chunk.ensures.told (c.chunks.invariant.told was);
      given = given_more c.chunks.decoder c.give_chunk.new.decoder c.chunks.keeper c.give_chunk.new.keeper setting c.chunks.total _ c.read_chunk.new.buffer c.in-Some.chunk (g.R.Read.remaining (inner_of c.args.reader.now)) (g.R.Read.remaining (inner_of c.chunks.reader)) (g.R.Read.remaining (inner_of c.read_chunk.new.reader)) (g.O.Write.contents (inner_of c.args.out.now)) (g.O.Write.contents (inner_of c.chunks.out)) (g.O.Write.contents (inner_of c.give_chunk.new.out)) (g.E.Write.contents (inner_of c.args.err.now)) (g.E.Write.contents (inner_of c.chunks.err)) (g.E.Write.contents (inner_of c.give_chunk.new.err))
          c.if-chunk.false c.chunks.invariant.given gives c.in_default-give_chunk.ensures.ok;
    }

pub returns-in_default-clause-out_blamed : goal.returns-in_default-clause-out_blamed
returns-in_default-clause-out_blamed g c failed = not_both (has_failed c.chunks.out) failed c.chunks.invariant.working

pub returns-in_default-clause-err_blamed : goal.returns-in_default-clause-err_blamed
returns-in_default-clause-err_blamed g c failed = not_both (has_failed c.chunks.err) failed c.chunks.invariant.telling

pub returns-in_default-clause-flushed : goal.returns-in_default-clause-flushed
returns-in_default-clause-flushed g c other was = c.chunks.invariant.flushed was

pub returns-in_default-clause-told : goal.returns-in_default-clause-told
returns-in_default-clause-told g c was = c.chunks.invariant.told was

pub returns-in_default-read-clause-out_blamed : goal.returns-in_default-read-clause-out_blamed
returns-in_default-read-clause-out_blamed g c failed = not_both (has_failed c.chunks.out) failed c.chunks.invariant.working

pub returns-in_default-read-clause-err_blamed : goal.returns-in_default-read-clause-err_blamed
returns-in_default-read-clause-err_blamed g c failed = not_both (has_failed c.chunks.err) failed c.chunks.invariant.telling

pub returns-in_default-read-clause-flushed : goal.returns-in_default-read-clause-flushed
returns-in_default-read-clause-flushed g c other was = c.chunks.invariant.flushed was

pub returns-in_default-read-clause-told : goal.returns-in_default-read-clause-told
returns-in_default-read-clause-told g c was = c.chunks.invariant.told was

pub returns-in_default-read-clause-whole : goal.returns-in_default-read-clause-whole
returns-in_default-read-clause-whole g c = (read_on (has_failed c.chunks.reader) (has_failed c.read_chunk.new.reader) c.read_chunk.result c.in-Ok.read c.read_chunk.ensures.failed c.chunks.invariant.reading c.in-Ok.is, c.chunks.invariant.working, c.chunks.invariant.telling)

pub returns-in_default-read-clause-reader_blamed : goal.returns-in_default-read-clause-reader_blamed
returns-in_default-read-clause-reader_blamed g c failed = not_both (has_failed c.read_chunk.new.reader) failed (read_on (has_failed c.chunks.reader) (has_failed c.read_chunk.new.reader) c.read_chunk.result c.in-Ok.read c.read_chunk.ensures.failed c.chunks.invariant.reading c.in-Ok.is)

pub returns-in-Err-clause-reader_blamed : goal.returns-in-Err-clause-reader_blamed
returns-in-Err-clause-reader_blamed g c failed = not_both (has_failed c.read_chunk.new.reader) failed (read_on (has_failed c.chunks.reader) (has_failed c.read_chunk.new.reader) c.read_chunk.result c.in-Ok.read c.read_chunk.ensures.failed c.chunks.invariant.reading c.in-Ok.is)

pub returns-then-chunk-clause-reader_blamed : goal.returns-then-chunk-clause-reader_blamed
returns-then-chunk-clause-reader_blamed g c failed = not_both (has_failed c.read_chunk.new.reader) failed (read_on (has_failed c.chunks.reader) (has_failed c.read_chunk.new.reader) c.read_chunk.result c.in-Ok.read c.read_chunk.ensures.failed c.chunks.invariant.reading c.in-Ok.is)

pub returns-in-Err-clause-working : goal.returns-in-Err-clause-working
returns-in-Err-clause-working g c is = (c.give_chunk.ensures.write (c.in-Err.is ∙ is)).0

pub returns-in-Err-clause-telling : goal.returns-in-Err-clause-telling
returns-in-Err-clause-telling g c is = (c.give_chunk.ensures.lines (c.in-Err.is ∙ is)).0

pub returns-in-Err-clause-told : goal.returns-in-Err-clause-told
returns-in-Err-clause-told g c was = c.give_chunk.ensures.told (c.chunks.invariant.told was)

pub returns-then-chunk-clause-out_blamed : goal.returns-then-chunk-clause-out_blamed
returns-then-chunk-clause-out_blamed g c failed = not_both (has_failed c.give_chunk.new.out) failed c.in_default-give_chunk.ensures.working.0

pub returns-then-chunk-clause-err_blamed : goal.returns-then-chunk-clause-err_blamed
returns-then-chunk-clause-err_blamed g c failed = not_both (has_failed c.give_chunk.new.err) failed c.in_default-give_chunk.ensures.working.1

pub returns-then-chunk-clause-told : goal.returns-then-chunk-clause-told
returns-then-chunk-clause-told g c was = c.give_chunk.ensures.told (c.chunks.invariant.told was)

pub returns-in_default-clause-ok : goal.returns-in_default-clause-ok
returns-in_default-clause-ok g c = search rules

pub returns-in_default-clause-long : goal.returns-in_default-clause-long
returns-in_default-clause-long g c = search rules

pub returns-in_default-clause-memory : goal.returns-in_default-clause-memory
returns-in_default-clause-memory g c = search rules

pub returns-in_default-clause-whole : goal.returns-in_default-clause-whole
returns-in_default-clause-whole g c = search rules

pub returns-in_default-clause-reading : goal.returns-in_default-clause-reading
returns-in_default-clause-reading g c = search rules

pub returns-in_default-clause-working : goal.returns-in_default-clause-working
returns-in_default-clause-working g c = search rules

pub returns-in_default-clause-telling : goal.returns-in_default-clause-telling
returns-in_default-clause-telling g c = search rules

pub returns-in_default-clause-reader_blamed : goal.returns-in_default-clause-reader_blamed
returns-in_default-clause-reader_blamed g c = search rules

pub returns-in_default-read-clause-read : goal.returns-in_default-read-clause-read
returns-in_default-read-clause-read g c = search rules

pub returns-in_default-read-clause-long : goal.returns-in_default-read-clause-long
returns-in_default-read-clause-long g c = search rules

pub returns-in_default-read-clause-memory : goal.returns-in_default-read-clause-memory
returns-in_default-read-clause-memory g c = search rules

pub returns-in_default-read-clause-reading : goal.returns-in_default-read-clause-reading
returns-in_default-read-clause-reading g c = search rules

pub returns-in_default-read-clause-working : goal.returns-in_default-read-clause-working
returns-in_default-read-clause-working g c = search rules

pub returns-in_default-read-clause-telling : goal.returns-in_default-read-clause-telling
returns-in_default-read-clause-telling g c = search rules

pub give_chunk-requires-clause-working : goal.give_chunk-requires-clause-working
give_chunk-requires-clause-working g c = search rules

pub give_chunk-requires-clause-telling : goal.give_chunk-requires-clause-telling
give_chunk-requires-clause-telling g c = search rules

pub give_chunk-requires-clause-room : goal.give_chunk-requires-clause-room
give_chunk-requires-clause-room g c = search rules

pub give_chunk-requires-clause-begun : goal.give_chunk-requires-clause-begun
give_chunk-requires-clause-begun g c = search rules

pub returns-in-Err-clause-ok : goal.returns-in-Err-clause-ok
returns-in-Err-clause-ok g c = search rules

pub returns-in-Err-clause-whole : goal.returns-in-Err-clause-whole
returns-in-Err-clause-whole g c = search rules

pub returns-then-chunk-clause-ok : goal.returns-then-chunk-clause-ok
returns-then-chunk-clause-ok g c = search rules

pub returns-then-chunk-clause-read : goal.returns-then-chunk-clause-read
returns-then-chunk-clause-read g c = search rules

pub returns-then-chunk-clause-memory : goal.returns-then-chunk-clause-memory
returns-then-chunk-clause-memory g c = search rules

pub returns-then-chunk-clause-whole : goal.returns-then-chunk-clause-whole
returns-then-chunk-clause-whole g c = search rules

pub returns-then-chunk-clause-reading : goal.returns-then-chunk-clause-reading
returns-then-chunk-clause-reading g c = search rules

pub returns-then-chunk-clause-working : goal.returns-then-chunk-clause-working
returns-then-chunk-clause-working g c = search rules

pub returns-then-chunk-clause-telling : goal.returns-then-chunk-clause-telling
returns-then-chunk-clause-telling g c = search rules

pub returns-then-chunk-clause-flushed : goal.returns-then-chunk-clause-flushed
returns-then-chunk-clause-flushed g c = search rules
