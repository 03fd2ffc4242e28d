use Rattle.std.proofs.Common.{[], rules, arith}
use Rattle.std.proofs.lemmas.List.{length-take-le}
use Rattle.std.proofs.lemmas.Result.{err_from_is_err_and}
use Rattle.std.specs.Io.KnownBytes.{Consumes, IsAtEnd}
use Rattle.watched_streams.specs.Input.{GivesChunk}
use Rattle.watched_streams.specs.Watch.{inner_of}
use Rattle.board_session.proofs.ReadLemmas.{read_failed, read_ended, stopped_in_chunk, too_long, goes_on}
use Rattle.board_session.proofs.recorder.Recorder.read_all.Goals as goal

pub returns-in_default-clause-listened : goal.returns-in_default-clause-listened
returns-in_default-clause-listened g c = λ setting before h.
    let reads = c.chunks.invariant.reads setting before h in
    let count = c.chunks.invariant.within in
    read_failed c.chunks.self setting _ _ _ before _ reads.0 reads.1 reads.3 c.in_default.ensures.bytes (omega (arith, reads.2)) reads.4

pub returns-in_default-read-clause-listened : goal.returns-in_default-read-clause-listened
returns-in_default-read-clause-listened g c = λ setting before h.
    let reads = c.chunks.invariant.reads setting before h in
    let count = c.chunks.invariant.within in
    let left = g.R.Read.remaining (inner_of c.read_chunk.new.reader) in
    let ended : Consumes (g.R.Read.remaining (inner_of c.chunks.reader)) left [] × IsAtEnd left = rw c.in_default-read.is at c.in-Ok.ensures.bytes in
    read_ended c.chunks.self setting _ _ _ before _ reads.0 reads.1 reads.3 ended.0 ended.1 (omega (arith, reads.2)) reads.4

pub returns-in_err-take_chunk-clause-listened : goal.returns-in_err-take_chunk-clause-listened
returns-in_err-take_chunk-clause-listened g c = let p = err_from_is_err_and c.from_residual.result c.from_residual.ensures.1 in rw (p.1, p.2) (λ setting before h.
    let reads = c.chunks.invariant.reads setting before h in
    let count = c.chunks.invariant.within in
    stopped_in_chunk c.in_err-take_chunk.field-0.0 c.take_chunk.new.self setting _ _ _ before _ reads.0 c.read_chunk.new.buffer _ c.in-Some.chunk reads.3 (rw c.in-Some.is at c.in-Ok.ensures.bytes) (omega (arith, reads.2))
    (c.in_err-take_chunk.ensures.hears setting before reads.0 reads.1 reads.4))

pub returns-then-chunk-clause-listened : goal.returns-then-chunk-clause-listened
returns-then-chunk-clause-listened g c = λ setting before h.
    let reads = c.chunks.invariant.reads setting before h in
    let count = c.chunks.invariant.within in
    let hears = c.in_ok-take_chunk.ensures.hears setting before reads.0 reads.1 reads.4 in
    too_long c.take_chunk.new.self setting _ _ _ before _ reads.0 c.read_chunk.new.buffer _ c.in-Some.chunk _ reads.3 (rw c.in-Some.is at c.in-Ok.ensures.bytes) (omega (arith, reads.2)) c.if-chunk.true hears.1

pub chunks-preserved : goal.chunks-preserved
chunks-preserved g c =
    let gives : GivesChunk _ c.read_chunk.new.buffer c.in-Some.chunk (g.R.Read.remaining (inner_of c.chunks.reader)) (g.R.Read.remaining (inner_of c.read_chunk.new.reader)) =
    rw c.in-Some.is at c.in-Ok.ensures.bytes in
    let within = gives.none_past c.if-chunk.false in
    record {
      within = omega (arith, c.chunks.invariant.within, within.1);
      fed = c.in_ok-take_chunk.ensures.fed;
      count = omega (arith, c.in_ok-take_chunk.ensures.count, c.chunks.invariant.count, length-take-le c.in-Some.chunk.within c.read_chunk.new.buffer gives.fits);
      reading = search rules;
      working = search rules;
      flushed = λ was. c.take_chunk.ensures.flushed (c.chunks.invariant.flushed was);
      reads = λ setting before h.
          let reads = c.chunks.invariant.reads setting before h in
          let hears = c.in_ok-take_chunk.ensures.hears setting before reads.0 reads.1 reads.4 in
          goes_on c.take_chunk.new.self setting _ _ _ before _ reads.0 c.read_chunk.new.buffer _ c.in-Some.chunk c.chunks.total _ reads.3 gives c.if-chunk.false reads.2 hears.1;
    }
