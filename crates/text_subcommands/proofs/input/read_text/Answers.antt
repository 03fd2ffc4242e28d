use Rattle.std.proofs.Common.{◌≡◌, ◌++◌, ◌∙◌, take, sym, arith, rules}
use Rattle.std.proofs.KnownBytes.{Consumes-trans}
use Rattle.std.specs.Io.KnownBytes.{Consumes}
use Rattle.watched_streams.specs.Input.{GivesChunk}
use Rattle.watched_streams.specs.Watch.{inner_of}
use Rattle.text_subcommands.proofs.CheckLemmas.{read_more, too_long}
use Rattle.watched_streams.proofs.ResultLemmas.{if_ok}
use Rattle.text_subcommands.proofs.input.read_text.Goals as goal

pub returns-then-chunk-clause-bounded : goal.returns-then-chunk-clause-bounded
returns-then-chunk-clause-bounded g c =
    read_more c.args.limit _ (g.R.Read.remaining (inner_of c.args.reader.now)) (g.R.Read.remaining (inner_of c.chunks.reader)) (g.R.Read.remaining (inner_of c.read_chunk.new.reader))
    c.chunks.text.items c.read_chunk.new.buffer c.in-Some.chunk c.chunks.invariant.read (rw c.in-Some.is at c.in-Ok.ensures.bytes) (omega (arith, c.chunks.invariant.within, c.len.ensures))

pub returns-then-is_err-clause-bounded : goal.returns-then-is_err-clause-bounded
returns-then-is_err-clause-bounded g c =
    read_more c.args.limit _ (g.R.Read.remaining (inner_of c.args.reader.now)) (g.R.Read.remaining (inner_of c.chunks.reader)) (g.R.Read.remaining (inner_of c.read_chunk.new.reader))
    c.chunks.text.items c.read_chunk.new.buffer c.in-Some.chunk c.chunks.invariant.read (rw c.in-Some.is at c.in-Ok.ensures.bytes) (omega (arith, c.chunks.invariant.within, c.len.ensures))

pub returns-then-chunk-clause-long : goal.returns-then-chunk-clause-long
returns-then-chunk-clause-long g c same =
    too_long c.args.limit _ (g.R.Read.remaining (inner_of c.args.reader.now)) (g.R.Read.remaining (inner_of c.chunks.reader)) (g.R.Read.remaining (inner_of c.read_chunk.new.reader))
    c.chunks.text.items c.read_chunk.new.buffer c.in-Some.chunk c.chunks.invariant.read (rw c.in-Some.is at c.in-Ok.ensures.bytes) (omega (arith, c.chunks.invariant.within, c.len.ensures)) c.if-chunk.true

pub chunks-preserved : goal.chunks-preserved
chunks-preserved g c =
    let input = g.R.Read.remaining (inner_of c.args.reader.now) in
    let now = g.R.Read.remaining (inner_of c.chunks.reader) in
    let left = g.R.Read.remaining (inner_of c.read_chunk.new.reader) in
    let text = c.chunks.text.items in
    let chunk = take c.in-Some.chunk.within c.read_chunk.new.buffer in
    let gives : GivesChunk _ c.read_chunk.new.buffer c.in-Some.chunk now left = rw c.in-Some.is at c.in-Ok.ensures.bytes in
    let next : Consumes input left (text ++ chunk) = Consumes-trans input now left text chunk c.chunks.invariant.read (gives.none_past c.if-chunk.false).2 in
    let text_is : c.extend_from_slice.new.self.items ≡ text ++ chunk =
    c.extend_from_slice.ensures.items ∙ if_ok c.extend_from_slice.result (text ++ chunk) text (sym c.is_err.ensures.value ∙ c.if-is_err.false) in
    record { working = search rules; within = search rules; read = rw text_is next }

pub chunks-smaller : goal.chunks-smaller
chunks-smaller g c = search rules
