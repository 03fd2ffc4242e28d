use Rattle.std.proofs.Common.{◌≡◌, ◌∙◌, ◌<◌, ◌≤◌, ◌+◌, ◌-◌, ℕ, [], Err, Option, IfNone, IfSome, length, take, drop, ap, sym, subst, true, false, take_all, length-drop, arith}
use Rattle.std.proofs.lemmas.Bool.Decides.{nat_tests}
use Rattle.std.proofs.lemmas.List.{length-take-le}
use Rattle.watched_streams.proofs.ResultLemmas.{on_ok}
use Rattle.std.specs.Io.KnownBytes.{Appends}
use Rattle.watched_streams.specs.Watch.{inner_of}
use Rattle.watched_streams.specs.Output.{AppendsPart}
use Rattle.recovery.specs.declared.refusal.RecoverError.{RecoverError}
use Rattle.recovery.specs.Inside.Passing.{PassesBytes}
use Rattle.recovery.specs.Inside.Progress.{BreaksOff, PassesOn, HasBegun, IsPutIn, RefusesAmong}
use Rattle.recovery.proofs.ChunkLemmas.{both_broken, chunk_broken, chunk_sent, event_passed, event_put, memory_broken, pair_broken, pair_unwritten, write_broken}
use Rattle.recovery.proofs.GiveLemmas.{begun_on, gives_start}
use Rattle.recovery.proofs.stream.give_chunk.Goals as goal

pub events-init : goal.events-init
events-init g c =
    let at : c.args.start ≡ c.args.start + 0 = omega arith in
    record {
      inside = omega arith;
      behind = omega arith;
      working = c.requires.working;
      telling = c.requires.telling;
      told = λ was. was;
      begun = subst (HasBegun c.args.decoder.now c.args.keeper.now) at c.requires.begun;
      given = gives_start c.args.decoder.now c.args.keeper.now c.args.start _ _;
    }

pub events-preserved-then-is_empty : goal.events-preserved-then-is_empty
events-preserved-then-is_empty g c =
    let chunk = c.args.chunk.now in
    let rest = drop c.events.taken chunk in
    let all : take (length chunk - c.events.taken) rest ≡ rest = take_all (length chunk - c.events.taken) rest (omega (arith, length-drop c.events.taken chunk)) in
    let counts : (0 < c.in-Some.more) × (c.in-Some.more ≤ length (take (length chunk - c.events.taken) rest)) =
    subst (λ (found : Option ℕ). IfSome found (λ count. (0 < count) × (count ≤ length (take (length chunk - c.events.taken) rest)))) c.in-Some.is c.in-Ok.ensures.taken in
    let inside : c.in-Some.more ≤ length rest = rw all at counts.1 in
    let passes : PassesBytes c.events.decoder c.events.keeper (c.args.start + c.events.taken) (take c.in-Some.more (take (length chunk - c.events.taken) rest)) c.pass.new.decoder c.pass.new.keeper c.pass.new.frames.items c.pass.new.line.items =
    subst (λ (found : Option ℕ). IfSome found (λ count. PassesBytes c.events.decoder c.events.keeper (c.args.start + c.events.taken) (take count (take (length chunk - c.events.taken) rest)) c.pass.new.decoder c.pass.new.keeper c.pass.new.frames.items c.pass.new.line.items)) c.in-Some.is c.in-Ok.ensures.some in
    let put : IsPutIn c.pass.new.frames.items c.pass.new.line.items = subst (λ (found : Option ℕ). IfSome found (λ _. IsPutIn c.pass.new.frames.items c.pass.new.line.items)) c.in-Some.is c.in-Ok.ensures.put_in in
    let empty : length c.pass.new.line.items ≡ 0 = grind (arith, nat_tests) in
    let given = event_passed c.args.decoder.now c.events.decoder c.pass.new.decoder c.args.keeper.now c.events.keeper c.pass.new.keeper c.args.start c.events.taken c.in-Some.more c.events.sent chunk
    c.pass.new.frames.items c.pass.new.line.items _ _ _ _ c.events.invariant.behind c.events.invariant.inside empty put (rw all at passes) c.events.invariant.given in
    let long : length (take (c.events.taken + c.in-Some.more) chunk) ≡ c.events.taken + c.in-Some.more = length-take-le (c.events.taken + c.in-Some.more) chunk (omega (arith, inside, length-drop c.events.taken chunk, c.events.invariant.inside)) in
    record {
      inside = omega (arith, inside, length-drop c.events.taken chunk);
      behind = omega (arith, c.events.invariant.behind);
      working = c.events.invariant.working;
      telling = c.events.invariant.telling;
      told = c.events.invariant.told;
      begun = subst (λ n. HasBegun c.pass.new.decoder c.pass.new.keeper (c.args.start + n)) long (begun_on c.args.decoder.now c.pass.new.decoder c.args.keeper.now c.pass.new.keeper c.args.start (take (c.events.taken + c.in-Some.more) chunk) _ _ _ _ _ c.requires.begun given);
      given = given;
    }

pub events-preserved : goal.events-preserved
events-preserved g c =
    let chunk = c.args.chunk.now in
    let rest = drop c.events.taken chunk in
    let all : take (length chunk - c.events.taken) rest ≡ rest = take_all (length chunk - c.events.taken) rest (omega (arith, length-drop c.events.taken chunk)) in
    let counts : (0 < c.in-Some.more) × (c.in-Some.more ≤ length (take (length chunk - c.events.taken) rest)) =
    subst (λ (found : Option ℕ). IfSome found (λ count. (0 < count) × (count ≤ length (take (length chunk - c.events.taken) rest)))) c.in-Some.is c.in-Ok.ensures.taken in
    let inside : c.in-Some.more ≤ length rest = rw all at counts.1 in
    let passes : PassesBytes c.events.decoder c.events.keeper (c.args.start + c.events.taken) (take c.in-Some.more (take (length chunk - c.events.taken) rest)) c.pass.new.decoder c.pass.new.keeper c.pass.new.frames.items c.pass.new.line.items =
    subst (λ (found : Option ℕ). IfSome found (λ count. PassesBytes c.events.decoder c.events.keeper (c.args.start + c.events.taken) (take count (take (length chunk - c.events.taken) rest)) c.pass.new.decoder c.pass.new.keeper c.pass.new.frames.items c.pass.new.line.items)) c.in-Some.is c.in-Ok.ensures.some in
    let given = event_put c.args.decoder.now c.events.decoder c.pass.new.decoder c.args.keeper.now c.events.keeper c.pass.new.keeper c.args.start c.events.taken c.in-Some.more c.events.sent chunk
    c.pass.new.frames.items c.pass.new.line.items _ _ _ _ _ _ c.events.invariant.behind c.events.invariant.inside (rw all at passes) c.in_default-put_pair.ensures.written c.in_default-put_pair.ensures.said c.events.invariant.given in
    let long : length (take (c.events.taken + c.in-Some.more) chunk) ≡ c.events.taken + c.in-Some.more = length-take-le (c.events.taken + c.in-Some.more) chunk (omega (arith, inside, length-drop c.events.taken chunk, c.events.invariant.inside)) in
    record {
      inside = omega (arith, inside, length-drop c.events.taken chunk);
      behind = omega arith;
      working = c.in_default-put_pair.ensures.working.0;
      telling = c.in_default-put_pair.ensures.working.1;
      told = λ was. c.put_pair.ensures.told;
      begun = subst (λ n. HasBegun c.pass.new.decoder c.pass.new.keeper (c.args.start + n)) long (begun_on c.args.decoder.now c.pass.new.decoder c.args.keeper.now c.pass.new.keeper c.args.start (take (c.events.taken + c.in-Some.more) chunk) _ _ _ _ _ c.requires.begun given);
      given = given;
    }

pub returns-in-Ok-send-clause-broken : goal.returns-in-Ok-send-clause-broken
returns-in-Ok-send-clause-broken g c =
    let chunk = c.args.chunk.now in
    let rest = drop c.events.taken chunk in
    let all : take (length chunk - c.events.taken) rest ≡ rest = take_all (length chunk - c.events.taken) rest (omega (arith, length-drop c.events.taken chunk)) in
    let refuses : RefusesAmong c.events.decoder c.events.keeper rest = subst (RefusesAmong c.events.decoder c.events.keeper) all c.in_default.ensures.refused in
    memory_broken c.args.decoder.now c.events.decoder c.args.keeper.now c.events.keeper c.args.start c.events.taken c.events.sent chunk _ _ _ _ _
    c.in_default.ensures.before refuses c.in-Ok-send.ensures.ok c.events.invariant.given

pub returns-in-Err-clause-broken : goal.returns-in-Err-clause-broken
returns-in-Err-clause-broken g c =
    let F : RecoverError → Type 0 = λ error. BreaksOff error c.args.decoder.now c.args.keeper.now c.args.start c.args.chunk.now (g.O.Write.contents (inner_of c.args.out.now)) (g.O.Write.contents (inner_of c.send.new.out))
    (g.E.Write.contents (inner_of c.args.err.now)) (g.E.Write.contents (inner_of c.events.err)) in
    subst F (sym c.in-Err.ensures.cause)
    (both_broken c.args.decoder.now c.events.decoder c.args.keeper.now c.events.keeper c.args.start c.events.taken c.events.sent c.args.chunk.now _ _ _ _ _
    c.in_default.ensures.before c.in-Err.ensures.part c.events.invariant.given)

pub returns-in_default-passed-clause-ok : goal.returns-in_default-passed-clause-ok
returns-in_default-passed-clause-ok g c =
    let chunk = c.args.chunk.now in
    let rest = drop c.events.taken chunk in
    let all : take (length chunk - c.events.taken) rest ≡ rest = take_all (length chunk - c.events.taken) rest (omega (arith, length-drop c.events.taken chunk)) in
    let unsent : take (length chunk - c.events.sent) (drop c.events.sent chunk) ≡ drop c.events.sent chunk = take_all (length chunk - c.events.sent) (drop c.events.sent chunk) (omega (arith, length-drop c.events.sent chunk)) in
    let passes : PassesBytes c.events.decoder c.events.keeper (c.args.start + c.events.taken) (take (length chunk - c.events.taken) rest) c.pass.new.decoder c.pass.new.keeper [] [] =
    subst (λ (found : Option ℕ). IfNone found (PassesBytes c.events.decoder c.events.keeper (c.args.start + c.events.taken) (take (length chunk - c.events.taken) rest) c.pass.new.decoder c.pass.new.keeper [] [])) c.in_default-passed.is c.in-Ok.ensures.none in
    on_ok (Appends (g.O.Write.contents (inner_of c.events.out)) (g.O.Write.contents (inner_of c.send-in_default-passed.new.out)) (take (length chunk - c.events.sent) (drop c.events.sent chunk)))
    (PassesOn c.args.decoder.now c.args.keeper.now c.args.start chunk c.pass.new.decoder c.pass.new.keeper [] (g.O.Write.contents (inner_of c.args.out.now)) (g.O.Write.contents (inner_of c.send-in_default-passed.new.out))
    (g.E.Write.contents (inner_of c.args.err.now)) (g.E.Write.contents (inner_of c.events.err))) c.send-in_default-passed.result c.send-in_default-passed.ensures.ok
    (λ sent. chunk_sent c.args.decoder.now c.events.decoder c.pass.new.decoder c.args.keeper.now c.events.keeper c.pass.new.keeper c.args.start c.events.taken c.events.sent chunk _ _ _ _ _
    c.events.invariant.behind c.events.invariant.inside (rw all at passes) (rw unsent at sent) c.events.invariant.given)

pub returns-in_default-passed-clause-broken : goal.returns-in_default-passed-clause-broken
returns-in_default-passed-clause-broken g c =
    let chunk = c.args.chunk.now in
    let rest = drop c.events.taken chunk in
    let all : take (length chunk - c.events.taken) rest ≡ rest = take_all (length chunk - c.events.taken) rest (omega (arith, length-drop c.events.taken chunk)) in
    let unsent : take (length chunk - c.events.sent) (drop c.events.sent chunk) ≡ drop c.events.sent chunk = take_all (length chunk - c.events.sent) (drop c.events.sent chunk) (omega (arith, length-drop c.events.sent chunk)) in
    let passes : PassesBytes c.events.decoder c.events.keeper (c.args.start + c.events.taken) (take (length chunk - c.events.taken) rest) c.pass.new.decoder c.pass.new.keeper [] [] =
    subst (λ (found : Option ℕ). IfNone found (PassesBytes c.events.decoder c.events.keeper (c.args.start + c.events.taken) (take (length chunk - c.events.taken) rest) c.pass.new.decoder c.pass.new.keeper [] [])) c.in_default-passed.is c.in-Ok.ensures.none in
    write_broken (λ error. BreaksOff error c.args.decoder.now c.args.keeper.now c.args.start chunk (g.O.Write.contents (inner_of c.args.out.now)) (g.O.Write.contents (inner_of c.send-in_default-passed.new.out))
    (g.E.Write.contents (inner_of c.args.err.now)) (g.E.Write.contents (inner_of c.events.err)))
    (AppendsPart (g.O.Write.contents (inner_of c.events.out)) (g.O.Write.contents (inner_of c.send-in_default-passed.new.out)) (take (length chunk - c.events.sent) (drop c.events.sent chunk)))
    c.send-in_default-passed.result c.send-in_default-passed.ensures.part c.send-in_default-passed.ensures.cause
    (λ sent. chunk_broken c.args.decoder.now c.events.decoder c.pass.new.decoder c.args.keeper.now c.events.keeper c.pass.new.keeper c.args.start c.events.taken c.events.sent chunk _ _ _ _ _
    c.events.invariant.behind c.events.invariant.inside (rw all at passes) c.conclude.ensures (rw unsent at sent) c.events.invariant.given)

pub returns-in-Err-put_pair-clause-broken : goal.returns-in-Err-put_pair-clause-broken
returns-in-Err-put_pair-clause-broken g c =
    let chunk = c.args.chunk.now in
    let rest = drop c.events.taken chunk in
    let all : take (length chunk - c.events.taken) rest ≡ rest = take_all (length chunk - c.events.taken) rest (omega (arith, length-drop c.events.taken chunk)) in
    let passes : PassesBytes c.events.decoder c.events.keeper (c.args.start + c.events.taken) (take c.in-Some.more (take (length chunk - c.events.taken) rest)) c.pass.new.decoder c.pass.new.keeper c.pass.new.frames.items c.pass.new.line.items =
    subst (λ (found : Option ℕ). IfSome found (λ count. PassesBytes c.events.decoder c.events.keeper (c.args.start + c.events.taken) (take count (take (length chunk - c.events.taken) rest)) c.pass.new.decoder c.pass.new.keeper c.pass.new.frames.items c.pass.new.line.items)) c.in-Some.is c.in-Ok.ensures.some in
    let put : IsPutIn c.pass.new.frames.items c.pass.new.line.items = subst (λ (found : Option ℕ). IfSome found (λ _. IsPutIn c.pass.new.frames.items c.pass.new.line.items)) c.in-Some.is c.in-Ok.ensures.put_in in
    let some : 0 < length c.pass.new.line.items = grind (arith, nat_tests) in
    pair_broken c.in-Err-put_pair.error c.args.decoder.now c.events.decoder c.pass.new.decoder c.args.keeper.now c.events.keeper c.pass.new.keeper c.args.start c.events.taken c.in-Some.more c.events.sent chunk
    c.pass.new.frames.items c.pass.new.line.items _ _ _ _ _ _ c.events.invariant.behind c.events.invariant.inside some put c.in-Ok.ensures.before c.conclude-in-Err-put_pair.ensures (rw all at passes)
    c.in-Err-put_pair.ensures.part c.events.invariant.given

pub returns-in-Err-put_pair-clause-flushed : goal.returns-in-Err-put_pair-clause-flushed
returns-in-Err-put_pair-clause-flushed g c other working =
    let write = pair_unwritten c.in-Err-put_pair.error _ _ _ _ _ _ c.in-Err-put_pair.ensures.part (λ e. other (ap Err e)) in
    let failed = (c.put_pair.ensures.write (c.in-Err-put_pair.is ∙ ap Err write)).0 in
    absurd (let bad : true ≡ false = sym failed ∙ working in cc)
