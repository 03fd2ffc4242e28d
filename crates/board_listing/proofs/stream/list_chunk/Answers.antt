use Rattle.std.proofs.Common.{◌≡◌, ◌+◌, ◌-◌, ◌<◌, ◌≤◌, ◌++◌, List, ℕ, length, take, drop, sym, ap, ◌∙◌, subst, take_all, take-add, length-drop, arith, rules, IfSome, IfNone}
use Rattle.std.proofs.lemmas.List.{length-take-le, take-append-drop}
use Rattle.dgt_frame.specs.Decoder.{TakesAll, TakesUpTo}
use Rattle.watched_streams.specs.Watch.{inner_of}
use Rattle.board_listing.specs.Inside.Progress.{BreaksOff, ListsChunk}
use Rattle.board_listing.proofs.ChunkLemmas.{breaks_end, breaks_event, lists_end, lists_event, lists_none, lists_start, taken_more}
use Rattle.board_listing.proofs.stream.list_chunk.Goals as goal

pub events-init : goal.events-init
events-init g c = record {
  inside = omega arith;
  working = search rules;
  begun = c.requires.begun;
  room = search rules;
  taken = search rules;
  listing = lists_start c.args.decoder.now c.args.printer.now c.args.start (g.O.Write.contents (inner_of c.args.out.now)) c.new-lines.result.items c.new-lines.ensures;
}

pub events-preserved : goal.events-preserved
events-preserved g c =
    let chunk = c.args.chunk.now in
    let front = take c.events.taken chunk in
    let more = drop c.events.taken chunk in
    let all : take (length chunk - c.events.taken) more ≡ more = take_all (length chunk - c.events.taken) more (omega (arith, length-drop c.events.taken chunk)) in
    let taken : TakesUpTo c.events.decoder (take (length chunk - c.events.taken) more) c.in-Some.more c.push_into.new.event c.push_into.new.self =
    subst (λ found. IfSome found (λ size. TakesUpTo c.events.decoder (take (length chunk - c.events.taken) more) size c.push_into.new.event c.push_into.new.self)) c.in-Some.is c.push_into.ensures.some in
    let takes : TakesUpTo c.events.decoder more c.in-Some.more c.push_into.new.event c.push_into.new.self = rw all at taken in
    let counts : (0 < c.in-Some.more) × (c.in-Some.more ≤ length (take (length chunk - c.events.taken) more)) =
    subst (λ found. IfSome found (λ size. (0 < size) × (size ≤ length (take (length chunk - c.events.taken) more)))) c.in-Some.is c.push_into.ensures.taken in
    let inside : c.in-Some.more ≤ length more = rw all at counts.1 in
    let some : 0 < c.in-Some.more = counts.0 in
    let front_long : length front ≡ c.events.taken = length-take-le c.events.taken chunk c.events.invariant.inside in
    record {
      inside = omega (arith, inside, length-drop c.events.taken chunk);
      working = c.in_default-gather.ensures.working;
      begun = c.in_default-gather.ensures.begun;
      room = c.in_default-gather.ensures.room;
      taken = taken_more c.events.decoder c.push_into.new.self c.in-Some.more c.args.start c.events.taken c.push_into.new.event more inside takes c.events.invariant.taken;
      listing = rw (take-add c.events.taken c.in-Some.more chunk) (lists_event c.args.decoder.now c.events.decoder c.push_into.new.self c.args.printer.now c.events.printer c.gather.new.printer
          c.args.start c.in-Some.more (c.args.start + (c.events.taken + c.in-Some.more - 1)) c.push_into.new.event front more (g.O.Write.contents (inner_of c.args.out.now))
          (g.O.Write.contents (inner_of c.events.out)) (g.O.Write.contents (inner_of c.gather.new.out)) c.events.lines.items c.gather.new.lines.items (omega (arith, front_long, some)) takes
          c.in_default-gather.ensures.ok c.events.invariant.listing);
    }

pub returns-in-Err-clause-broken : goal.returns-in-Err-clause-broken
returns-in-Err-clause-broken g c =
    let before = g.O.Write.contents (inner_of c.args.out.now) in
    let written = g.O.Write.contents (inner_of c.events.out) in
    let after = g.O.Write.contents (inner_of c.gather.new.out) in
    let chunk = c.args.chunk.now in
    let count = c.in-Some.more in
    let front = take c.events.taken chunk in
    let more = drop c.events.taken chunk in
    let all : take (length chunk - c.events.taken) more ≡ more = take_all (length chunk - c.events.taken) more (omega (arith, length-drop c.events.taken chunk)) in
    let taken : TakesUpTo c.events.decoder (take (length chunk - c.events.taken) more) count c.push_into.new.event c.push_into.new.self =
    subst (λ found. IfSome found (λ size. TakesUpTo c.events.decoder (take (length chunk - c.events.taken) more) size c.push_into.new.event c.push_into.new.self)) c.in-Some.is c.push_into.ensures.some in
    let takes : TakesUpTo c.events.decoder more count c.push_into.new.event c.push_into.new.self = rw all at taken in
    let counts : (0 < count) × (count ≤ length (take (length chunk - c.events.taken) more)) =
    subst (λ found. IfSome found (λ size. (0 < size) × (size ≤ length (take (length chunk - c.events.taken) more)))) c.in-Some.is c.push_into.ensures.taken in
    let some : 0 < count = counts.0 in
    let front_long : length front ≡ c.events.taken = length-take-le c.events.taken chunk c.events.invariant.inside in
    let left = drop (c.events.taken + count) chunk in
    let chunk_is : (front ++ take count more) ++ left ≡ chunk = ap (λ bs. bs ++ left) (sym (take-add c.events.taken count chunk)) ∙ take-append-drop (c.events.taken + count) chunk in
    let P : List ℕ → Type 0 = λ bytes. BreaksOff c.in-Err.error c.args.decoder.now c.args.printer.now c.args.start bytes c.push_into.new.self before after in
    subst P chunk_is (breaks_event c.in-Err.error c.args.decoder.now c.events.decoder c.push_into.new.self c.args.printer.now c.events.printer c.args.start count
    (c.args.start + (c.events.taken + count - 1)) c.push_into.new.event front more left before written after c.events.lines.items (omega (arith, front_long, some)) takes
    c.in-Err.ensures.broken c.events.invariant.listing)

pub returns-in-Ok-clause-ok : goal.returns-in-Ok-clause-ok
returns-in-Ok-clause-ok g c =
    let before = g.O.Write.contents (inner_of c.args.out.now) in
    let written = g.O.Write.contents (inner_of c.events.out) in
    let after = g.O.Write.contents (inner_of c.put.new.out) in
    let chunk = c.args.chunk.now in
    let more = drop c.events.taken chunk in
    let all : take (length chunk - c.events.taken) more ≡ more = take_all (length chunk - c.events.taken) more (omega (arith, length-drop c.events.taken chunk)) in
    let none : TakesAll c.events.decoder (take (length chunk - c.events.taken) more) c.push_into.new.self =
    subst (λ found. IfNone found (TakesAll c.events.decoder (take (length chunk - c.events.taken) more) c.push_into.new.self)) c.in_default.is c.push_into.ensures.none in
    let P : List ℕ → Type 0 = λ bytes. ListsChunk c.args.decoder.now c.args.printer.now c.args.start bytes c.push_into.new.self c.events.printer before written c.events.lines.items in
    let listing : ListsChunk c.args.decoder.now c.args.printer.now c.args.start chunk c.push_into.new.self c.events.printer before written c.events.lines.items =
    subst P (take-append-drop c.events.taken chunk) (lists_none c.args.decoder.now c.events.decoder c.push_into.new.self c.args.printer.now c.events.printer c.args.start
    (take c.events.taken chunk) more before written c.events.lines.items (rw all at none) c.events.invariant.listing) in
    lists_end c.args.decoder.now c.push_into.new.self c.args.printer.now c.events.printer c.args.start chunk before written after c.events.lines.items (rw c.as_slice.ensures.value at c.in-Ok.ensures.ok) listing

pub returns-in-Err-put-clause-broken : goal.returns-in-Err-put-clause-broken
returns-in-Err-put-clause-broken g c =
    let before = g.O.Write.contents (inner_of c.args.out.now) in
    let written = g.O.Write.contents (inner_of c.events.out) in
    let after = g.O.Write.contents (inner_of c.put.new.out) in
    let chunk = c.args.chunk.now in
    let more = drop c.events.taken chunk in
    let all : take (length chunk - c.events.taken) more ≡ more = take_all (length chunk - c.events.taken) more (omega (arith, length-drop c.events.taken chunk)) in
    let none : TakesAll c.events.decoder (take (length chunk - c.events.taken) more) c.push_into.new.self =
    subst (λ found. IfNone found (TakesAll c.events.decoder (take (length chunk - c.events.taken) more) c.push_into.new.self)) c.in_default.is c.push_into.ensures.none in
    let P : List ℕ → Type 0 = λ bytes. ListsChunk c.args.decoder.now c.args.printer.now c.args.start bytes c.push_into.new.self c.events.printer before written c.events.lines.items in
    let listing : ListsChunk c.args.decoder.now c.args.printer.now c.args.start chunk c.push_into.new.self c.events.printer before written c.events.lines.items =
    subst P (take-append-drop c.events.taken chunk) (lists_none c.args.decoder.now c.events.decoder c.push_into.new.self c.args.printer.now c.events.printer c.args.start
    (take c.events.taken chunk) more before written c.events.lines.items (rw all at none) c.events.invariant.listing) in
    breaks_end c.args.decoder.now c.push_into.new.self c.args.printer.now c.events.printer c.args.start c.in-Err-put.field-0.written chunk before written after c.events.lines.items
    (rw c.as_slice.ensures.value at c.in-Err-put.ensures.fault.1) listing
