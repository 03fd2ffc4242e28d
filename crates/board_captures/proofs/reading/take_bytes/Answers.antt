use Rattle.std.proofs.Common.{◌≡◌, ℕ, ◌+◌, ◌-◌, ◌<◌, ◌≤◌, List, [], ◌∷◌, ◌++◌, length, length-drop, take, take-add, take_all, drop, arith, subst, sym, refl, IfSome, IfNone}
use Rattle.std.proofs.lemmas.List.{take-append-drop}
use Rattle.dgt_frame.specs.Decoder.{Decoded, TakesAll, TakesUpTo}
use Rattle.dgt_frame.specs.Streams.{Timed}
use Rattle.board_events.specs.Commands.{past_of}
use Rattle.board_captures.specs.Reading.{StandsForCapture}
use Rattle.board_captures.proofs.ReadLemmas.{past_more}
use Rattle.board_captures.proofs.reading.take_bytes.Goals as goal

pub events-init : goal.events-init
events-init c = record { inside = omega arith; fed = ([], c.new-decoder.ensures, λ setting h. h) }

pub events-preserved : goal.events-preserved
events-preserved c =
    let bytes = c.args.bytes.now in
    let at = c.events.at in
    let n = c.in-Some.taken in
    let event = c.push_into.new.event in
    let more = drop at bytes in
    let all : take (length bytes - at) more ≡ more = take_all (length bytes - at) more (omega (arith, length-drop at bytes)) in
    let some : TakesUpTo c.events.decoder (take (length bytes - at) more) n event c.push_into.new.self =
    subst (λ found. IfSome found (λ size. TakesUpTo c.events.decoder (take (length bytes - at) more) size event c.push_into.new.self)) c.in-Some.is c.push_into.ensures.some in
    let takes : TakesUpTo c.events.decoder more n event c.push_into.new.self = rw all at some in
    let counts : (0 < n) × (n ≤ length (take (length bytes - at) more)) =
    subst (λ found. IfSome found (λ size. (0 < size) × (size ≤ length (take (length bytes - at) more)))) c.in-Some.is c.push_into.ensures.taken in
    let inside : n ≤ length more = rw all at counts.1 in
    let fed = c.events.invariant.fed in
    let offset = length (take at bytes) + (n - 1) in
    let later : List Timed = fed.0 ++ record { offset = offset; event = event } ∷ [] in
    let D : List ℕ → Type 0 = λ bs. Decoded c.push_into.new.self bs later in
    record {
      inside = omega (arith, inside, length-drop at bytes);
      fed = (
        later,
        subst D (sym (take-add at n bytes)) (takes (take at bytes) fed.0 fed.1),
        λ setting h. subst (λ past. StandsForCapture c.take.new.self setting past) (sym (past_more fed.0 offset event))
            (c.in_ok-take.ensures setting (past_of fed.0) (fed.2 setting h)),
      );
    }

pub returns : goal.returns
returns c = λ setting h.
    let bytes = c.args.bytes.now in
    let at = c.events.at in
    let more = drop at bytes in
    let all : take (length bytes - at) more ≡ more = take_all (length bytes - at) more (omega (arith, length-drop at bytes)) in
    let none : TakesAll c.events.decoder (take (length bytes - at) more) c.push_into.new.self =
    subst (λ found. IfNone found (TakesAll c.events.decoder (take (length bytes - at) more) c.push_into.new.self)) c.in_default.is c.push_into.ensures.none in
    let takes : TakesAll c.events.decoder more c.push_into.new.self = rw all at none in
    let fed = c.events.invariant.fed in
    let D : List ℕ → Type 0 = λ bs. Decoded c.push_into.new.self bs fed.0 in
    let decoded = subst D (take-append-drop at bytes) (takes (take at bytes) fed.0 fed.1) in
    (past_of fed.0, (fed.0, _, c.pending.ensures bytes fed.0 decoded, refl), fed.2 setting h)
