use Rattle.std.proofs.Common.{◌≡◌, ℕ, ◌+◌, ◌-◌, ◌<◌, ◌≤◌, List, [], ◌∷◌, ◌++◌, length, length-append, length-drop, length-take-le, take, take-add, take_all, drop, arith, subst, sym, ap, ◌∙◌, append_assoc, append-nil, IfSome, IfNone}
use Rattle.std.proofs.lemmas.List.{take-append-drop}
use Rattle.dgt_frame.specs.Decoder.{Decoded, TakesAll, TakesUpTo}
use Rattle.dgt_frame.specs.Streams.{Timed}
use Rattle.board_cable.specs.declared.line.Event.{Event}
use Rattle.board_cable.specs.Asking.{StandsFor}
use Rattle.board_cable.specs.Frames.{told_of, with_happening, with_shown}
use Rattle.board_cable.proofs.Shown.{shown_more, take_past}
use Rattle.board_cable.proofs.frames.tell_all.Goals as goal

pub events-init : goal.events-init
events-init c = record {
  inside = omega arith;
  fed = λ before old past last decoded stands. (
    [],
    subst (λ bytes. Decoded c.args.decoder.now bytes (old ++ [])) (sym (append-nil before))
        (subst (λ events. Decoded c.args.decoder.now before events) (sym (append-nil old)) decoded),
    stands,
  );
}

pub events-preserved : goal.events-preserved
events-preserved c =
    let bytes = c.args.bytes.now in
    let at = c.events.taken in
    let n = c.in-Some.more in
    let event = c.push_into.new.event in
    let more = drop at bytes in
    let all : take (length bytes - at) more ≡ more = take_all (length bytes - at) more (omega (arith, length-drop at bytes)) in
    let some : TakesUpTo c.events.decoder (take (length bytes - at) more) n event c.push_into.new.self =
    subst (λ found. IfSome found (λ size. TakesUpTo c.events.decoder (take (length bytes - at) more) size event c.push_into.new.self)) c.in-Some.is c.push_into.ensures.some in
    let takes : TakesUpTo c.events.decoder more n event c.push_into.new.self = rw all at some in
    let counts : (0 < n) × (n ≤ length (take (length bytes - at) more)) =
    subst (λ found. IfSome found (λ size. (0 < size) × (size ≤ length (take (length bytes - at) more)))) c.in-Some.is c.push_into.ensures.taken in
    let inside : n ≤ length more = rw all at counts.1 in
    let within : at ≤ length bytes = c.events.invariant.inside in
    record {
      inside = omega (arith, inside, length-drop at bytes);
      fed = λ before old past last decoded stands.
          let fed = c.events.invariant.fed before old past last decoded stands in
          let front = before ++ take at bytes in
          let offset = length front + (n - 1) in
          let one : Timed = record { offset = offset; event = event } in
          let later : List Timed = fed.0 ++ one ∷ [] in
          let grown : front ++ take n more ≡ before ++ take (at + n) bytes =
          append_assoc before (take at bytes) (take n more) ∙ ap (λ xs. before ++ xs) (sym (take-add at n bytes)) in
          let size : offset + 1 ≡ length before + (at + n) =
          omega (arith, counts.0, length-append before (take at bytes), length-take-le at bytes within) in
          let come : take (offset + 1) (before ++ bytes) ≡ before ++ take (at + n) bytes =
          ap (λ k. take k (before ++ bytes)) size ∙ take_past before bytes (at + n) in
          let D : List ℕ → Type 0 = λ bs. Decoded c.push_into.new.self bs (old ++ later) in
          let E : List Timed → Type 0 = λ es. Decoded c.push_into.new.self (front ++ take n more) es in
          let told = with_shown c.args.at (before ++ bytes) fed.0 past in
          let S : List Event → Type 0 = λ events. StandsFor c.tell.new.asking events in (
            later,
            subst D grown (subst E (append_assoc old fed.0 (one ∷ [])) (takes front (old ++ fed.0) fed.1)),
            subst S (sym (shown_more c.args.at (before ++ bytes) fed.0 one past))
                (subst (λ bs. S (with_happening c.args.at (told_of event bs) told)) (sym come) (c.tell.ensures before told last fed.2)),
          );
    }

pub returns : goal.returns
returns c = λ before old past last decoded stands.
    let bytes = c.args.bytes.now in
    let at = c.events.taken in
    let more = drop at bytes in
    let all : take (length bytes - at) more ≡ more = take_all (length bytes - at) more (omega (arith, length-drop at bytes)) in
    let none : TakesAll c.events.decoder (take (length bytes - at) more) c.push_into.new.self =
    subst (λ found. IfNone found (TakesAll c.events.decoder (take (length bytes - at) more) c.push_into.new.self)) c.in_default.is c.push_into.ensures.none in
    let takes : TakesAll c.events.decoder more c.push_into.new.self = rw all at none in
    let fed = c.events.invariant.fed before old past last decoded stands in
    let front = before ++ take at bytes in
    let D : List ℕ → Type 0 = λ bs. Decoded c.push_into.new.self bs (old ++ fed.0) in
    let whole : front ++ more ≡ before ++ bytes = append_assoc before (take at bytes) more ∙ ap (λ xs. before ++ xs) (take-append-drop at bytes) in
    (fed.0, subst D whole (takes front (old ++ fed.0) fed.1), fed.2)
