use Rattle.std.proofs.Common.{◌≡◌, ℕ, ◌+◌, ◌-◌, ◌<◌, ◌≤◌, List, [], ◌∷◌, ◌++◌, length, length-drop, map, take, take-add, take_all, drop, arith, subst, sym, ap, ◌∙◌, IfSome, IfNone, append_assoc, append-nil}
use Rattle.std.proofs.lemmas.List.{map-append, take-append-drop}
use Rattle.dgt_frame.specs.declared.events.Event.{Event}
use Rattle.dgt_frame.specs.Decoder.{Decoded, TakesAll, TakesUpTo}
use Rattle.dgt_frame.specs.Streams.{Timed}
use Rattle.board_game.specs.History.{Item, Sent, with_events}
use Rattle.board_game.specs.Inside.Telling.{HasTold}
use Rattle.board_game.proofs.ItemLemmas.{with_more}
use Rattle.board_game.proofs.telling.Teller.put_in.Goals as goal

pub events-init : goal.events-init
events-init c = record {
  inside = omega arith;
  begun = c.requires.begun;
  fed = (
    [],
    c.new-decoder.ensures,
    λ setting items text h.
        let T : List ℕ → Type 0 = λ t. HasTold c.args.self.now setting items t in
        ([], sym (append-nil (c.args.lines.now.items ++ c.args.gathered.now.items)), subst T (sym (append-nil text)) h),
  );
}

pub events-preserved : goal.events-preserved
events-preserved c =
    let frames = c.args.frames.now in
    let at = c.events.taken in
    let n = c.in-Some.more in
    let event = c.push_into.new.event in
    let more = drop at frames in
    let all : take (length frames - at) more ≡ more = take_all (length frames - at) more (omega (arith, length-drop at frames)) in
    let some : TakesUpTo c.events.decoder (take (length frames - at) more) n event c.push_into.new.self =
    subst (λ found. IfSome found (λ size. TakesUpTo c.events.decoder (take (length frames - at) more) size event c.push_into.new.self)) c.in-Some.is c.push_into.ensures.some in
    let takes : TakesUpTo c.events.decoder more n event c.push_into.new.self = rw all at some in
    let counts : (0 < n) × (n ≤ length (take (length frames - at) more)) =
    subst (λ found. IfSome found (λ size. (0 < size) × (size ≤ length (take (length frames - at) more)))) c.in-Some.is c.push_into.ensures.taken in
    let inside : n ≤ length more = rw all at counts.1 in
    let fed = c.events.invariant.fed in
    let begun = c.events.invariant.begun in
    let time = c.args.chunk in
    let offset = c.args.offset in
    let x : Timed = record { offset = length (take at frames) + (n - 1); event = event } in
    let later : List Timed = fed.0 ++ x ∷ [] in
    let D : List ℕ → Type 0 = λ bs. Decoded c.push_into.new.self bs later in
    let first = c.in_ok-take.ensures begun.0 begun.1 begun.2 begun.3 in
    record {
      inside = omega (arith, inside, length-drop at frames);
      begun = (begun.0, Sent time (record { offset = offset; event = event }) ∷ begun.1, begun.2 ++ first.0, first.2);
      fed = (
        later,
        subst D (sym (take-add at n frames)) (takes (take at frames) fed.0 fed.1),
        λ setting items text h.
            let old = fed.2 setting items text h in
            let before = with_events time offset (map (λ (t : Timed). t.event) fed.0) items in
            let m = c.in_ok-take.ensures setting before (text ++ old.0) old.2 in
            let T : List Item → List ℕ → Type 0 = λ is t. HasTold c.take.new.self setting is t in
            let order : with_events time offset (map (λ (t : Timed). t.event) later) items ≡ Sent time (record { offset = offset; event = event }) ∷ before =
            ap (λ (es : List Event). with_events time offset es items) (map-append (λ (t : Timed). t.event) fed.0 (x ∷ []))
            ∙ with_more time offset (map (λ (t : Timed). t.event) fed.0) event items in (
              old.0 ++ m.0,
              m.1 ∙ ap (λ (t : List ℕ). t ++ m.0) old.1 ∙ append_assoc (c.args.lines.now.items ++ c.args.gathered.now.items) old.0 m.0,
              subst (T (with_events time offset (map (λ (t : Timed). t.event) later) items)) (append_assoc text old.0 m.0)
                  (subst (λ is. T is ((text ++ old.0) ++ m.0)) (sym order) m.2),
            ),
      );
    }

pub returns : goal.returns
returns c = λ setting items text events h whole.
    let frames = c.args.frames.now in
    let at = c.events.taken in
    let more = drop at frames in
    let all : take (length frames - at) more ≡ more = take_all (length frames - at) more (omega (arith, length-drop at frames)) in
    let none : TakesAll c.events.decoder (take (length frames - at) more) c.push_into.new.self =
    subst (λ found. IfNone found (TakesAll c.events.decoder (take (length frames - at) more) c.push_into.new.self)) c.in_default.is c.push_into.ensures.none in
    let takes : TakesAll c.events.decoder more c.push_into.new.self = rw all at none in
    let fed = c.events.invariant.fed in
    let D : List ℕ → Type 0 = λ bs. Decoded c.push_into.new.self bs fed.0 in
    let decoded = subst D (take-append-drop at frames) (takes (take at frames) fed.0 fed.1) in
    let shown = c.pending.ensures frames fed.0 decoded in
    let same = (c.shows_once.ensures frames fed.0 whole.0 _ 0 shown whole.1).0 in
    let old = fed.2 setting items text h in
    let T : List Event → Type 0 = λ es. HasTold c.events.self setting (with_events c.args.chunk c.args.offset es items) (text ++ old.0) in
    (old.0, old.1, subst T (ap (λ (ts : List Timed). map (λ (t : Timed). t.event) ts) same ∙ whole.2) old.2)
