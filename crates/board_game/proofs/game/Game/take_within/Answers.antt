use Rattle.std.proofs.Common.{◌≡◌, ℕ, ◌+◌, ◌-◌, ◌<◌, ◌≤◌, List, [], ◌∷◌, ◌++◌, length, length-drop, take, take-add, take_all, drop, arith, subst, sym, ap, ◌∙◌, refl, IfSome, IfNone, false}
use Rattle.std.proofs.lemmas.List.{length-take, take-append-drop}
use Rattle.dgt_frame.specs.declared.decode.Decoder.{Decoder}
use Rattle.dgt_frame.specs.declared.events.Event.{Event}
use Rattle.dgt_frame.specs.Decoder.{Decoded, TakesAll, TakesUpTo}
use Rattle.dgt_frame.specs.Streams.{HasFrame, Timed}
use Rattle.board_game.specs.Inside.Telling.{IsWithin}
use Rattle.board_game.proofs.WithinLemmas.{within_end, within_more, within_rest, within_start}
use Rattle.board_game.proofs.game.Game.take_within.Goals as goal

pub events-init : goal.events-init
events-init c = record {
  inside = omega arith;
  count = refl;
  fed = λ setting recovers past text s. (text, within_start c.args.self.now setting recovers past text c.chunk_of-chunk.result c.args.lines.now.items c.clear.new.self.items c.clear.ensures s);
}

-- the decoder's clause about an offset, so said
pub up_to : (old new : Decoder) (piece : List ℕ) (n offset : ℕ) (event : Event) → 0 < n → n ≤ length piece → TakesUpTo old piece n event new
    → (all : List ℕ) (events : List Timed) → Decoded old all events → length all + length (take n piece) ≡ offset + 1
    → Decoded new (all ++ take n piece) (events ++ record { offset = offset; event = event } ∷ [])
up_to old new piece n offset event some inside takes all events decoded ends =
    let size : length (take n piece) ≡ n = omega (arith, length-take n piece, inside) in
    let same : length all + (n - 1) ≡ offset = omega (arith, size, ends, some) in
    let D : ℕ → Type 0 = λ o. Decoded new (all ++ take n piece) (events ++ record { offset = o; event = event } ∷ []) in
    subst D same (takes all events decoded)

pub take-requires-clause-frame : goal.take-requires-clause-frame
take-requires-clause-frame c =
    let b = c.requires.begun in
    let w = c.events.invariant.fed b.0 b.1 b.2 b.3 b.4 in
    subst (λ found. IfSome found (λ size. HasFrame c.push_into.new.event)) c.in-Some.is (c.push_into.ensures.frame _ _ w.1.decoded)

pub take-requires-clause-begun : goal.take-requires-clause-begun
take-requires-clause-begun c =
    let b = c.requires.begun in
    let w = c.events.invariant.fed b.0 b.1 b.2 b.3 b.4 in
    (b.0, b.1, _, w.1.items, w.0, w.1.follows)

pub events-preserved : goal.events-preserved
events-preserved c =
    let bytes = c.args.bytes.now in
    let at = c.events.taken in
    let n = c.in-Some.more in
    let event = c.push_into.new.event in
    let more = drop at bytes in
    let old = c.events.self.decoder in
    let new = c.push_into.new.self in
    let all : take (length bytes - at) more ≡ more = take_all (length bytes - at) more (omega (arith, length-drop at bytes)) in
    let some : TakesUpTo old (take (length bytes - at) more) n event new =
    subst (λ found. IfSome found (λ size. TakesUpTo old (take (length bytes - at) more) size event new)) c.in-Some.is c.push_into.ensures.some in
    let takes : TakesUpTo old more n event new = rw all at some in
    let counts : (0 < n) × (n ≤ length (take (length bytes - at) more)) =
    subst (λ found. IfSome found (λ size. (0 < size) × (size ≤ length (take (length bytes - at) more)))) c.in-Some.is c.push_into.ensures.taken in
    let inside : n ≤ length more = rw all at counts.1 in
    let here : length (take at bytes) ≡ at = omega (arith, length-take at bytes, c.events.invariant.inside) in
    let size : length (take n more) ≡ n = omega (arith, length-take n more, inside) in
    let offset = c.events.self.count + ((at + n) - 1) in
    record {
      inside = omega (arith, inside, length-drop at bytes);
      count = c.events.invariant.count;
      fed = λ setting recovers past text s.
          let w = c.events.invariant.fed setting recovers past text s in
          let W : List ℕ → Type 0 = λ bs. (told : List ℕ) × IsWithin new c.take.new.self setting recovers past text told c.chunk_of-chunk.result bs c.args.lines.now.items (c.take.new.lines.items ++ c.take.new.gathered.items) in
          subst W (sym (take-add at n bytes))
          (within_more old new c.events.self.following c.take.new.self setting recovers past text w.0 c.chunk_of-chunk.result offset (take at bytes) (take n more) c.args.lines.now.items (c.events.lines.items ++ c.events.self.gathered.items)
          (c.take.new.lines.items ++ c.take.new.gathered.items) event (up_to old new more n offset event counts.0 inside takes)
          (omega (arith, here, size, counts.0, s.counted, c.events.invariant.count))
          (λ raw items h. c.in_ok-take.ensures setting recovers raw items w.0 h) w.1);
    }

pub returns : goal.returns
returns c = λ setting recovers past text s.
    let bytes = c.args.bytes.now in
    let at = c.events.taken in
    let more = drop at bytes in
    let old = c.events.self.decoder in
    let new = c.push_into.new.self in
    let all : take (length bytes - at) more ≡ more = take_all (length bytes - at) more (omega (arith, length-drop at bytes)) in
    let none : TakesAll old (take (length bytes - at) more) new =
    subst (λ found. IfNone found (TakesAll old (take (length bytes - at) more) new)) c.in_default.is c.push_into.ensures.none in
    let takes : TakesAll old more new = rw all at none in
    let w = c.events.invariant.fed setting recovers past text s in
    let rest = within_rest old new c.events.self.following setting recovers past text w.0 c.chunk_of-chunk.result (take at bytes) more c.args.lines.now.items (c.events.lines.items ++ c.events.self.gathered.items) takes w.1 in
    let W : List ℕ → Type 0 = λ bs. IsWithin new c.events.self.following setting recovers past text w.0 c.chunk_of-chunk.result bs c.args.lines.now.items (c.events.lines.items ++ c.events.self.gathered.items) in
    within_end _ setting recovers past text w.0 c.args.when c.chunk_of-chunk.result _ bytes c.args.lines.now.items (c.events.lines.items ++ c.events.self.gathered.items) c.append.new.out.items
    (c.chunk_of-chunk.ensures ∙ ap (λ (n : ℕ). record { when = c.args.when; end = n + length bytes; is_put_in = false }) s.counted)
    (c.in_ok-append.ensures ∙ ap (λ (t : List ℕ). c.events.lines.items ++ t) c.as_slice.ensures.value) (subst W (take-append-drop at bytes) rest) c.pending.ensures
    (omega (arith, s.counted, c.events.invariant.count)) (omega (arith, s.counted, c.requires.room))
