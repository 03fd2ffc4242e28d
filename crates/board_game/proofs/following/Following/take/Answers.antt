use Rattle.std.proofs.Common.{◌≡◌, ℕ, Bool, true, false, List, [], ◌∷◌, ◌++◌, sym, subst, ap, ◌∙◌}
use Rattle.pair_frames.specs.PutIn.{ShowsWhole}
use Rattle.board_alarms.specs.declared.chunk.Chunk.{Chunk}
use Rattle.board_game.specs.History.{Pair, Sent, events_of, put_in_with, with_events}
use Rattle.board_game.specs.Inside.Telling.{HasTold}
use Rattle.board_game.proofs.HearLemmas.{PutsIn, some_pair, tells_none, tells_put}
use Rattle.board_game.proofs.following.Following.take.Goals as goal

clash : (b : Bool) → b ≡ true → b ≡ false → ⊥
clash true e f = cc
clash false e f = cc

pub returns-then-is_nothing : goal.returns-then-is_nothing
returns-then-is_nothing c = λ setting recovers past items text h.
    let first = c.in_ok-take.ensures setting items text h.told in
    let kept = c.in_ok-keep.ensures setting recovers past (events_of items) h.keeps in
    let none : c.keep.new.frames.items ≡ [] = sym c.as_slice-put.ensures.value ∙ c.is_nothing.ensures.0 c.if-is_nothing.true in
    tells_none c.shows_once.ensures _ setting recovers past items text first.0 c.args.chunk c.args.offset c.args.event.now c.keep.new.frames.items kept.0
    (c.args.lines.now.items ++ c.args.gathered.now.items) (c.keep.new.lines.items ++ c.keep.new.gathered.items) kept.2 none
    (kept.1 ∙ ap (λ (t : List ℕ). t ++ kept.0) first.1) first.2

pub put_in-requires : goal.put_in-requires
put_in-requires c =
    let b = c.requires.begun in
    let first = c.in_ok-take.ensures b.0 b.3 b.4 b.5.told in
    let kept = c.in_ok-keep.ensures b.0 b.1 b.2 (events_of b.3) b.5.keeps in
    let some : c.keep.new.frames.items ≡ [] → ⊥ = λ e. clash _ (c.is_nothing.ensures.1 (c.as_slice-put.ensures.value ∙ e)) c.if-is_nothing.false in
    let pair = some_pair b.0 (c.args.event.now ∷ b.2) c.args.offset (kept.2).found c.keep.new.frames.items kept.0 (kept.2).adds some in
    let items = Sent c.args.chunk (record { offset = c.args.offset; event = c.args.event.now }) ∷ b.3 in
    let noted = c.in_ok-note_pair.ensures b.0 items (b.4 ++ first.0) kept.0 c.args.offset pair.0 first.2 pair.1 in
    record { begun = (b.0, Pair c.args.chunk c.args.offset pair.0 ∷ items, (b.4 ++ first.0) ++ kept.0, noted) }

pub returns : goal.returns
returns c = λ setting recovers past items text h.
    let first = c.in_ok-take.ensures setting items text h.told in
    let kept = c.in_ok-keep.ensures setting recovers past (events_of items) h.keeps in
    let some : c.keep.new.frames.items ≡ [] → ⊥ = λ e. clash _ (c.is_nothing.ensures.1 (c.as_slice-put.ensures.value ∙ e)) c.if-is_nothing.false in
    let puts : PutsIn c.note_pair.new.self c.put_in.new.self (put_in_with c.args.chunk) c.args.offset c.keep.new.frames.items (c.keep.new.lines.items ++ c.keep.new.gathered.items)
    (c.put_in.new.lines.items ++ c.put_in.new.gathered.items) =
    λ s is t es told whole.
    let m = c.in_ok-put_in.ensures s is t es told (subst (λ (bs : List ℕ). ShowsWhole bs es) (sym c.as_slice-put.ensures.value) whole) in
    let H : Chunk → Type 0 = λ k. HasTold c.put_in.new.self s (with_events k c.args.offset es is) (t ++ m.0) in
    (m.0, m.1, subst H c.put_in_with.ensures m.2) in
    tells_put _ c.take.new.self c.note_pair.new.self setting recovers past items text first.0 c.args.chunk c.args.offset c.args.event.now c.keep.new.frames.items kept.0
    (c.args.lines.now.items ++ c.args.gathered.now.items) (c.take.new.lines.items ++ c.take.new.gathered.items) (c.keep.new.lines.items ++ c.keep.new.gathered.items)
    (c.put_in.new.lines.items ++ c.put_in.new.gathered.items) kept.2 some first.1 first.2 kept.1 c.in_ok-note_pair.ensures puts
