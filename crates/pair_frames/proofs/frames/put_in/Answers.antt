use Rattle.std.proofs.Common.{ℕ, ◌++◌, List, [], ◌∷◌, length, sym, subst, ap, ◌∙◌}
use Rattle.dgt_frame.specs.declared.events.Event.{Event}
use Rattle.chess_rules.specs.Picture.{picture}
use Rattle.settle_core.specs.Entries.{entry_of}
use Rattle.pair_frames.specs.PutIn.{ShowsWhole, dump_of, time_put_in}
use Rattle.pair_frames.proofs.Joining.{nothing_shown}
use Rattle.pair_frames.proofs.Reading.{put_in_is_read, regrouped}
use Rattle.pair_frames.proofs.frames.put_in.Goals as goal

pub returns-clause-shows : goal.returns-clause-shows
returns-clause-shows c =
    let first = c.args.first in
    let rotated = c.args.rotated in
    let seen = c.args.picture.now in
    let now = c.args.reading.now in
    let found = c.args.found.now in
    let out = c.add_dump-3.new.out.items in
    let W : List ℕ → Type 0 = λ xs. ShowsWhole xs [] in
    let s0 = subst W (sym c.clear.ensures) nothing_shown in
    let s1 = c.add_time.ensures.shows [] s0 in
    let s2 = c.add_dump.ensures.shows _ s1 in
    let s3 = c.add_dump-2.ensures.shows _ s2 in
    let s4 = c.add_time-2.ensures.shows _ s3 in
    let s5 = c.add_dump-3.ensures.shows _ s4 in
    let t = time_put_in first now found.reading in
    let u = time_put_in first found.reading now in
    let e = regrouped t u (dump_of rotated c.picture.result) (dump_of rotated c.picture-2.result) (dump_of rotated seen) in
    let S : List Event → Type 0 = λ es. ShowsWhole out es in
    let all = subst S e s5 in
    let D : List ℕ → Type 0 = λ xs. ShowsWhole out (t ++ dump_of rotated xs ∷ dump_of rotated c.picture-2.result ∷ (u ++ dump_of rotated seen ∷ [])) in
    let E : List ℕ → Type 0 = λ xs. ShowsWhole out (t ++ dump_of rotated (picture found.middle) ∷ dump_of rotated xs ∷ (u ++ dump_of rotated seen ∷ [])) in
    subst E c.picture-2.ensures.shown (subst D c.picture.ensures.shown all)

pub returns-clause-read : goal.returns-clause-read
returns-clause-read c = λ past at.
    let found = c.args.found.now in
    let read = c.add_time.ensures.read in
    let middle = sym (ap length c.picture.ensures.shown) ∙ c.add_dump.ensures.squares in
    let after = sym (ap length c.picture-2.ensures.shown) ∙ c.add_dump-2.ensures.squares in
    put_in_is_read c.args.first c.args.rotated past (entry_of c.args.picture.now c.args.reading.now) found
    c.told-picture middle after read.0 read.1 at
