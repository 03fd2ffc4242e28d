use Rattle.std.proofs.Common.{◌≡◌, ℕ, ◌++◌, List, [], ◌∷◌, Option, subst, ap, ◌∙◌, append_assoc}
use Rattle.chess_clock.specs.declared.Reading.{Reading}
use Rattle.chess_rules.specs.declared.parts.Parts.{Parts}
use Rattle.chess_rules.specs.After.{after}
use Rattle.chess_rules.specs.Picture.{picture}
use Rattle.dgt_frame.specs.declared.events.Event.{Event}
use Rattle.pair_frames.specs.PutIn.{ShowsWhole, dump_of}
use Rattle.board_captures.specs.Shown.{reading_with, time_shown}
use Rattle.board_captures.proofs.showing.add_ply.Goals as goal

pub returns-clause-shows : goal.returns-clause-shows
returns-clause-shows c = λ events whole.
    let first = c.args.first in
    let rotated = c.args.rotated in
    let p : Parts = c.args.position.now in
    let ply = c.args.ply.now in
    let out = c.add_dump.new.out.items in
    let s1 = c.in_ok-add_time.ensures.shows events whole in
    let s2 = c.in_ok-add_dump.ensures.shows _ s1 in
    let W : List Event → Type 0 = λ es. ShowsWhole out es in
    let s3 = subst W (append_assoc events (time_shown first c.reading_with.result ∷ []) (dump_of rotated c.picture.result ∷ [])) s2 in
    let R : Option Reading → Type 0 = λ r. ShowsWhole out (events ++ time_shown first r ∷ dump_of rotated c.picture.result ∷ []) in
    let r : c.reading_with.result ≡ reading_with p.side c.args.before ply.clock =
    c.reading_with.ensures ∙ ap (λ (q : Parts). reading_with q.side c.args.before ply.clock) c.parts.ensures.same in
    let D : List ℕ → Type 0 = λ seen. ShowsWhole out (events ++ time_shown first (reading_with p.side c.args.before ply.clock) ∷ dump_of rotated seen ∷ []) in
    let d : c.picture.result ≡ picture (after p ply.mv) = c.picture.ensures.shown ∙ ap picture c.play-next.ensures.after in
    subst D d (subst R r s3)
