use Rattle.std.proofs.Common.{◌∷◌, ◌∙◌, sym, subst}
use Rattle.dgt_frame.specs.Streams.{Timed}
use Rattle.board_events.specs.declared.session.Taken.{Taken}
use Rattle.board_events.specs.Session.{TellsTaken}
use Rattle.board_listing.proofs.RangeLemmas.{in_range}
use Rattle.board_listing.proofs.DrawingLemmas.{reading_kept}
use Rattle.board_listing.proofs.WatchedLemmas.{may_tell_taken, watched}
use Rattle.board_listing.proofs.watcher.Watcher.add.Goals as goal

pub returns-in-Err-clause-memory : goal.returns-in-Err-clause-memory
returns-in-Err-clause-memory c setting past watched = c.in-Err.ensures.memory setting past watched.followed.stands

pub tell-requires-clause-may : goal.tell-requires-clause-may
tell-requires-clause-may c =
    let setting = c.requires.watched.0 in
    let past = c.requires.watched.1 in
    let followed = c.requires.watched.2.followed in
    may_tell_taken c.args.self.now.follower c.take_ref.new.self setting past c.args.event.now c.in-Ok.taken followed
    (c.in-Ok.ensures.stands setting past followed.stands) (c.in-Ok.ensures.tells setting past followed.stands)

pub add_new_reading-requires-clause-kept : goal.add_new_reading-requires-clause-kept
add_new_reading-requires-clause-kept c other =
    let setting = c.requires.watched.0 in
    let past = c.requires.watched.1 in
    let before = c.requires.watched.2.followed.stands in
    c.reading.ensures setting (c.args.event.now ∷ past) (rw c.tell.ensures.session (c.in-Ok.ensures.stands setting past before))
    ∙ reading_kept setting.first c.args.event.now past other ∙ sym (c.reading-old.ensures setting past before)

pub returns-clause-ok : goal.returns-clause-ok
returns-clause-ok c setting past h =
    let x : Timed = record { offset = c.args.offset; event = c.args.event.now } in
    let stands = c.in-Ok.ensures.stands setting past h.followed.stands in
    let told = c.tell.ensures in
    watched c.texts_are_plain.ensures c.args.self.now c.tell.new.self c.take_ref.new.self setting past x c.in-Ok.taken c.args.lines.now.items c.tell.new.lines.items c.add_new_reading.new.lines.items
    c.reading-old.result c.reading.result h c.requires.frame stands (c.in-Ok.ensures.tells setting past h.followed.stands)
    (record { fault = told.fault; none = told.none; same = told.same; told = told.told; session_is = told.session; rotated_is = told.rotated })
    (c.reading-old.ensures setting past h.followed.stands) (c.reading.ensures setting (c.args.event.now ∷ past) (rw told.session stands)) c.add_new_reading.ensures

pub returns-clause-tells : goal.returns-clause-tells
returns-clause-tells c setting past watched =
    let T : Taken → Type 0 = λ t. TellsTaken setting past c.args.event.now t in
    subst T (sym c.copy-told.ensures) (c.in-Ok.ensures.tells setting past watched.followed.stands)

pub take_ref-requires : goal.take_ref-requires
take_ref-requires c = in_range c.args.event.now c.requires.frame
