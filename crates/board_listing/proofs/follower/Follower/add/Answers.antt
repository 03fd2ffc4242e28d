use Rattle.std.proofs.Common.{◌∷◌, refl, inl, inr}
use Rattle.dgt_frame.specs.Streams.{Timed}
use Rattle.board_events.specs.Entries.{entry_at}
use Rattle.board_events.specs.Session.{entries_in}
use Rattle.board_listing.proofs.RangeLemmas.{in_range}
use Rattle.board_listing.proofs.FollowLemmas.{added_fault, added_news, added_nothing, added_same, is_same, may_tell_news, news, told_waits}
use Rattle.board_listing.proofs.follower.Follower.add.Goals as goal

pub returns-in-Err-clause-memory : goal.returns-in-Err-clause-memory
returns-in-Err-clause-memory c setting past followed = c.in-Err.ensures.memory setting past followed.stands

pub returns-then-taken-clause-ok : goal.returns-then-taken-clause-ok
returns-then-taken-clause-ok c setting past followed =
    let x : Timed = record { offset = c.args.offset; event = c.args.event.now } in
    added_fault c.args.self.now c.take_ref.new.self setting past x c.in-Ok.taken c.args.lines.now.items c.add_line.new.lines.items followed
    (c.in-Ok.ensures.stands setting past followed.stands) (c.in-Ok.ensures.tells setting past followed.stands) c.if-taken.true c.add_line.ensures.items

pub returns-in_default-clause-ok : goal.returns-in_default-clause-ok
returns-in_default-clause-ok c setting past followed =
    let x : Timed = record { offset = c.args.offset; event = c.args.event.now } in
    added_nothing c.args.self.now c.take_ref.new.self setting past x c.in-Ok.taken c.args.lines.now.items c.args.lines.now.items followed
    (c.in-Ok.ensures.stands setting past followed.stands) (c.in-Ok.ensures.tells setting past followed.stands) c.if-taken.false c.in_default.is refl

pub tell-requires-clause-may : goal.tell-requires-clause-may
tell-requires-clause-may c = rw c.in-Some.seen-is (λ other.
    let setting = c.requires.followed.0 in
    let past = c.requires.followed.1 in
    let followed = c.requires.followed.2 in
    may_tell_news c.take_ref.new.self.settler setting.start (entries_in setting past) (entry_at setting.first setting.rotated (c.args.event.now ∷ past)) c.in-Some.seen
    (news c.args.self.now c.take_ref.new.self setting past c.args.event.now c.in-Ok.taken c.in-Some.seen followed
    (c.in-Ok.ensures.stands setting past followed.stands) (c.in-Ok.ensures.tells setting past followed.stands) c.in-Some.is other))

pub returns-clause-ok : goal.returns-clause-ok
returns-clause-ok c setting past followed =
    let x : Timed = record { offset = c.args.offset; event = c.args.event.now } in
    let stands = c.in-Ok.ensures.stands setting past followed.stands in
    let tells = c.in-Ok.ensures.tells setting past followed.stands in
    let entry = entry_at setting.first setting.rotated (c.args.event.now ∷ past) in
    let told = rw c.in-Some.seen-is at c.tell.ensures in
    elim (is_same c.in-Some.seen) [
      | inl same ↦
          let kept = told.same same in
          let whole = added_same c.args.self.now c.take_ref.new.self setting past x c.in-Ok.taken c.in-Some.seen c.args.lines.now.items c.tell.new.lines.items followed
          stands tells c.if-taken.false c.in-Some.is same kept.1 in
          rw kept.0 whole
      | inr other ↦
          let fresh = news c.args.self.now c.take_ref.new.self setting past c.args.event.now c.in-Ok.taken c.in-Some.seen followed stands tells c.in-Some.is other in
          added_news c.args.self.now c.tell.new.self setting past x c.in-Ok.taken c.in-Some.seen c.args.lines.now.items c.tell.new.lines.items followed
          (rw told.session stands) tells c.if-taken.false c.in-Some.is (rw told.session fresh)
          (rw told.session (told.told other entry.picture fresh.last (told_waits c.args.self.now c.take_ref.new.self.settler setting past entry c.in-Some.seen followed fresh)))
    ]

pub take_ref-requires : goal.take_ref-requires
take_ref-requires c = in_range c.args.event.now c.requires.frame
