use Rattle.std.proofs.Common.{◌∷◌, ◌++◌, List, Option, sym, subst}
use Rattle.std.proofs.lemmas.Result.{on_ok_weaker}
use Rattle.dgt_frame.specs.declared.events.Event.{Event}
use Rattle.dgt_frame.specs.Streams.{Timed}
use Rattle.settle_core.specs.declared.plies.Outcome.{Outcome}
use Rattle.board_events.specs.Session.{HasTakenEvents}
use Rattle.board_events.specs.States.{State}
use Rattle.board_alarms.specs.Hearing.{HasMoved, HasResult, IsShown as IsWhole, moves, shown_at}
use Rattle.board_game.specs.Alarming.{alarm_items}
use Rattle.board_game.specs.History.{events_of}
use Rattle.board_game.specs.Ending.{end_items}
use Rattle.board_game.specs.Inside.Shown.{HasSeen, IsShown}
use Rattle.board_game.proofs.AlarmLemmas.{same_events}
use Rattle.board_game.proofs.EndLemmas.{same_events as same_end_events}
use Rattle.board_game.proofs.TakeLemmas.{result_of, told_event}
use Rattle.board_game.proofs.telling.Teller.take.Goals as goal

pub returns : goal.returns
returns c = λ setting items text h.
    let event = c.args.event.now in
    let x : Timed = record { offset = c.args.offset; event = event } in
    let past = events_of items in
    let stands = h.watched.followed.stands in
    let added = c.in_ok-shown.ensures.added setting past h.watched in
    let valid = h.watched.followed.valid in
    let seen = c.in_ok-shown.ensures.seen setting past h.watched h.seen in
    let shown = c.in_ok-shown.ensures.shown setting past h.watched h.seen in
    let O : Option Outcome → Type 0 = λ o. HasResult setting.start c.args.self.now.watcher.follower.session.settler.score o in
    let before = subst O (sym c.result-before.ensures) (result_of c.args.self.now.watcher setting past h.watched) in
    let N : Option Outcome → Type 0 = λ o. HasResult setting.start c.watch.new.watcher.follower.session.settler.score o in
    let after = subst N (sym c.result-outcome.ensures) (result_of c.watch.new.watcher setting (event ∷ past) added.0) in
    let same = sym (same_events items) in
    let also = sym (same_end_events items) in
    let taken : HasTakenEvents c.session-session.result.now setting (event ∷ past) = rw c.session-session.ensures added.0.followed.stands in
    let I : List Event → Type 0 = λ es. IsWhole setting es event (shown_at c.sight.result c.last-picture.result.now) in
    let T : List Event → Type 0 = λ es. HasTakenEvents c.session-session.result.now setting (event ∷ es) in
    let S : List Event → Type 0 = λ es. HasSeen c.watch.new.pictures setting (event ∷ es) in
    let E : List Event → Type 0 = λ es. IsShown setting es event c.in_ok-shown.shown in
    let R : State → Type 0 = λ s. HasResult setting.start s.settler.score c.result-outcome.result in
    let result = subst R (sym c.session-session.ensures) after in
    let M : List Event → Type 0 = λ es. HasMoved setting es event (moves c.sight.result) in
    let alarms = c.in_ok-take.ensures setting (alarm_items items) h.alarms (subst I same (c.sight.ensures.whole setting past event c.last-picture.result.now (c.last-picture.ensures setting (event ∷ past) seen) shown)) (subst M same (c.sight.ensures.moved setting past event valid shown)) (subst T same taken) result in
    on_ok_weaker c.tell_end.result (λ endings. told_event c.args.self.now _ setting items text c.args.chunk x (c.args.lines.now.items ++ c.args.gathered.now.items) c.make_room.new.lines.items c.make_room.new.gathered.items
    c.watch.new.gathered.items h added seen
    (c.hear.ensures setting past event _ h.heard added.0 stands.settler.folds before shown h.standing)
    alarms endings c.in_ok-make_room.ensures.same)
    (c.tell_end.ensures setting (end_items items) event valid h.endings (subst S also seen) (subst E also shown) (subst T also taken) result)
