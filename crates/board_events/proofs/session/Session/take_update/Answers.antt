use Rattle.std.proofs.Common.{rules, ◌<◌, sym}
use Rattle.std.proofs.lemmas.Result.{err_from_is_err_and}
use Rattle.std.proofs.lemmas.Option.{same_Some}
use Rattle.board_events.proofs.TakeLemmas.{update_taken, update_refused}
use Rattle.board_events.proofs.session.Session.take_update.Goals as goal

pub returns : goal.returns
returns c = let field : c.args.field < 64 = search rules in
    rw (← c.self.view_is) (update_taken _ c.see_field.new.self c.args.field c.args.code c.square_of-square.result c.in_ok-seen.seen
    field c.if-not-self.false c.square_of-square.ensures
    (λ start before earlier. record {
      stands = λ h. c.in_ok-seen.ensures.stands start before earlier h;
      answers = λ h. c.in_ok-seen.ensures.answer start before earlier h;
      same = λ h last. (c.in_ok-seen.ensures.same before.picture h.last (sym (same_Some _ _ last))).0;
    }))

pub returns-in_err-seen : goal.returns-in_err-seen
returns-in_err-seen c = let p = err_from_is_err_and c.from_residual.result c.from_residual.ensures.1 in
    let field : c.args.field < 64 = search rules in
    rw (p.1, ← c.self.view_is) (update_refused _ c.see_field.new.self c.args.field c.args.code c.square_of-square.result p.0
    field c.if-not-self.false c.square_of-square.ensures
    c.in_err-seen.ensures.err
    (λ start before earlier. record {
      fresh = λ h last. let bad = (c.in_err-seen.ensures.same before.picture h.last (sym (same_Some _ _ last))).1 in cc;
      moves = λ h. c.in_err-seen.ensures.memory start before earlier h;
    }))
