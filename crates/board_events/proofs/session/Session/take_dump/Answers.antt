use Rattle.std.proofs.Common.{◌∙◌}
use Rattle.std.proofs.lemmas.Result.{err_from_is_err_and}
use Rattle.board_events.proofs.TakeLemmas.{dump_taken, dump_refused}
use Rattle.board_events.proofs.session.Session.take_dump.Goals as goal

pub returns : goal.returns
returns c = rw (← c.self.view_is) (dump_taken _ c.see.new.self c.args.codes _ c.in_ok-seen.seen c.picture_of-picture.ensures.picture
    (λ start past. record {
      stands = λ h. c.in_ok-seen.ensures.stands start past h;
      answers = λ h. c.in_ok-seen.ensures.answer start past h;
      same = λ h last. (c.in_ok-seen.ensures.same (h.last ∙ last)).0;
    }))

pub returns-in_err-seen : goal.returns-in_err-seen
returns-in_err-seen c = let p = err_from_is_err_and c.from_residual.result c.from_residual.ensures.1 in
    rw (p.1, ← c.self.view_is) (dump_refused _ c.see.new.self c.args.codes _ p.0 c.picture_of-picture.ensures.picture
    c.in_err-seen.ensures.err
    (λ start past. record {
      fresh = λ h last. let bad = (c.in_err-seen.ensures.same (h.last ∙ last)).1 in cc;
      moves = λ h. c.in_err-seen.ensures.memory start past h;
    }))
