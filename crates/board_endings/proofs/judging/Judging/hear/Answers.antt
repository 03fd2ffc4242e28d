use Rattle.std.proofs.Common.{List, sym, subst, ◌∙◌}
use Rattle.std.proofs.lemmas.Result.{on_ok_weaker}
use Rattle.game_over.specs.declared.happened.Event.{Event}
use Rattle.board_endings.specs.Keeping.{HasJudged}
use Rattle.board_endings.proofs.TakeLemmas.{heard_more, heard_none}
use Rattle.board_endings.proofs.judging.Judging.hear.Goals as goal

pub returns-then-not-ends_heard : goal.returns-then-not-ends_heard
returns-then-not-ends_heard c = λ past h.
    let none = sym (c.ends_heard.ensures past c.args.bytes h.ending) ∙ c.if-not-ends_heard.true in
    let J : List Event → Type 0 = λ events. HasJudged c.args.self.now events in
    subst J (sym (heard_none c.args.at c.args.bytes past none)) h

pub returns : goal.returns
returns c = λ past h.
    let some = sym (c.ends_heard.ensures past c.args.bytes h.ending) ∙ c.if-not-ends_heard.false in
    let J : List Event → Type 0 = λ events. HasJudged c.take.new.self events in
    on_ok_weaker c.take.result (λ judged. subst J (sym (heard_more c.args.at c.args.bytes past some)) judged) (c.take.ensures past h)
