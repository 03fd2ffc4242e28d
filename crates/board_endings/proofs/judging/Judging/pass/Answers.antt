use Rattle.std.proofs.Common.{List, Option, sym, ap, subst, ◌∙◌}
use Rattle.std.specs.Prelude.{is_some}
use Rattle.std.proofs.lemmas.Result.{on_ok_weaker}
use Rattle.game_over.specs.declared.happened.Event.{Event}
use Rattle.game_over.specs.declared.said.Over.{Over}
use Rattle.board_endings.specs.Keeping.{HasJudged}
use Rattle.board_endings.proofs.TakeLemmas.{timed_more, timed_none}
use Rattle.board_endings.proofs.judging.Judging.pass.Goals as goal

pub returns-in-None : goal.returns-in-None
returns-in-None c = λ past h.
    let none = sym (c.over_at.ensures.comes past c.args.bytes h.ending) ∙ ap (λ (o : Option Over). is_some o) c.in-None.is in
    let J : List Event → Type 0 = λ events. HasJudged c.args.self.now events in
    subst J (sym (timed_none c.args.at c.args.bytes past none)) h

pub returns-in-Some : goal.returns-in-Some
returns-in-Some c = λ past h.
    let some = sym (c.over_at.ensures.comes past c.args.bytes h.ending) ∙ ap (λ (o : Option Over). is_some o) c.in-Some.is in
    let J : List Event → Type 0 = λ events. HasJudged c.take.new.self events in
    on_ok_weaker c.take.result (λ judged. subst J (sym (timed_more c.args.at c.args.bytes past some)) judged) (c.take.ensures past h)
