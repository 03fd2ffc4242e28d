use Rattle.std.proofs.Common.{List, Option, Some, None, refl, sym, ap, subst, ◌∙◌}
use Rattle.std.specs.Prelude.{IfSome, is_some}
use Rattle.game_over.specs.declared.happened.Event.{Event}
use Rattle.game_over.specs.declared.said.Over.{Over}
use Rattle.game_over.specs.declared.said.Said.TheVariants.{IsOver}
use Rattle.game_over.specs.Over.{passes}
use Rattle.game_over.specs.Said.{IsSaid}
use Rattle.board_endings.specs.declared.news.End.{End}
use Rattle.board_endings.specs.Saying.{IsEnd}
use Rattle.board_endings.proofs.TakeLemmas.{timed_more, timed_none}
use Rattle.board_endings.proofs.judging.Judging.end.Goals as goal

pub returns-in-None : goal.returns-in-None
returns-in-None c = λ past bytes h.
    let none = sym (c.over_at.ensures.comes past bytes h.ending) ∙ ap (λ (o : Option Over). is_some o) c.in-None.is in
    let E : List Event → Type 0 = λ events. IsEnd events c.args.self.now.end in
    subst E (sym (timed_none c.args.now bytes past none)) h.end

pub returns-in-Some : goal.returns-in-Some
returns-in-Some c = λ past bytes h.
    let some = sym (c.over_at.ensures.comes past bytes h.ending) ∙ ap (λ (o : Option Over). is_some o) c.in-Some.is in
    let S : Option Over → Type 0 = λ o. IfSome o (λ (over : Over). IsSaid (IsOver over) (passes c.args.now bytes) past) in
    let said : IsSaid (IsOver c.in-Some.over) (passes c.args.now bytes) past = subst S c.in-Some.is (c.over_at.ensures.said past bytes h.ending) in
    let end : End = record { over = Some c.in-Some.over; goes_on = None; begins = c.args.self.now.end.begins } in
    let E : List Event → Type 0 = λ events. IsEnd events end in
    subst E (sym (timed_more c.args.now bytes past some)) (c.args.self.now.end, IsOver c.in-Some.over, h.end, said, refl)
