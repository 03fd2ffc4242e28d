use Rattle.std.proofs.Common.{◌≡◌, ◌&&◌, ℕ, nat_lt, not, Option, Some, None, refl, sym, ap, ◌∙◌}
use Rattle.board_cable.specs.Lasting.{has_lasted}
use Rattle.board_cable.specs.Whose.{awaited_at, dumps_since, handling_by, is_awaited, own_number, shown_number}
use Rattle.board_cable.proofs.whose.Whose.due.Goals as goal

awaited_alike : (now later : ℕ) (since : Option ℕ) (dumps : ℕ) → has_lasted 5000 later since ≡ has_lasted 5000 now since
    → is_awaited later since dumps ≡ is_awaited now since dumps
awaited_alike now later None dumps h = refl
awaited_alike now later (Some since) dumps h = ap (λ b. not b && nat_lt dumps 3) h

pub returns-clause-waits : goal.returns-clause-waits
returns-clause-waits c past stands later fits from before =
    let now : ℕ = c.args.now in
    let same = sym (c.after.ensures later fits) ∙ c.to_come.ensures.same later from before ∙ c.after.ensures now c.ranges.now.fits in
    let h = ap (has_lasted 5000 later) (sym stands.awaited_is) ∙ same ∙ ap (has_lasted 5000 now) stands.awaited_is in
    ap (λ b. handling_by b (own_number past) (shown_number past)) (awaited_alike now later (awaited_at past) (dumps_since past) h)
