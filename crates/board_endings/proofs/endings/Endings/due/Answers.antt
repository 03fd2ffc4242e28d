use Rattle.std.proofs.Common.{sym, ◌∙◌}
use Rattle.board_endings.specs.Items.{bytes_of}
use Rattle.board_endings.proofs.DueLemmas.{ended_now, ends_later, still_to_come}
use Rattle.board_endings.proofs.endings.Endings.due.Goals as goal

pub returns-then-has_come : goal.returns-then-has_come
returns-then-has_come c = λ setting items h. (
  h.told,
  h.tells,
  λ time le low.
      let due = c.due-due.result in
      let bytes = bytes_of items in
      let come = c.due-due.ensures h.told h.judged in
      ended_now c.args.now time due _ _ le (sym c.has_come.ensures.come ∙ c.if-has_come.true) (come c.args.now bytes c.ranges.now.fits) (come time bytes low),
  tt,
)

pub returns-else-has_come : goal.returns-else-has_come
returns-else-has_come c = λ setting items h. (
  h.told,
  h.tells,
  λ time le low.
      let due = c.due-due.result in
      let bytes = bytes_of items in
      let come = c.due-due.ensures h.told h.judged in
      ends_later c.args.now time due _ _ (sym c.has_come.ensures.come ∙ c.if-has_come.false) (come c.args.now bytes c.ranges.now.fits) (come time bytes low),
  still_to_come c.args.now c.due-due.result _ c.has_come.ensures.fits (sym c.has_come.ensures.come ∙ c.if-has_come.false)
      (c.due-due.ensures h.told h.judged c.args.now (bytes_of items) c.ranges.now.fits),
)
