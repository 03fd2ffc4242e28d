use Rattle.std.proofs.Common.{Bool, Option, refl, ap, subst, ◌∙◌}
use Rattle.chess_clock.specs.declared.times.Reading.{Reading}
use Rattle.board_doubts.specs.declared.heard.Heard.{Heard}
use Rattle.board_alarms.specs.Keeping.{LooksStandFor}
use Rattle.board_events.specs.History.{reading_at}
use Rattle.board_alarms.specs.Clock.{clock_of, counts_said, lever_at, lever_said, presses_of, runs_said}
use Rattle.board_alarms.specs.Hearing.{with_heard}
use Rattle.board_alarms.specs.Items.{events_of}
use Rattle.board_alarms.proofs.event_heard.tell_time.Goals as goal

pub returns : goal.returns
returns c = λ setting items told taken reading lever looks.
    let past = events_of items in
    let chunk = c.args.chunk in
    let event = c.args.event.now in
    let at = chunk.when.at in
    let added = chunk.when.is_added in
    let plies = c.args.plies in
    let now = c.reading-now.ensures setting _ taken in
    let counts = c.counts.ensures ∙ ap (λ (r : Option Reading). counts_said chunk r c.reading-now.result) reading ∙ ap (λ (r : Option Reading). counts_said chunk (reading_at setting.first past) r) now in
    let presses = c.presses.ensures ∙ ap (λ (l : Option Bool). presses_of l c.args.lever.now) c.lever_said-said.ensures ∙ ap (λ (l : Option Bool). presses_of (lever_said chunk event) l) lever in
    let L : Option Heard → Option Heard → Option Heard → Type 0 = λ one two three. LooksStandFor c.tell-3.new.looks (with_heard at added plies three (with_heard at added plies two (with_heard at added plies one told))) in
    let done = c.in_ok-tell-3.ensures _ (c.in_ok-tell-2.ensures _ (c.in_ok-tell.ensures told looks)) in (
      now,
      c.later.ensures ∙ rw c.lever_said-said.ensures (rw lever refl),
      subst (λ h. L h (presses_of (lever_said chunk event) (lever_at items)) (clock_of (runs_said chunk event))) counts
          (subst (λ h. L c.counts.result h (clock_of (runs_said chunk event))) presses (subst (L c.counts.result c.presses.result) c.clock.ensures done)),
    )
