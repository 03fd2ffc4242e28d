use Rattle.std.proofs.Common.{List, sym, subst, ◌∙◌}
use Rattle.board_alarms.specs.declared.look.Told.{Told}
use Rattle.board_alarms.specs.Keeping.{LooksStandFor}
use Rattle.board_alarms.specs.Items.{events_of}
use Rattle.board_alarms.proofs.TakeLemmas.{lever_stays, nothing_said, reading_stays}
use Rattle.board_alarms.proofs.event_heard.tell_clock.Goals as goal

pub returns : goal.returns
returns c = λ setting items told taken reading lever looks.
    let past = events_of items in
    let event = c.args.event.now in
    let none = sym c.is_time.ensures ∙ c.if-is_time.false in
    let L : List Told → Type 0 = λ told. LooksStandFor c.args.looks.now told in (
      reading ∙ sym (reading_stays setting.first event past none),
      lever ∙ sym (lever_stays c.args.chunk event items none),
      subst L (sym (nothing_said c.args.chunk c.args.plies setting.first event items told none)) looks,
    )
