use Rattle.std.proofs.Common.{◌∙◌, arith}
use Rattle.board_events.specs.Session.{entries_in}
use Rattle.board_events.proofs.CountLemmas.{length-entries}
use Rattle.board_events.proofs.session.Session.into_game.Goals as goal

pub returns-clause-game : goal.returns-clause-game
returns-clause-game c = λ setting past h.
    let settled = rw (← c.self.view_is) at h.settler in
    record {
      sign = c.into_parts-start.result.2;
      tags_are = c.new.ensures.tags;
      start_is = c.new.ensures.start ∙ c.into_parts-start.ensures.start ∙ settled.start_is;
      folds = rw c.new.ensures.plies (c.into_parts-start.ensures.folds setting.start (entries_in setting past) settled);
      line = rw (c.new.ensures.plies, ← settled.start_is) c.into_parts-start.ensures.line;
      result_is = rw (c.new.ensures.plies, ← settled.start_is, ← c.into_parts-start.ensures.start) c.new.ensures.result;
    }

pub returns-clause-count : goal.returns-clause-count
returns-clause-count c = λ setting past h.
    let settled = rw (← c.self.view_is) at h.settler in
    let few = c.into_parts-start.ensures.count setting.start (entries_in setting past) settled in
    rw c.new.ensures.plies (omega (arith, few, length-entries setting.first setting.rotated past))
