use Rattle.std.proofs.Common.{◌≡◌, ◌++◌, List, Option, sym, ap, ◌∙◌, append-nil}
use Rattle.std.proofs.lemmas.Result.{on_ok_weaker}
use Rattle.board_doubts.specs.declared.heard.Doubt.{Doubt}
use Rattle.board_alarms.specs.declared.look.Look.{Look}
use Rattle.board_alarms.specs.Looks.{alarms, doubtful, heard, listed}
use Rattle.board_alarms.proofs.looks.Looks.see.Goals as goal

pub returns : goal.returns
returns c = λ past h.
    let plies = c.args.plies in
    let look : c.doubtful.result ≡ doubtful plies c.see-doubt.result = c.doubtful.ensures in
    on_ok_weaker c.add.result (λ (added : c.add.new.looks.items ≡ c.args.self.now.alarms.items ++ listed c.doubtful.result). record {
      doubts = c.see-doubt.ensures.stands (heard past) h.doubts;
      clock = record { run = h.clock.run; since = h.clock.since; unheard = h.clock.unheard; moves = h.clock.moves; plies = h.clock.plies };
      after_wrong = c.see.ensures c.args.seen.now c.args.is_added (heard past) h.after_wrong;
      alarms_are = added ∙ ap (λ (looks : List Look). looks ++ listed c.doubtful.result) h.alarms_are
          ∙ ap (λ (one : Option Look). alarms past ++ listed one) (look ∙ ap (λ (doubt : Option Doubt). doubtful plies doubt) (c.see-doubt.ensures.doubt (heard past) h.doubts))
          ∙ ap (λ (looks : List Look). alarms past ++ looks) (sym (append-nil _));
    }) c.add.ensures
