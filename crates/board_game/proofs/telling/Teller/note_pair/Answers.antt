use Rattle.std.proofs.Common.{refl}
use Rattle.std.proofs.lemmas.Result.{on_ok_weaker}
use Rattle.board_game.specs.Alarming.{alarm_items}
use Rattle.board_game.proofs.telling.Teller.note_pair.Goals as goal

pub returns : goal.returns
returns c = λ setting items text line offset r h tells.
    on_ok_weaker c.note.result (λ alarms. record {
      watched = h.watched;
      seen = h.seen;
      heard = h.heard;
      hears = h.hears;
      standing = h.standing;
      alarms = alarms;
      endings = h.endings;
      reports = (text, line, h.reports, tells, refl);
    }) (c.note.ensures setting (alarm_items items) h.alarms)
