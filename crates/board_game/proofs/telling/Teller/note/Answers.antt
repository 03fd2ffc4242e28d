use Rattle.std.proofs.Common.{Option, refl, subst}
use Rattle.std.proofs.lemmas.Result.{on_ok_weaker}
use Rattle.board_standing.specs.declared.heard.Heard.{Heard}
use Rattle.board_standing.specs.Keeping.{StandsFor as StandingStands}
use Rattle.board_alarms.specs.declared.news.News.{News}
use Rattle.board_alarms.specs.Keeping.{StandsFor as AlarmsStand}
use Rattle.board_game.specs.Alarming.{alarm_items, with_news}
use Rattle.board_game.specs.Ending.{end_items}
use Rattle.board_game.specs.Hearing.{with_heard}
use Rattle.board_game.proofs.telling.Teller.note.Goals as goal

pub returns : goal.returns
returns c = λ setting items text h.
    let S : Option Heard → Type 0 = λ what. StandingStands c.tell.new.standing (with_heard c.args.at what h.heard) in
    let A : Option News → Type 0 = λ news. AlarmsStand c.note_news.new.alarms setting (with_news c.args.at news (alarm_items items)) in
    on_ok_weaker c.note_end.result (λ endings. record {
      watched = h.watched;
      seen = h.seen;
      heard = _;
      hears = (h.heard, h.hears, refl);
      standing = subst S c.heard_of.ensures (c.tell.ensures h.heard h.standing);
      alarms = subst A c.news_of.ensures (c.in_ok-note_news.ensures setting (alarm_items items) h.alarms);
      endings = endings;
      reports = h.reports;
    }) (c.note_end.ensures setting (end_items items) h.endings)
