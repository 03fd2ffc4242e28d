use Rattle.std.proofs.Common.{Option, OnOk, sym, subst}
use Rattle.board_alarms.specs.declared.news.News.{News}
use Rattle.board_alarms.specs.Keeping.{StandsFor as AlarmsStand}
use Rattle.board_game.specs.Alarming.{with_news}
use Rattle.board_game.proofs.telling.note_news.Goals as goal

pub returns-in-Some : goal.returns-in-Some
returns-in-Some c = λ setting items h.
    let T : Option News → Type 0 = λ news. OnOk c.note.result (AlarmsStand c.note.new.self setting (with_news c.args.at news items)) in
    subst T (sym c.in-Some.is) (c.note.ensures setting items h)
