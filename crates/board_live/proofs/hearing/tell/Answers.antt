use Rattle.std.proofs.Common.{Option, OnOk, sym, subst}
use Rattle.board_game.specs.Games.{StandsFor}
use Rattle.board_game.specs.declared.note.Note.{Note}
use Rattle.board_live.specs.Coming.{with_news}
use Rattle.board_live.proofs.hearing.tell.Goals as goal

pub returns-in-Some-clause-told : goal.returns-in-Some-clause-told
returns-in-Some-clause-told c setting recovers past text s =
    let T : Option Note → Type 0 = λ news. OnOk c.tell.result (StandsFor c.tell.new.self setting recovers (with_news c.args.at news past) text) in
    subst T (sym c.in-Some.is) (c.tell.ensures.told setting recovers past text s)
