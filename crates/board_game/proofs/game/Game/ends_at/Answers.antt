use Rattle.std.proofs.Common.{ap, subst, sym, ◌∙◌}
use Rattle.board_endings.specs.declared.endings.Endings.{Endings}
use Rattle.board_endings.specs.Keeping.{StandsFor as EndingsStand}
use Rattle.board_game.specs.declared.telling.Teller.{Teller}
use Rattle.board_game.specs.Ending.{end_items}
use Rattle.board_game.proofs.game.Game.ends_at.Goals as goal

pub returns : goal.returns
returns c = λ setting recovers past text h.
    let E : Endings → Type 0 = λ e. EndingsStand e setting (end_items h.items) in
    let stands = subst E (sym (c.endings.ensures ∙ ap (λ (t : Teller). t.endings) c.teller.ensures)) h.follows.told.endings in
    (h.items, h.makes, c.due.ensures setting (end_items h.items) stands)
