use Rattle.std.proofs.Common.{sym, subst}
use Rattle.board_events.specs.Settings.{setting_of}
use Rattle.board_game.specs.declared.game.Game.{Game}
use Rattle.board_game.specs.Games.{StandsFor as GameStands}
use Rattle.board_live.specs.Coming.{came}
use Rattle.live_lines.specs.Meaning.{moments}
use Rattle.live_lines.proofs.recorder.Recorder.first_line.Goals as goal

pub returns : goal.returns
returns c = λ setup recovers past text s.
    let turns = s.live.attends.cable.turns in
    let G : Game → Type 0 = λ g. GameStands g (setting_of setup) recovers (came (moments past) turns) text in
    c.first_line.ensures (setting_of setup) recovers (came (moments past) turns) text (subst G (sym c.game-game.ensures.same) s.live.game)
