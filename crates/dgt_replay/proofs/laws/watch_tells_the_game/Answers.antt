use Rattle.dgt_replay.proofs.AgreementLemmas.{watch_tells_the_game}
use Rattle.dgt_replay.proofs.laws.watch_tells_the_game.Goals as goal

pub returns : goal.returns
returns c = watch_tells_the_game c.shows_once.ensures c.watch_lines_give_the_game.ensures
