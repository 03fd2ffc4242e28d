use Rattle.dgt_replay.proofs.AgreementLemmas.{follow_tells_the_game}
use Rattle.dgt_replay.proofs.laws.follow_tells_the_game.Goals as goal

pub returns : goal.returns
returns c = follow_tells_the_game c.shows_once.ensures c.lines_give_the_game.ensures
