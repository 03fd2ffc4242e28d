use Rattle.dgt_replay.proofs.AgreementLemmas.{records_recovered, records_shown_or_told}
use Rattle.dgt_replay.proofs.laws.recovered_games_are_recorded.Goals as goal

pub returns-clause-game : goal.returns-clause-game
returns-clause-game c = records_recovered c.shows_once.ensures c.folds_once.ensures

pub returns-clause-plies : goal.returns-clause-plies
returns-clause-plies c = records_shown_or_told c.shows_once.ensures c.folds_once.ensures c.plies_are_shown_or_told.ensures
