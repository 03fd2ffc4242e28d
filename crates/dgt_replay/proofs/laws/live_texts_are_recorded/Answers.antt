use Rattle.dgt_replay.proofs.LiveTextLemmas.{texts_recorded, texts_recovered}
use Rattle.dgt_replay.proofs.laws.live_texts_are_recorded.Goals as goal

pub returns-clause-recorded : goal.returns-clause-recorded
returns-clause-recorded c = texts_recorded c.folds_once.ensures c.one_text.ensures c.texts_are_recorded.ensures

pub returns-clause-recovered : goal.returns-clause-recovered
returns-clause-recovered c = texts_recovered c.folds_once.ensures c.one_text.ensures c.texts_are_recovered.ensures
