use Rattle.dgt_replay.proofs.WrittenLemmas.{texts_are_within, texts_pass}
use Rattle.dgt_replay.proofs.laws.written_texts_pass.Goals as goal

pub returns-clause-within : goal.returns-clause-within
returns-clause-within c = texts_are_within c.moves_take_ten_bytes.ensures.written c.texts_are_short.ensures

pub returns-clause-pass : goal.returns-clause-pass
returns-clause-pass c = texts_pass c.moves_take_ten_bytes.ensures.written c.texts_are_short.ensures
