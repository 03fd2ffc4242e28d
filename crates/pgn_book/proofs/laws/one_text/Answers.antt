use Rattle.pgn_book.proofs.OneText.{one_text}
use Rattle.pgn_book.proofs.laws.one_text.Goals as goal

pub returns : goal.returns
returns c = one_text c.texts_are_plain.ensures c.moves_tell_texts.ensures
