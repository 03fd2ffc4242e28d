use Rattle.pgn_book.proofs.TextSizes.{texts_are_short}
use Rattle.pgn_book.proofs.laws.texts_are_short.Goals as goal

pub returns : goal.returns
returns c = texts_are_short c.texts_are_plain.ensures c.fens_are_plain.ensures
