use Rattle.pgn_book.proofs.ParseBack.{one_game}
use Rattle.pgn_book.proofs.laws.one_game.Goals as goal

pub returns : goal.returns
returns c = one_game c.texts_are_plain.ensures c.texts_tell_moves.ensures c.texts_tell_positions.ensures
