use Rattle.board_listing.proofs.OnceLemmas.{lines_give_one_game}
use Rattle.board_listing.proofs.laws.lines_give_one_game.Goals as goal

pub returns : goal.returns
returns c = lines_give_one_game c.texts_are_plain.ensures c.texts_tell_moves.ensures
