use Rattle.board_listing.proofs.WatchTextLemmas.{watch_lines_give_the_game}
use Rattle.board_listing.proofs.laws.watch_lines_give_the_game.Goals as goal

pub returns : goal.returns
returns c = watch_lines_give_the_game c.texts_are_plain.ensures c.fens_are_plain.ensures
