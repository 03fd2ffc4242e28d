use Rattle.board_listing.proofs.TextLemmas.{text_tells_the_game}
use Rattle.board_listing.proofs.laws.text_tells_the_game.Goals as goal

pub returns : goal.returns
returns c = text_tells_the_game c.text_tells_the_lines.ensures c.lines_give_one_game.ensures
