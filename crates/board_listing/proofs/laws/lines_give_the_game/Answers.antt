use Rattle.board_listing.proofs.GivenGameLemmas.{lines_give_the_game}
use Rattle.board_listing.proofs.laws.lines_give_the_game.Goals as goal

pub returns : goal.returns
returns c = lines_give_the_game
