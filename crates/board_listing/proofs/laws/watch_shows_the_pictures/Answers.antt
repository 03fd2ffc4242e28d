use Rattle.board_listing.proofs.WatchLawLemmas.{watch_shows_the_pictures}
use Rattle.board_listing.proofs.laws.watch_shows_the_pictures.Goals as goal

pub returns : goal.returns
returns c = watch_shows_the_pictures
