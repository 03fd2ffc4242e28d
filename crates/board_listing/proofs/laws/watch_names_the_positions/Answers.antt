use Rattle.board_listing.proofs.WatchPositionLemmas.{watch_names_the_positions}
use Rattle.board_listing.proofs.laws.watch_names_the_positions.Goals as goal

pub returns : goal.returns
returns c = watch_names_the_positions c.texts_are_plain.ensures
