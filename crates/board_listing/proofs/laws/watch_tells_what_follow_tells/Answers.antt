use Rattle.board_listing.proofs.WatchLawLemmas.{watch_tells_what_follow_tells}
use Rattle.board_listing.proofs.laws.watch_tells_what_follow_tells.Goals as goal

pub returns : goal.returns
returns c = watch_tells_what_follow_tells
