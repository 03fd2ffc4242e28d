use Rattle.board_listing.proofs.WatchTextLemmas.{watch_text_tells_its_lines}
use Rattle.board_listing.proofs.laws.watch_text_tells_its_lines.Goals as goal

pub returns : goal.returns
returns c = watch_text_tells_its_lines c.fens_are_plain.ensures
