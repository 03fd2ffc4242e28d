use Rattle.board_listing.proofs.SameTextLemmas.{more_bytes_add_lines}
use Rattle.board_listing.proofs.laws.more_bytes_add_lines.Goals as goal

pub returns : goal.returns
returns c = more_bytes_add_lines c.moves_tell_texts.ensures c.fronts_show_fronts.ensures
