use Rattle.board_listing.proofs.TextLemmas.{text_tells_the_lines}
use Rattle.board_listing.proofs.laws.text_tells_the_lines.Goals as goal

pub returns : goal.returns
returns c = text_tells_the_lines c.texts_are_plain.ensures
