use Rattle.chess_text.proofs.FenTexts.{texts_tell_positions}
use Rattle.chess_text.proofs.laws.texts_tell_positions.Goals as goal

pub returns : goal.returns
returns c = texts_tell_positions
