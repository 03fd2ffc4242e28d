use Rattle.chess_text.proofs.Placements.{board_back}
use Rattle.chess_text.proofs.DigitsApart.{digits_apart}
use Rattle.chess_text.proofs.laws.placements_read_back.Goals as goal

pub returns : goal.returns
returns c = record { squares = board_back; apart = digits_apart }
