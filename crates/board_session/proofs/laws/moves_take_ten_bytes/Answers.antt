use Rattle.board_session.proofs.SizeLemmas.{frames_are_within, moves_take_ten_bytes, written_moves_take_ten_bytes}
use Rattle.board_session.proofs.laws.moves_take_ten_bytes.Goals as goal

pub returns-clause-frames : goal.returns-clause-frames
returns-clause-frames c = frames_are_within

pub returns-clause-moves : goal.returns-clause-moves
returns-clause-moves c = moves_take_ten_bytes

pub returns-clause-written : goal.returns-clause-written
returns-clause-written c = written_moves_take_ten_bytes
