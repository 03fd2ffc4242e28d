use Rattle.board_doubts.proofs.doubts.keep_pace.Goals as goal

pub returns-then-has_moved : goal.returns-then-has_moved
returns-then-has_moved c times keeps = rw c.in-Moves.is (rw c.if-has_moved.true (c.take.ensures times keeps))
