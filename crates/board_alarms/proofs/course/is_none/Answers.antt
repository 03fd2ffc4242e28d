use Rattle.board_alarms.proofs.MaskLemmas.{same_if_none}
use Rattle.board_alarms.proofs.course.is_none.Goals as goal

pub returns : goal.returns
returns c = λ differs. same_if_none c.args.differs c.args.one.now c.args.other.now c.ranges.differs.fits c.count_squares.ensures c.count_squares-2.ensures differs
