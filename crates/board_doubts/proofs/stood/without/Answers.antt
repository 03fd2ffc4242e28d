use Rattle.square_runs.proofs.Squares.{lacking}
use Rattle.board_doubts.proofs.stood.without.Goals as goal

pub returns : goal.returns
returns c test marks s low = lacking c.args.mask c.args.others s c.ranges.others.fits low (test s) (marks s low)
