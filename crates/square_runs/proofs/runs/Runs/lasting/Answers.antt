use Rattle.std.proofs.Common.{ap, ◌∙◌}
use Rattle.square_runs.specs.Lasting.{has_lasted}
use Rattle.square_runs.proofs.runs.Runs.lasting.Goals as goal

pub returns : goal.returns
returns c past stands s low = c.lasting_squares.ensures s low ∙ ap (has_lasted c.args.span c.args.now) (stands s low)
