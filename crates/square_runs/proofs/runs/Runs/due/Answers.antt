use Rattle.std.proofs.Common.{ap, ◌∙◌}
use Rattle.square_runs.specs.Keeping.{time_of}
use Rattle.square_runs.specs.Lasting.{will_have_lasted}
use Rattle.square_runs.specs.Shown.{has, since_when}
use Rattle.square_runs.proofs.Due.{first_same}
use Rattle.square_runs.proofs.runs.Runs.due.Goals as goal

pub returns : goal.returns
returns c past stands =
    c.next_lasting.ensures
    ∙ first_same 64 (λ s. will_have_lasted c.args.span c.args.now (time_of c.args.self.now.last c.args.self.now.since s)) (λ s. will_have_lasted c.args.span c.args.now (since_when (has s) past))
    (λ s low. ap (will_have_lasted c.args.span c.args.now) (stands s low))
