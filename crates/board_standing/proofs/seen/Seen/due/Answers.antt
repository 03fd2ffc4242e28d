use Rattle.std.proofs.Common.{ap, ◌∙◌}
use Rattle.square_runs.specs.Lasting.{earlier, will_have_lasted}
use Rattle.square_runs.specs.Shown.{since_when}
use Rattle.board_standing.specs.Pictures.{hand, is_no_nearer, last_time, patience, since_set_up}
use Rattle.board_standing.proofs.seen.Seen.due.Goals as goal

pub returns : goal.returns
returns c past keeps =
    c.sooner.ensures.is
    ∙ ap (λ time. earlier c.sooner-due.result (will_have_lasted patience c.args.now time)) keeps.no_nearer_since
    ∙ ap (λ due. earlier due (will_have_lasted patience c.args.now (since_when is_no_nearer past))) (
    c.sooner-due.ensures.is
    ∙ ap (λ time. earlier c.due.result (will_have_lasted hand c.args.now time)) keeps.last
    ∙ ap (λ due. earlier due (will_have_lasted hand c.args.now (last_time past))) (c.due.ensures (since_set_up past) keeps.runs)
    )
