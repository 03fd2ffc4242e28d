use Rattle.std.proofs.Common.{ap, sym, ◌∙◌}
use Rattle.std.specs.Prelude.{if◌then◌else◌}
use Rattle.square_runs.specs.Lasting.{has_lasted}
use Rattle.square_runs.specs.Shown.{has, since_when}
use Rattle.square_runs.specs.Squares.{first_where}
use Rattle.board_standing.specs.Pictures.{is_named, is_no_nearer, patience, since_set_up}
use Rattle.board_standing.proofs.seen.Seen.named_since.Goals as goal

pub returns-else-lasted : goal.returns-else-lasted
returns-else-lasted c past keeps marks =
    c.since.ensures (since_set_up past) (is_named c.args.now past) keeps.runs marks
    ∙ sym (ap (λ b. if b then since_when is_no_nearer past else first_where (is_named c.args.now past) (λ s. since_when (has s) (since_set_up past)))
    (ap (has_lasted patience c.args.now) (sym keeps.no_nearer_since) ∙ sym c.lasted.ensures ∙ c.if-lasted.false))
