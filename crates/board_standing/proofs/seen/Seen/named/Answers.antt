use Rattle.std.proofs.Common.{◌==◌, ap, sym, ◌∙◌}
use Rattle.std.specs.Prelude.{if◌then◌else◌}
use Rattle.std.specs.Int.{bit_at}
use Rattle.square_runs.proofs.Squares.{marks_none, marks_some}
use Rattle.board_standing.specs.Pictures.{is_old, last_squares}
use Rattle.board_standing.proofs.seen.Seen.named.Goals as goal

pub returns-then-old-eq0 : goal.returns-then-old-eq0
returns-then-old-eq0 c past keeps marks s low =
    ap (λ m. bit_at m s == 1) keeps.squares
    ∙ sym (ap (λ b. if b then is_old c.args.now past s else bit_at (last_squares past) s == 1)
    (marks_none c.args.old (is_old c.args.now past) c.if-old-eq0.true marks))

pub returns-else-old-eq0 : goal.returns-else-old-eq0
returns-else-old-eq0 c past keeps marks s low =
    marks s low
    ∙ sym (ap (λ b. if b then is_old c.args.now past s else bit_at (last_squares past) s == 1)
    (marks_some c.args.old (is_old c.args.now past) c.ranges.old.fits c.if-old-eq0.false marks))
