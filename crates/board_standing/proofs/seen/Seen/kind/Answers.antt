use Rattle.std.proofs.Common.{ap, ◌∙◌}
use Rattle.board_standing.specs.Pictures.{is_old, kind_by}
use Rattle.board_standing.proofs.seen.Seen.kind.Goals as goal

pub returns : goal.returns
returns c past keeps marks =
    c.kind_by.ensures past keeps
    ∙ ap (λ b. kind_by c.args.now c.args.has_played b past) (c.has_any.ensures (is_old c.args.now past) marks)
