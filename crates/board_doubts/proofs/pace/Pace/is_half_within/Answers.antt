use Rattle.std.proofs.Common.{◌*◌, ℕ, take, length, ap, ◌∙◌}
use Rattle.std.specs.Prelude.{count_by, is_some, nat_le}
use Rattle.board_doubts.specs.Keeping.{is_within}
use Rattle.board_doubts.specs.Pace.{pace_of}
use Rattle.board_doubts.proofs.Paces.{known, within}
use Rattle.board_doubts.proofs.pace.Pace.is_half_within.Goals as goal

pub returns : goal.returns
returns c times keeps =
    let time : ℕ = c.args.time in
    c.is_half.ensures
    ∙ ap (λ n. nat_le n (2 * c.within.result)) (c.known.ensures ∙ ap (count_by is_some) keeps.last ∙ known pace_of times)
    ∙ ap (λ n. nat_le (length (take pace_of times)) (2 * n)) (c.within.ensures ∙ ap (count_by (is_within time)) keeps.last ∙ within pace_of time times)
