use Rattle.std.proofs.Common.{◌*◌, ◌==◌, ◌&&◌, ℕ, take, length, ap, ◌∙◌}
use Rattle.std.specs.Prelude.{count_by, is_some, nat_le, if◌then◌else◌}
use Rattle.board_doubts.specs.Keeping.{is_within}
use Rattle.board_doubts.specs.Pace.{pace_of, quickest, usual}
use Rattle.board_doubts.proofs.Paces.{known, room, within}
use Rattle.board_doubts.proofs.pace.Pace.fits.Goals as goal

pub returns : goal.returns
returns c times keeps =
    let time : ℕ = c.args.time in
    c.has_room.ensures
    ∙ ap (λ n. if n == 0 then nat_le usual time else nat_le quickest time && nat_le n (2 * c.within.result))
    (c.known.ensures ∙ ap (count_by is_some) keeps.last ∙ known pace_of times)
    ∙ ap (λ n. if length (take pace_of times) == 0 then nat_le usual time else nat_le quickest time && nat_le (length (take pace_of times)) (2 * n))
    (c.within.ensures ∙ ap (count_by (is_within time)) keeps.last ∙ within pace_of time times)
    ∙ room time (take pace_of times)
