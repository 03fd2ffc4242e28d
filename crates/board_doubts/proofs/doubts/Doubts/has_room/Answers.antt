use Rattle.std.proofs.Common.{◌/◌, ◌||◌, ℕ, ap, ◌∙◌}
use Rattle.std.specs.Prelude.{nat_le, if◌then◌else◌}
use Rattle.board_doubts.specs.Doubts.{silent_for}
use Rattle.board_doubts.specs.Pace.{fits_ply}
use Rattle.board_doubts.specs.Waiting.{ply_times}
use Rattle.board_doubts.proofs.doubts.Doubts.has_room.Goals as goal

pub returns : goal.returns
returns c past keeps =
    let lasted : ℕ = c.args.lasted in
    c.either.ensures ∙ ap (λ f. nat_le silent_for lasted || f) (
    c.fits-fits.ensures (ply_times past) keeps.pace
    ∙ ap (λ t. fits_ply t past) (c.time_for.ensures ∙ ap (λ b. if b then lasted else lasted / 2) (c.either-one.ensures ∙ ap (λ r. c.args.is_move || r) keeps.repeated))
    )
