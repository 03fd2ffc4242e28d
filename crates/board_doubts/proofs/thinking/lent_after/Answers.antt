use Rattle.std.proofs.Common.{◌∷◌, ap, ◌∙◌}
use Rattle.board_doubts.specs.Keeping.{filled}
use Rattle.board_doubts.specs.Pace.{pace_of}
use Rattle.board_doubts.proofs.thinking.lent_after.Goals as goal

pub returns-in-Plays-Some : goal.returns-in-Plays-Some
returns-in-Plays-Some c plies keeps =
    rw c.in-Plays-Some.is-0 (rw c.in-Plays-Some.is-1 (rw c.if-not-is_added.true (
    c.with.ensures plies keeps ∙ ap (λ one. filled pace_of (one ∷ plies)) c.is_other.ensures)))
