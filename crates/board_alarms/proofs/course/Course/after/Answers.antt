use Rattle.std.proofs.Common.{length, ap, ◌∙◌}
use Rattle.std.proofs.lemmas.List.{length-reverse}
use Rattle.chess_rules.specs.declared.parts.Parts.{Parts}
use Rattle.chess_rules.specs.Picture.{picture}
use Rattle.settle_core.specs.Folding.{moves_of}
use Rattle.settle_core.specs.Settling.{reached}
use Rattle.board_alarms.specs.Plies.{is_black}
use Rattle.board_alarms.proofs.course.Course.after.Goals as goal

pub returns : goal.returns
returns c = λ start old keeps same grows.
    let plies = c.args.settler.now.score.plies in
    let size = ap length c.moves.ensures.plies ∙ length-reverse plies in
    let reached_is = c.position-position.ensures.reached ∙ ap (λ (p : Parts). reached p (moves_of plies)) same in
    record {
      counted = size;
      side = c.is_black.ensures ∙ ap (λ (p : Parts). is_black p.side) reached_is;
      keeps = c.positions_after-positions.ensures start old plies keeps (c.picture-picture.ensures.shown ∙ ap picture reached_is) size grows;
    }
