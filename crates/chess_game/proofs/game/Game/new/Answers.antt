use Rattle.std.proofs.Common.{List, ap, ◌∙◌, subst, All}
use Rattle.chess_rules.specs.declared.parts.Parts.{Parts}
use Rattle.settle_core.specs.declared.plies.Ply.{Ply}
use Rattle.settle_core.specs.Folding.{moves_of}
use Rattle.settle_core.specs.Settling.{position_after}
use Rattle.settle_core.specs.GameResult.{IsResult}
use Rattle.chess_game.specs.Games.{IsTimed}
use Rattle.chess_game.proofs.game.Game.new.Goals as goal

pub invariant_of-result : goal.invariant_of-result
invariant_of-result c =
    let P : List Ply → Type 0 = λ xs. All IsTimed xs in
    let R : Parts → Type 0 = λ p. IsResult p c.args.sign c.result_at-result.result in
    let last = c.last_position-last.ensures.position ∙ ap (λ (xs : List Ply). position_after c.args.start (moves_of xs)) c.deref.ensures.value in
    record {
      tags = c.get.ensures.valid;
      start = c.parts.ensures.valid;
      line = c.requires;
      clocks = subst P c.deref.ensures.value c.last_position-last.ensures.clocks;
      sign = c.args.sign;
      result = subst R last c.result_at-result.ensures;
    }
