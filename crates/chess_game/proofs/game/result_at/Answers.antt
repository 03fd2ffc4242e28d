use Rattle.std.proofs.Common.{Some, refl, ap, ◌∙◌}
use Rattle.chess_rules.specs.declared.parts.Parts.{Parts}
use Rattle.chess_rules.specs.Board.{other}
use Rattle.settle_core.specs.declared.plies.Outcome.{Outcome}
use Rattle.settle_core.specs.GameResult.{win_of}
use Rattle.chess_game.proofs.game.result_at.Goals as goal

pub returns-in-Running : goal.returns-in-Running
returns-in-Running c =
    let here = c.in-Running.is in
    record {
      mated = λ m. let mate = c.status.ensures.checkmate.1 m in absurd cc;
      stale = λ s. let stalemate = c.status.ensures.stalemate.1 s in absurd cc;
      running = λ _ _. refl;
    }

pub returns-in-Checkmate : goal.returns-in-Checkmate
returns-in-Checkmate c =
    let here = c.in-Checkmate.is in
    record {
      mated = λ _. ap (λ (o : Outcome). Some o) (c.winner_over.ensures ∙ ap (λ (p : Parts). win_of (other p.side)) c.parts.ensures.same);
      stale = λ s. let stalemate = c.status.ensures.stalemate.1 s in absurd cc;
      running = λ playable _. absurd (playable (c.status.ensures.checkmate.0 here));
    }
