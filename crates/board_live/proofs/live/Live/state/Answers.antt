use Rattle.std.proofs.Common.{ap, ◌∙◌}
use Rattle.board_live.specs.Coming.{came}
use Rattle.board_live.specs.Moments.{cabled}
use Rattle.board_live.specs.Saying.{without_other}
use Rattle.board_live.proofs.TakeLemmas.{game_at}
use Rattle.board_live.proofs.live.Live.state.Goals as goal

pub returns : goal.returns
returns c setting recovers past text turns s h = (
  c.state-stands.result,
  c.state-stands.ensures setting recovers (came past turns) text (game_at c.args.self.now setting recovers past text turns s h),
  c.without_other.ensures ∙ ap (λ own. without_other own c.state-stands.result) (c.is_own-is_own.ensures (cabled past) turns s.attends.cable h),
)
