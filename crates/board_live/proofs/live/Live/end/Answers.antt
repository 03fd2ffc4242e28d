use Rattle.board_live.specs.Coming.{came}
use Rattle.board_live.proofs.TakeLemmas.{game_at}
use Rattle.board_live.proofs.live.Live.end.Goals as goal

pub returns : goal.returns
returns c setting recovers past text turns s h = c.end.ensures setting recovers (came past turns) text (game_at c.args.self.now setting recovers past text turns s h)
