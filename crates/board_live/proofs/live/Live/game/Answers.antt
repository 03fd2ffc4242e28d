use Rattle.board_live.proofs.TakeLemmas.{game_at}
use Rattle.board_live.proofs.live.Live.game.Goals as goal

pub returns-clause-stands : goal.returns-clause-stands
returns-clause-stands c setting recovers past text turns s h = game_at c.args.self.now setting recovers past text turns s h
