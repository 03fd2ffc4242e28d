use Rattle.std.proofs.Common.{◌∙◌}
use Rattle.board_live.proofs.TakeLemmas.{kept_at}
use Rattle.board_live.proofs.live.Live.kept.Goals as goal

pub returns : goal.returns
returns c setting recovers past text turns s h = c.kept.ensures ∙ kept_at c.args.self.now.attending past turns s.attends h
