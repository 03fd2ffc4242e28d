use Rattle.live_lines.proofs.FunctionLemmas.{one_report}
use Rattle.live_lines.proofs.laws.has_one_report.Goals as goal

pub returns : goal.returns
returns c = one_report c.moves_tell_texts.ensures c.shows_once.ensures c.recovers_once.ensures.score
