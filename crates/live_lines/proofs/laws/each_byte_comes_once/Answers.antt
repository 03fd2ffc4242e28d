use Rattle.live_lines.proofs.HistoryLemmas.{comes_once}
use Rattle.live_lines.proofs.laws.each_byte_comes_once.Goals as goal

pub returns : goal.returns
returns c = comes_once
