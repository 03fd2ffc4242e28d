use Rattle.live_lines.proofs.ReportLemmas.{have_lines}
use Rattle.live_lines.proofs.laws.reports_have_lines.Goals as goal

pub returns : goal.returns
returns c = have_lines c.texts_are_plain.ensures c.fens_are_plain.ensures
