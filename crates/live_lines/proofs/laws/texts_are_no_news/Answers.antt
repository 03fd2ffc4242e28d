use Rattle.live_lines.proofs.NewsLemmas.{no_news}
use Rattle.live_lines.proofs.laws.texts_are_no_news.Goals as goal

pub returns : goal.returns
returns c = no_news
