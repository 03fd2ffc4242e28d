use Rattle.board_standing.proofs.Alarms.{other_is_news}
use Rattle.board_standing.proofs.laws.other_is_news.Goals as goal

pub returns : goal.returns
returns c = other_is_news
