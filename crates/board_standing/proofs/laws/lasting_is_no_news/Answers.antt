use Rattle.board_standing.proofs.Alarms.{lasting_is_no_news}
use Rattle.board_standing.proofs.laws.lasting_is_no_news.Goals as goal

pub returns : goal.returns
returns c = lasting_is_no_news
