use Rattle.board_session.proofs.GameLemmas.{events_tell_the_game}
use Rattle.board_session.proofs.laws.events_tell_the_game.Goals as goal

pub returns : goal.returns
returns c = events_tell_the_game
