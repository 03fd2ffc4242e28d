-- What the fields of a game mean.
use Rattle.chess_game.specs.declared.game.Game.TheInside.{Inside}
use Rattle.chess_game.specs.Games.{Content}

abbrev pub content_in : Inside → Content
content_in game = record { tags = game.tags; start = game.start; plies = game.plies.items; result = game.result }
