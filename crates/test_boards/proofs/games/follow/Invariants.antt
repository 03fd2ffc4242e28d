use Rattle.board_game.specs.Games.{HasBegun}
use Rattle.test_boards.proofs.games.follow.Given as goal

abbrev pub invariant-all : goal.invariant-all
invariant-all l = HasBegun l.game
