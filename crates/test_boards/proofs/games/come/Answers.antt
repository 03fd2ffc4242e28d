use Rattle.test_boards.proofs.games.come.Goals as goal

pub returns-in-Line : goal.returns-in-Line
returns-in-Line c = c.tell.ensures.begun c.requires
