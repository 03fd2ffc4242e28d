use Rattle.pgn_book.proofs.reading.read_ply.Goals as goal

pub returns-in-Ok-clause-legal : goal.returns-in-Ok-clause-legal
returns-in-Ok-clause-legal c = c.in-Ok.ensures.legal
