use Rattle.game_over.proofs.ending.Ending.why.Goals as goal

pub returns-in-Shows : goal.returns-in-Shows
returns-in-Shows c past stands = rw c.in-Shows.is (c.why_shows.ensures past stands)
