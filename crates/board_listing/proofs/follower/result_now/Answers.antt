use Rattle.board_listing.proofs.follower.result_now.Goals as goal

pub returns-in_default : goal.returns-in_default
returns-in_default c told = rw (c.position.ensures.reached, c.sign.ensures) at c.result_at.ensures
