use Rattle.board_listing.proofs.RangeLemmas.{in_range}
use Rattle.board_game.proofs.telling.watch.Goals as goal

pub see-requires : goal.see-requires
see-requires c = in_range c.args.event.now c.requires.frame

pub returns-in-Ok-clause-seen : goal.returns-in-Ok-clause-seen
returns-in-Ok-clause-seen c = λ setting past watched seen. c.see.ensures.seen setting past seen

pub returns-in-Ok-clause-shown : goal.returns-in-Ok-clause-shown
returns-in-Ok-clause-shown c = λ setting past watched seen.
    c.see.ensures.shown setting past watched.followed.valid (c.in-Ok.ensures.tells setting past watched) seen
