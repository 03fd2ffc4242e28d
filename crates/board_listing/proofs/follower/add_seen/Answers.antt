use Rattle.std.proofs.Common.{refl}
use Rattle.chess_rules.specs.Picture.{picture}
use Rattle.board_listing.specs.GameText.{reached_by}
use Rattle.board_listing.proofs.follower.add_seen.Goals as goal

pub returns-in-Waits-clause-told : goal.returns-in-Waits-clause-told
returns-in-Waits-clause-told c shown last =
    (_, rw c.in-Waits.is refl, c.add_waiting.ensures.told (picture (reached_by c.args.settler.now.start c.args.settler.now.score)) shown (c.differs.ensures shown last))

pub returns-in-Replaced-clause-told : goal.returns-in-Replaced-clause-told
returns-in-Replaced-clause-told c shown last =
    let told = c.add_last-in-Replaced.ensures.told in
    (told.0, rw c.in-Replaced.is told.1, told.2)
