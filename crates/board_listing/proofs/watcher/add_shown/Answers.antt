use Rattle.std.proofs.Common.{refl}
use Rattle.chess_rules.specs.Picture.{picture}
use Rattle.board_listing.specs.GameText.{reached_by}
use Rattle.board_listing.proofs.watcher.add_shown.Goals as goal

pub returns-in-Waits-clause-told : goal.returns-in-Waits-clause-told
returns-in-Waits-clause-told c shown last = (
  _,
  rw c.in-Waits.is refl,
  c.add_picture_that_waits.ensures.told (picture (reached_by c.args.settler.now.start c.args.settler.now.score)) shown (c.differs.ensures shown last),
)
