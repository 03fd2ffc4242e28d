use Rattle.std.proofs.Common.{[], ◌∷◌, inr, refl}
use Rattle.board_listing.specs.WatchLines.{reading_words}
use Rattle.board_listing.specs.WatchText.{line_with}
use Rattle.board_listing.proofs.FollowLemmas.{clash}
use Rattle.board_listing.proofs.watcher.add_new_reading.Goals as goal

pub returns-then-not-is_same_reading : goal.returns-then-not-is_same_reading
returns-then-not-is_same_reading c = (
  line_with c.args.offset (reading_words c.args.new.now) ∷ [],
  inr (λ same. clash (c.is_same_reading.ensures.1 same) c.if-not-is_same_reading.true, refl),
  c.add_reading.ensures.items,
)
