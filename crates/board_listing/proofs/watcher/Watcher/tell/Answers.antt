use Rattle.std.proofs.Common.{◌≡◌, ◌∙◌, Some, ap, subst, sym}
use Rattle.chess_text.specs.declared.placement_text.PlacementText.{PlacementText}
use Rattle.chess_text.specs.KeptRanks.{picture_in}
use Rattle.settle_core.specs.declared.plies.Seen.{Seen}
use Rattle.board_listing.specs.Inside.Watchers.{AddsShown}
use Rattle.board_listing.proofs.watcher.Watcher.tell.Goals as goal

pub returns-then-is_news-clause-told : goal.returns-then-is_news-clause-told
returns-then-is_news-clause-told c asks seen some other =
    let old = c.args.self.now.follower in
    let lines = c.args.lines.now.items in
    let new = c.tell_news.new.self in
    let lines' = c.tell_news.new.lines.items in
    let both : Some c.in-Some.seen ≡ Some seen = sym c.in-Some.is ∙ some in
    let same : c.in-Some.seen ≡ seen = cc in
    let P : Seen → Type 0 = λ s. AddsShown old c.args.offset (picture_in c.draw.new.placement) s lines new.follower lines' in
    let Q : PlacementText → Type 0 = λ p. AddsShown old c.args.offset (picture_in p) seen lines new.follower lines' in
    let told = rw c.in-Some.seen-is at c.tell_news.ensures.told in
    let drawn = c.tell_news.ensures.drawn.1 in
    record { drawn_is = ap picture_in drawn ∙ c.draw.ensures; adds = subst Q (sym drawn) (subst P same told) }
