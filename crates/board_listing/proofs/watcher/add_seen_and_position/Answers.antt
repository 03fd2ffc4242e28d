use Rattle.std.proofs.Common.{◌∙◌, ◌++◌, ap, append_assoc, sym}
use Rattle.watched_streams.specs.Lines.{line}
use Rattle.board_listing.specs.GameText.{reached_by}
use Rattle.board_listing.specs.WatchLines.{position_words}
use Rattle.board_listing.proofs.WatcherLemmas.{position_behind}
use Rattle.board_listing.proofs.watcher.add_seen_and_position.Goals as goal

pub returns-then-is_ply-clause-told : goal.returns-then-is_ply-clause-told
returns-then-is_ply-clause-told c shown last =
    let settler = c.args.settler.now in
    let told = c.add_seen.ensures.told shown last in
    let behind = line c.args.offset (position_words (reached_by settler.start settler.score)) in (
      told.0 ++ behind,
      position_behind c.args.offset settler.start settler.score shown c.args.seen.now told.0 (sym c.is_ply.ensures ∙ c.if-is_ply.true) told.1,
      (rw c.position.ensures.reached at c.add_position.ensures.items) ∙ ap (λ text. text ++ behind) told.2 ∙ append_assoc c.args.lines.now.items told.0 behind,
    )
