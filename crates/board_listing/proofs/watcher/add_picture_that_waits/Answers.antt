use Rattle.std.proofs.Common.{◌≡◌, ◌∙◌, ◌++◌, List, ℕ, ap, decimal}
use Rattle.chess_text.specs.KeptRanks.{picture_in}
use Rattle.chess_text.specs.Placement.{placement}
use Rattle.board_listing.specs.GameLines.{squares_text, waiting_words}
use Rattle.board_listing.proofs.WatcherLemmas.{two_lines_added}
use Rattle.board_listing.proofs.watcher.add_picture_that_waits.Goals as goal

pub returns-clause-told : goal.returns-clause-told
returns-clause-told c stands seen diff =
    let at : c.as_bytes-at.result.now ≡ decimal c.args.offset = c.as_bytes-at.ensures.value ∙ c.format.ensures.text in
    two_lines_added c.args.lines.now.items _ _ _ c.add-3.new.lines.items _ _ _ (decimal c.args.offset) (placement (picture_in c.args.placement.now)) (waiting_words (squares_text stands seen))
    (c.add.ensures.items ∙ ap (λ (text : List ℕ). c.args.lines.now.items ++ text) at) c.add-2.ensures.items c.add_to.ensures.items c.add-3.ensures.items
    (c.add-4.ensures.items ∙ ap (λ (text : List ℕ). c.add-3.new.lines.items ++ text) at) c.add-5.ensures.items
    (c.add_waiting_words.ensures.told stands seen diff)
