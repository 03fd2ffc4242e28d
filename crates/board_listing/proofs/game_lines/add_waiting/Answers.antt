use Rattle.std.proofs.Common.{codes, decimal, append_assoc, ◌∙◌}
use Rattle.board_listing.specs.GameLines.{squares_text, waiting_words}
use Rattle.board_listing.proofs.SquareLemmas.{line_added}
use Rattle.board_listing.proofs.game_lines.add_waiting.Goals as goal

pub returns-clause-told : goal.returns-clause-told
returns-clause-told c stands seen diff =
    let words = waiting_words (squares_text stands seen) in
    line_added c.args.lines.now.items _ _ (decimal c.args.offset) (codes " ") words (codes "\n") c.add_offset.ensures.items
    (c.add_waiting_words.ensures.told stands seen diff ∙ append_assoc _ words (codes "\n"))
