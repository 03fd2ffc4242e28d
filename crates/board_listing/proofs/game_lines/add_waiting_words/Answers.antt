use Rattle.std.proofs.Common.{◌++◌, codes, sym, ap, append_assoc, ◌∙◌, subst, arith}
use Rattle.settle_core.specs.Masks.{IsDiff}
use Rattle.board_listing.specs.GameLines.{squares_text, waiting_words}
use Rattle.board_listing.proofs.SquareLemmas.{more_added, no_square, some_waiting}
use Rattle.board_listing.proofs.game_lines.add_waiting_words.Goals as goal

pub returns-then-differs-eq0-clause-told : goal.returns-then-differs-eq0-clause-told
returns-then-differs-eq0-clause-told c stands seen diff =
    let front = c.args.lines.now.items in
    let none = no_square stands seen (subst (λ mask. IsDiff mask stands seen) c.if-differs-eq0.true diff) in
    c.add.ensures.items ∙ sym (append_assoc front (codes "agrees") (codes "\n")) ∙ ap (λ text. front ++ waiting_words text ++ codes "\n") (sym none)

pub returns-else-differs-eq0-clause-told : goal.returns-else-differs-eq0-clause-told
returns-else-differs-eq0-clause-told c stands seen diff =
    let front = c.args.lines.now.items in
    let words = more_added _ _ _ (codes "differs") (squares_text stands seen) c.add-else-differs-eq0.ensures.items (c.add_squares.ensures.items stands seen diff) in
    c.add-else-differs-eq0-2.ensures.items ∙ ap (λ text. text ++ codes "\n") words
    ∙ ap (λ words. front ++ words ++ codes "\n") (sym (some_waiting c.args.differs stands seen c.ranges.differs.fits (omega (arith, c.if-differs-eq0.false)) diff))
