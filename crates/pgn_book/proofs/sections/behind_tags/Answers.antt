use Rattle.std.proofs.Common.{◌<◌, ◌+◌, ◌∙◌, ℕ, List, ap, arith, drop, sym, length}
use Rattle.std.proofs.lemmas.List.{at_drop_more}
use Rattle.chess_game.specs.declared.values.Tag.{Tag}
use Rattle.chess_game.specs.declared.values.Tag.TheVariants.{Event}
use Rattle.chess_game.specs.TagNames.{all_tags}
use Rattle.pgn_book.specs.Inside.Parse.{behind_lines, next_line, value_part}
use Rattle.pgn_book.proofs.sections.behind_tags.Goals as goal

pub loop-tag-preserved : goal.loop-tag-preserved
loop-tag-preserved c =
    let l = c.loop-tag in
    let lt : l.tag-index < length all_tags = omega arith in
    let value = c.value_of.ensures ∙ ap (λ (n : List ℕ). value_part n l.rest.now) c.name.ensures.name in
    let next = c.next_line-rest.ensures ∙ ap next_line value in
    ap (behind_lines (drop (l.tag-index + 1) all_tags)) next
    ∙ sym (at_drop_more (λ (tags : List Tag). behind_lines tags l.rest.now) all_tags l.tag-index Event lt) ∙ l.invariant
