use Rattle.std.proofs.Common.{◌≡◌, ◌<◌, ◌+◌, ◌∙◌, [], ℕ, false, List, ap, arith, drop, get_or, subst, sym, length}
use Rattle.std.proofs.lemmas.List.{drop_all, drop_more}
use Rattle.chess_game.specs.declared.values.Tag.{Tag}
use Rattle.chess_game.specs.declared.values.Tag.TheVariants.{Event}
use Rattle.chess_game.specs.TagNames.{all_tags}
use Rattle.chess_game.specs.Values.{IsValue, with_value}
use Rattle.pgn_book.specs.Inside.Parse.{next_line, value_at, value_part}
use Rattle.pgn_book.proofs.TagsRead.{Reads, fit_next, reads_next}
use Rattle.pgn_book.proofs.reading.read_tags.Goals as goal

pub returns-in-Err : goal.returns-in-Err
returns-in-Err c = λ values all have.
    let l = c.loop-tag in
    let lt : l.tag-index < length all_tags = omega arith in
    let tag = get_or all_tags l.tag-index Event in
    let left = drop (l.tag-index + 1) all_tags in
    let R : List Tag → Type 0 = λ tags. Reads values tags l.rest.now l.tags in
    let reads = subst R (drop_more all_tags l.tag-index Event lt) (l.invariant values all have) in
    let value = c.value_of-value.ensures ∙ ap (λ (n : List ℕ). value_part n l.rest.now) c.name.ensures.name in
    let V : List ℕ → Type 0 = λ bytes. IsValue tag (value_at false bytes) in
    c.in-Err.ensures (subst V (sym value) (fit_next values tag left l.rest.now all reads.have))

pub loop-tag-preserved : goal.loop-tag-preserved
loop-tag-preserved c = λ values all have.
    let l = c.loop-tag in
    let lt : l.tag-index < length all_tags = omega arith in
    let tag = get_or all_tags l.tag-index Event in
    let left = drop (l.tag-index + 1) all_tags in
    let R : List Tag → Type 0 = λ tags. Reads values tags l.rest.now l.tags in
    let reads = subst R (drop_more all_tags l.tag-index Event lt) (l.invariant values all have) in
    let value = c.value_of-value.ensures ∙ ap (λ (n : List ℕ). value_part n l.rest.now) c.name.ensures.name in
    let V : List ℕ → Type 0 = λ bytes. IsValue tag (value_at false bytes) in
    let set = c.in-Ok.ensures (subst V (sym value) (fit_next values tag left l.rest.now all reads.have))
    ∙ ap (λ (bytes : List ℕ). with_value tag (value_at false bytes) l.tags) value in
    let next = c.next_line-rest.ensures ∙ ap next_line value in
    let N : List ℕ → Type 0 = λ rest. Reads values left rest c.read_tag.new.tags in
    subst N (sym next) (reads_next values tag left l.rest.now l.tags c.read_tag.new.tags reads set)

pub returns : goal.returns
returns c = λ values all have.
    let l = c.loop-tag in
    let none : drop l.tag-index all_tags ≡ [] = drop_all l.tag-index all_tags (omega arith) in
    let R : List Tag → Type 0 = λ tags. Reads values tags l.rest.now l.tags in
    (subst R none (l.invariant values all have)).gives
