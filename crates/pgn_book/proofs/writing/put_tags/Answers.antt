use Rattle.std.proofs.Common.{◌≡◌, ◌<◌, ◌+◌, ◌++◌, ◌∙◌, ◌∷◌, [], ℕ, List, ap, arith, get_or, sym, take, length}
use Rattle.std.proofs.lemmas.List.{take_more, append-nil}
use Rattle.std.proofs.lemmas.List.Concat.{flat_map-append}
use Rattle.chess_game.specs.declared.values.Tag.{Tag}
use Rattle.chess_game.specs.declared.values.Tag.TheVariants.{Event}
use Rattle.chess_game.specs.TagNames.{all_tags, tag_name}
use Rattle.chess_game.specs.Values.{value_of}
use Rattle.pgn_book.specs.Pgn.{tag_line, tag_lines}
use Rattle.pgn_book.proofs.Standing.{Adds-then, Adds-same}
use Rattle.pgn_book.proofs.writing.put_tags.Goals as goal

pub loop-tag-preserved : goal.loop-tag-preserved
loop-tag-preserved g c =
    let l = c.loop-tag in
    let lt : l.tag-index < length all_tags = omega arith in
    let values = c.args.tags.now in
    let tag = get_or all_tags l.tag-index Event in
    let lines = tag_lines values (take l.tag-index all_tags) in
    let line = tag_line (tag_name tag) (value_of tag values) in
    let more : tag_lines values (take (l.tag-index + 1) all_tags) ≡ lines ++ line =
    ap (tag_lines values) (take_more all_tags l.tag-index Event lt)
    ∙ flat_map-append (λ (t : Tag). tag_line (tag_name t) (value_of t values)) (take l.tag-index all_tags) (tag ∷ [])
    ∙ ap (λ (x : List ℕ). lines ++ x) (append-nil line) in
    let same = ap (λ (name : List ℕ). tag_line name c.get.result.now) c.name.ensures.name ∙ ap (tag_line (tag_name tag)) c.get.ensures.value in
    let one = Adds-same _ _ _ _ l.at c.put_tag.new.at _ line same c.put_tag.ensures.adds in (
      c.put_tag.ensures.column ∙ l.invariant.0,
      Adds-same _ _ _ _ c.args.at.now c.put_tag.new.at (lines ++ line) _ (sym more) (Adds-then _ _ _ _ _ _ c.args.at.now l.at c.put_tag.new.at lines line l.invariant.1 one),
    )
