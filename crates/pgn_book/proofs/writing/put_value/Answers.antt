use Rattle.std.proofs.Common.{◌≡◌, ◌+◌, ◌++◌, take, sym, ◌∙◌, arith, ap, ℕ, ◌∷◌, [], List, get_or, ◌<◌, length}
use Rattle.std.proofs.lemmas.List.{take_more, append-nil}
use Rattle.std.proofs.lemmas.List.Concat.{flat_map-append}
use Rattle.pgn_book.specs.Pgn.{escape, escaped}
use Rattle.pgn_book.proofs.Standing.{Adds-then, Adds-same}
use Rattle.pgn_book.proofs.writing.put_value.Goals as goal

pub loop-b-preserved : goal.loop-b-preserved
loop-b-preserved g c =
    let l = c.loop-b in
    let v = c.args.value.now in
    let lt : l.b-index < length v = omega arith in
    let b = get_or v l.b-index 0 in
    let more : escaped (take (l.b-index + 1) v) ≡ escaped (take l.b-index v) ++ escape b = ap escaped (take_more v l.b-index 0 lt) ∙ flat_map-append escape (take l.b-index v) (b ∷ []) ∙ ap (λ (x : List ℕ). escaped (take l.b-index v) ++ x) (append-nil (escape b)) in (
      c.put_escaped.ensures.column ∙ l.invariant.0,
      Adds-same _ _ _ _ c.args.at.now c.put_escaped.new.at (escaped (take l.b-index v) ++ escape (get_or v l.b-index 0)) _ (sym more)
          (Adds-then _ _ _ _ _ _ c.args.at.now l.at c.put_escaped.new.at (escaped (take l.b-index v)) (escape (get_or v l.b-index 0)) l.invariant.1 c.put_escaped.ensures.adds),
    )
