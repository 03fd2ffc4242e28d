use Rattle.std.proofs.Common.{None, sym, ◌∙◌, arith, refl}
use Rattle.std.proofs.lemmas.List.{same_lists, get_or_default}
use Rattle.pgn_book.proofs.parts.same_board.Goals as goal

pub returns : goal.returns
returns c =
    let a = c.args.a.now in
    let b = c.args.b.now in
    let left = c.told-a in
    let right = c.told-b in (
      λ _. same_lists a b (omega (arith, left, right)) (λ k d lt.
          get_or_default a k d None lt ∙ c.loop-square.invariant k (omega (arith, lt, left)) ∙ sym (get_or_default b k d None (omega (arith, lt, left, right)))),
      λ _. refl,
    )
