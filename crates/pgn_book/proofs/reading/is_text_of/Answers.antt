use Rattle.std.proofs.Common.{◌≡◌, ◌++◌, ℕ, List, ap, sym, ◌∙◌, subst}
use Rattle.watched_streams.specs.Watch.{inner_of}
use Rattle.pgn_book.specs.Pgn.{Pgn}
use Rattle.pgn_book.proofs.OneText.{one_text}
use Rattle.pgn_book.proofs.reading.is_text_of.Goals as goal

pub returns-in-Ok-clause-ok : goal.returns-in-Ok-clause-ok
returns-in-Ok-clause-ok c =
    let game = c.args.game.now in
    let wrote = c.in-Ok.ensures.ok in
    let at_first : (x : List ℕ) → (inner_of c.new-written.result).items ++ x ≡ x = λ x. ap (λ v. v.items ++ x) c.new-written.ensures.inner ∙ ap (λ (ys : List ℕ). ys ++ x) c.new.ensures.items in
    let whole : c.as_slice.result.now ≡ wrote.0 = c.as_slice.ensures.value ∙ ap (λ v. v.items) c.inner.ensures ∙ wrote.2 ∙ at_first wrote.0 in (
      λ same. let P : List ℕ → Type 0 = λ x. Pgn game x in subst P (sym whole ∙ c.same_bytes.ensures.0 same) wrote.1,
      λ is. c.same_bytes.ensures.1 (whole ∙ one_text c.texts_are_plain.ensures c.moves_tell_texts.ensures game wrote.0 c.args.text.now wrote.1 is),
    )
