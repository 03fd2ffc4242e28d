use Prim.{search}
use Rattle.std.proofs.Common.{◌≡◌, ◌++◌, ◌∙◌, ℕ, List, ap, codes, refl, subst, rules}
use Rattle.std.specs.Prelude.{decimal}
use Rattle.watched_streams.specs.Watch.{inner_of, has_failed}
use Rattle.text_subcommands.specs.Messages.{Says}
use Rattle.text_subcommands.specs.Played.{word_message}
use Rattle.text_subcommands.proofs.playing.refused_move.Goals as goal

pub returns-clause-says : goal.returns-clause-says
returns-clause-says g c =
    let front : c.add-2.new.lines.items ≡ codes "move " ++ decimal c.args.number =
    c.add-2.ensures.items ∙ rw (c.add.ensures.items, c.new-line.ensures, c.as_bytes.ensures.value, c.format.ensures.text) refl in
    let is : c.as_slice.result.now ≡ word_message c.args.number =
    c.as_slice.ensures.value ∙ c.add-3.ensures.items ∙ ap (λ (x : List ℕ). x ++ codes ": not a legal move\n") front in
    let P : List ℕ → Type 0 = λ bs. Says (g.E.Write.contents (inner_of c.args.err.now)) (g.E.Write.contents (inner_of c.refused.new.err)) (has_failed c.refused.new.err) bs in
    subst P is c.refused.ensures.says

pub returns-clause-status : goal.returns-clause-status
returns-clause-status g c = search rules
