use Rattle.std.proofs.Common.{◌+◌, ◌∙◌, ◌∷◌, sym, arith, List, ℕ, ap, take}
use Rattle.std.proofs.lemmas.List.{take_rest, take_all}
use Rattle.text_subcommands.specs.Words.{parts}
use Rattle.text_subcommands.proofs.PlayedLemmas.{no_blank_more, parts_at, parts_one}
use Rattle.text_subcommands.proofs.playing.first_part.Goals as goal

pub returns-then-is_blank-clause-parts : goal.returns-then-is_blank-clause-parts
returns-then-is_blank-clause-parts c =
    let bs = c.args.text.now in
    let i = c.loop-i.i in
    parts_at bs i (omega arith) c.loop-i.invariant (sym c.is_blank.ensures ∙ c.if-is_blank.true)
    ∙ ap (λ (x : List ℕ). take i bs ∷ parts x) (sym (take_rest bs (i + 1)))

pub loop-i-preserved : goal.loop-i-preserved
loop-i-preserved c = no_blank_more c.args.text.now c.loop-i.i (omega arith) c.loop-i.invariant (sym c.is_blank.ensures ∙ c.if-is_blank.false)

pub returns-clause-parts : goal.returns-clause-parts
returns-clause-parts c =
    let all = rw (take_all c.loop-i.i c.args.text.now (omega arith)) at c.loop-i.invariant in
    parts_one c.args.text.now all
