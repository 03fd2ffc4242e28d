use Prim.{search}
use Rattle.std.proofs.Common.{true, sym, ◌∙◌, rules}
use Rattle.std.proofs.lemmas.Bool.{both_ways}
use Rattle.unseen_pairs.proofs.Aging.{none_between}
use Rattle.unseen_pairs.proofs.waiting.add_correcting.Goals as goal

pub returns-then-not-may_hide_two_before-clause-last : goal.returns-then-not-may_hide_two_before-clause-last
returns-then-not-may_hide_two_before-clause-last c = λ ply earlier last e v.
    let h = c.may_hide_two_before.ensures.last c.args.picture.now ply earlier last e in
    none_between true _ c.args.picture.now c.args.reading.now c.args.candidates.now.items v (λ m. both_ways _ c.if-not-may_hide_two_before.true (h.1 m))

pub returns-in_default-clause-last : goal.returns-in_default-clause-last
returns-in_default-clause-last c = λ ply earlier last e v. absurd (let same = sym c.in_default.is ∙ c.last_ply.ensures.last ply earlier e in let n : ⊥ = cc (same) in n)

pub returns-clause-last : goal.returns-clause-last
returns-clause-last c = search rules
