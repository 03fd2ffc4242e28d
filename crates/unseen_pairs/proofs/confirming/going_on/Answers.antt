use Prim.{search}
use Rattle.std.proofs.Common.{[], subst, rules}
use Rattle.std.proofs.lemmas.Bool.{both_ways}
use Rattle.chess_rules.specs.Picture.{picture}
use Rattle.unseen_pairs.specs.Pairs.{BringsNew, ShowsNew}
use Rattle.settle_core.specs.declared.plies.Seen.{Seen}
use Rattle.settle_core.specs.Folding.{SeenAs}
use Rattle.unseen_pairs.proofs.Sequels.{moved_none, sign_none, waits_none}
use Rattle.unseen_pairs.proofs.confirming.going_on.Goals as goal

pub returns-in-Waits-clause-some : goal.returns-in-Waits-clause-some
returns-in-Waits-clause-some c = search rules

pub returns-in-Moved-2-clause-none : goal.returns-in-Moved-2-clause-none
returns-in-Moved-2-clause-none c = λ now p seen v brings puts h a g.
    let S : Seen → Type 0 = λ x. SeenAs p [] seen x in
    let none : ¬ BringsNew now p seen = λ t. both_ways _ c.if-brings.false (brings.1 t) in
    moved_none now p seen c.in-Moved-2.field-0 v none (subst S c.in-Moved-2.is h) a g

pub returns-in-Sign-2-clause-none : goal.returns-in-Sign-2-clause-none
returns-in-Sign-2-clause-none c = λ now p seen v brings puts h a g.
    let S : Seen → Type 0 = λ x. SeenAs p [] seen x in
    let none : ¬ ShowsNew now (picture p) = λ t. both_ways _ c.if-puts.false (puts.1 t) in
    sign_none now p seen c.in-Sign-2.field-0 v none (subst S c.in-Sign-2.is h) a g

pub returns-in-Waits-clause-none : goal.returns-in-Waits-clause-none
returns-in-Waits-clause-none c = λ now p seen v brings puts h a g.
    let S : Seen → Type 0 = λ x. SeenAs p [] seen x in
    waits_none now p seen (subst S c.in-Waits.is h) a g
