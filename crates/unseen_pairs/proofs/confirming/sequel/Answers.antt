use Rattle.std.proofs.Common.{◌↔◌, ℕ, List, IsTrue, subst}
use Rattle.std.proofs.lemmas.Bool.{both_ways}
use Rattle.chess_rules.specs.declared.parts.Parts.{Parts}
use Rattle.unseen_pairs.specs.Pairs.{ShowsNew}
use Rattle.unseen_pairs.proofs.Sequels.{none_follow, settled_none}
use Rattle.unseen_pairs.proofs.confirming.sequel.Goals as goal

pub returns-then-shows_king-clause-some : goal.returns-then-shows_king-clause-some
returns-then-shows_king-clause-some c =
    let now : Parts = c.args.now.now in
    let P : List ℕ → Type 0 = λ xs. IsTrue c.shows_new-puts.result ↔ ShowsNew now xs in
    c.going_on.ensures.some now c.args.candidate.now.after c.args.picture.now c.brings_new.ensures
    (subst P c.picture.ensures.shown c.shows_new-puts.ensures) c.in_ok-seen.ensures

pub returns-then-shows_king-clause-none : goal.returns-then-shows_king-clause-none
returns-then-shows_king-clause-none c =
    let now : Parts = c.args.now.now in
    let P : List ℕ → Type 0 = λ xs. IsTrue c.shows_new-puts.result ↔ ShowsNew now xs in
    none_follow now c.args.candidate.now c.args.picture.now c.going_on.result
    (c.going_on.ensures.none now c.args.candidate.now.after c.args.picture.now c.parts.ensures.valid c.brings_new.ensures
    (subst P c.picture.ensures.shown c.shows_new-puts.ensures) c.in_ok-seen.ensures)

pub returns-then-brings_new-clause-some : goal.returns-then-brings_new-clause-some
returns-then-brings_new-clause-some c = (c.in-Some.ensures.some, c.brings_new-2.ensures.0 c.if-brings_new.true)

pub returns-else-brings_new-clause-none : goal.returns-else-brings_new-clause-none
returns-else-brings_new-clause-none c =
    settled_none c.args.now.now c.args.candidate.now c.args.picture.now
    (λ k. both_ways _ c.if-shows_king.false (c.shows_king.ensures.1 k))
    (λ b. both_ways _ c.if-brings_new.false (c.brings_new-2.ensures.1 b))
