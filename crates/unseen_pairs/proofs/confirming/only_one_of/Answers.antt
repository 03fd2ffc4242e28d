use Prim.{search}
use Rattle.std.proofs.Common.{◌+◌, Option, IfSome, sym, subst, rules}
use Rattle.settle_core.specs.declared.plies.Seen.{Seen}
use Rattle.unseen_pairs.specs.declared.confirming.Confirmed.{Confirmed}
use Rattle.unseen_pairs.specs.Pairs.{GoesOn}
use Rattle.unseen_pairs.specs.Inside.Waiting.{FoundBelow}
use Rattle.std.proofs.lemmas.Bool.{both_ways}
use Rattle.unseen_pairs.proofs.Sequels.{found_all, found_first, found_again, found_two}
use Rattle.unseen_pairs.proofs.confirming.only_one_of.Goals.{in-None, in-Some-found+else-not-is_same}
use Rattle.unseen_pairs.proofs.confirming.only_one_of.Goals as goal

pub loop-candidate-preserved : goal.loop-candidate-preserved
loop-candidate-preserved c =
    let p = c.args.now.now in
    let cs = c.args.candidates.now in
    let seen = c.args.picture.now in
    let i = c.loop-candidate.candidate-index in
    let F : Option Confirmed → Type 0 = λ f. FoundBelow p cs seen (i + 1) f in
    let B : Option Confirmed → Type 0 = λ f. FoundBelow p cs seen i f in
    let H : Option Seen → Type 0 = λ f. IfSome f (GoesOn p c.candidate-item.result.after seen) in
    let goes = subst H c.in-Some.is c.in_ok-sequel.ensures.some in
    elim c.match-found.branch [
      | in-None w ↦
          subst F (sym w.found-is)
          (found_first p cs seen i _ c.loop-candidate-test.true c.candidate-item.is goes (subst B w.in-None.is c.loop-candidate.invariant))
      | in-Some-found+else-not-is_same w ↦
          let s = w.is_same.ensures in
          subst F (sym w.found-is)
          (found_again p cs seen i _ _ _ c.loop-candidate-test.true c.candidate-item.is goes (s.0 w.if-not-is_same.false) w.older.ensures (subst B w.in-Some-found.is c.loop-candidate.invariant))
    ]

pub returns-then-not-is_same-clause-some : goal.returns-then-not-is_same-clause-some
returns-then-not-is_same-clause-some c = search rules

pub returns-then-not-is_same-clause-none : goal.returns-then-not-is_same-clause-none
returns-then-not-is_same-clause-none c = λ any shown.
    let p = c.args.now.now in
    let cs = c.args.candidates.now in
    let seen = c.args.picture.now in
    let i = c.loop-candidate.candidate-index in
    let B : Option Confirmed → Type 0 = λ f. FoundBelow p cs seen i f in
    let H : Option Seen → Type 0 = λ f. IfSome f (GoesOn p c.candidate-item.result.after seen) in
    let goes = subst H c.in-Some.is c.in_ok-sequel.ensures.some in
    let s = c.is_same.ensures in
    found_two p cs seen i c.candidate-item.result _ _ c.loop-candidate-test.true c.candidate-item.is goes
    (λ e. both_ways _ c.if-not-is_same.true (s.1 e)) (subst B c.in-Some-found.is c.loop-candidate.invariant) any shown

pub returns-clause-none : goal.returns-clause-none
returns-clause-none c =
    found_all c.args.now.now c.args.candidates.now c.args.picture.now c.loop-candidate.candidate-index c.loop-candidate.found
    c.loop-candidate.auto.candidate-index-end c.loop-candidate-test.false c.loop-candidate.invariant
