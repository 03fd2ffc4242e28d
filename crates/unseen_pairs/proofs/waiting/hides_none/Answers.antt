use Prim.{search}
use Rattle.std.proofs.Common.{◌≡◌, Bool, IsTrue, true, false, not, refl, subst, rules}
use Rattle.std.proofs.lemmas.Bool.{both_ways}
use Rattle.chess_rules.specs.Valid.{Valid}
use Rattle.unseen_pairs.proofs.Aging.{none_hidden, none_left}
use Rattle.unseen_pairs.proofs.waiting.hides_none.Goals as goal

pub returns-then-not-theirs_lost : goal.returns-then-not-theirs_lost
returns-then-not-theirs_lost c = λ t seen reading old last played waits.
    let valid : Valid c.args.settler.now.start = subst Valid c.start.ensures c.parts.ensures.valid in
    let l = c.theirs_lost.ensures seen last in
    none_left c.args.settler.now.start c.args.settler.now.score.plies seen reading old valid played waits (λ h. both_ways _ c.if-not-theirs_lost.true (l.1 h))

is_false : (b : Bool) → IsTrue (not b) → b ≡ false
is_false false t = refl
is_false true t = absurd (let never : ⊥ = cc in never)

pub returns : goal.returns
returns c = λ t seen reading old last played waits.
    let valid : Valid c.args.settler.now.start = subst Valid c.start.ensures c.parts.ensures.valid in
    let h = c.may_hide_two.ensures seen last in
    none_hidden c.args.settler.now.start c.args.settler.now.score.plies seen reading old valid played
    (λ m. both_ways _ c.if-may_hide_two.false (h.1 m))
    (λ ply earlier e m.
    let b = c.may_hide_two_before.ensures.last seen ply earlier last e in
    both_ways _ (is_false c.may_hide_two_before.result t) (b.1 m))

pub returns-then-may_hide_two : goal.returns-then-may_hide_two
returns-then-may_hide_two c = search rules
