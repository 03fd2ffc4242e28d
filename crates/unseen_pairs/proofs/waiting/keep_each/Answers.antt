use Rattle.std.proofs.Common.{◌≡◌, ℕ, ◌+◌, ◌-◌, subst, arith}
use Rattle.unseen_pairs.specs.Inside.Waiting.{KeptFrom}
use Rattle.unseen_pairs.proofs.Aging.{kept_all, kept_more}
use Rattle.unseen_pairs.proofs.waiting.keep_each.Goals as goal

pub places-preserved : goal.places-preserved
places-preserved c =
    let now = c.args.now.now in
    let seen = c.args.picture.now in
    let old = c.args.candidates.now.items in
    let K : ℕ → Type 0 = λ n. KeptFrom now seen old n c.places.candidates.items in
    let one : c.places.rest ≡ c.places.rest - 1 + 1 = let some = c.places-test.true in omega arith in
    kept_more now seen old c.places.candidates.items c.keep_at.new.candidates.items (c.places.rest - 1)
    (subst K one c.places.invariant) (c.keep_at.ensures now c.picture-before.ensures.shown)

pub returns : goal.returns
returns c =
    kept_all c.args.now.now c.args.picture.now c.args.candidates.now.items c.places.rest c.places.candidates.items
    (let over = c.places-test.false in omega arith) c.places.invariant
