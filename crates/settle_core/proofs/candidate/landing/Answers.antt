use Rattle.std.proofs.Common.{◌≡◌, ℕ, false, ap, ◌∙◌, arith}
use Rattle.std.proofs.lemmas.Nat.Bits.{bit_at-zero}
use Rattle.std.specs.Int.{bit_at}
use Rattle.settle_core.specs.Masks.{IsLanded}
use Rattle.settle_core.proofs.Visiting.{not_landed}
use Rattle.settle_core.proofs.candidate.landing.Goals as goal

pub returns-then-squares-gt0-clause-some : goal.returns-then-squares-gt0-clause-some
returns-then-squares-gt0-clause-some c =
    let is : IsLanded c.landed-squares.result c.args.before.now c.args.after.now = c.landed-squares.ensures c.args.before.now c.args.after.now c.requires.differ c.requires.shown in
    let at = is c.first_square.result c.first_square.ensures.range in
    at.0 c.first_square.ensures.set

pub returns-else-squares-gt0-clause-none : goal.returns-else-squares-gt0-clause-none
returns-else-squares-gt0-clause-none c s low =
    let none : c.landed-squares.result ≡ 0 = let f = c.if-squares-gt0.false in omega arith in
    not_landed false c.landed-squares.result c.args.before.now c.args.after.now s
    (c.landed-squares.ensures c.args.before.now c.args.after.now c.requires.differ c.requires.shown) low
    (ap (λ (n : ℕ). bit_at n s) none ∙ bit_at-zero s)
