use Rattle.std.proofs.Common.{◌≡◌, ℕ, Some, slice_index, ap, sym, ◌∙◌, arith}
use Rattle.square_runs.specs.Keeping.{time_of}
use Rattle.square_runs.specs.Lasting.{earlier}
use Rattle.square_runs.specs.Squares.{first_of}
use Rattle.square_runs.proofs.Walking.{taken, none_left}
use Rattle.square_runs.proofs.runs.first_since.Goals as goal

pub left-preserved : goal.left-preserved
left-preserved c =
    let s : ℕ = c.first_square-square.result in
    let rest : ℕ = c.without-left.result in
    let out = c.without-left.ensures in
    ap (λ o. earlier o (first_of (time_of rest c.args.since.now))) c.earlier-first.ensures
    ∙ taken c.left.left rest s (λ k. Some (slice_index c.args.since.now k)) c.left.first
    (record { inside = c.first_square-square.ensures.range; set = c.first_square-square.ensures.set; cleared = out.cleared; others = out.others })
    ∙ c.left.invariant

pub returns : goal.returns
returns c =
    let none : c.left.left ≡ 0 = omega (arith, c.left-test.false) in
    sym (none_left (λ k. Some (slice_index c.args.since.now k)) c.left.left c.left.first none) ∙ c.left.invariant
