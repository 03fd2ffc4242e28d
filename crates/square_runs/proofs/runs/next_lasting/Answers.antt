use Rattle.std.proofs.Common.{◌≡◌, ℕ, Some, slice_index, ap, sym, ◌∙◌, arith}
use Rattle.square_runs.specs.Lasting.{earlier, will_have_lasted}
use Rattle.square_runs.specs.Squares.{first_of}
use Rattle.square_runs.proofs.Walking.{among, lasting_among, taken, none_left}
use Rattle.square_runs.proofs.runs.next_lasting.Goals as goal

pub left-preserved : goal.left-preserved
left-preserved c =
    let s : ℕ = c.first_square-square.result in
    let rest : ℕ = c.without-left.result in
    let out = c.without-left.ensures in
    ap (λ o. earlier o (first_of (among rest (λ k. will_have_lasted c.args.span c.args.now (Some (slice_index c.args.since.now k)))))) c.sooner-next.ensures.is
    ∙ taken c.left.left rest s (λ k. will_have_lasted c.args.span c.args.now (Some (slice_index c.args.since.now k))) c.left.next
    (record { inside = c.first_square-square.ensures.range; set = c.first_square-square.ensures.set; cleared = out.cleared; others = out.others })
    ∙ c.left.invariant

pub returns : goal.returns
returns c =
    let none : c.left.left ≡ 0 = omega (arith, c.left-test.false) in
    sym (none_left (λ k. will_have_lasted c.args.span c.args.now (Some (slice_index c.args.since.now k))) c.left.left c.left.next none)
    ∙ c.left.invariant
    ∙ sym (lasting_among c.args.last c.args.since.now c.args.span c.args.now)
