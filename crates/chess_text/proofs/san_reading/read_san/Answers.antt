use Rattle.std.proofs.Common.{◌≡◌, ◌≤◌, None, Some, sym, ap, ◌∙◌, arith}
use borrow.Author.Count.{below_more}
use Rattle.chess_rules.specs.declared.parts.Parts.{Parts}
use Rattle.chess_text.specs.Inside.Aim.{aim_at}
use Rattle.chess_text.proofs.Answering.{aims_none, none_from, ok_is, err_is}
use Rattle.chess_text.proofs.Plain.{texts_plain}
use Rattle.chess_text.proofs.san_reading.read_san.Goals as goal

pub returns-then-text-gt-MOST_BYTES-clause-named : goal.returns-then-text-gt-MOST_BYTES-clause-named
returns-then-text-gt-MOST_BYTES-clause-named c =
    let p = c.args.p.now in
    let text = c.args.text.now in
    err_is p text _ (λ m l s. let short = (texts_plain p m text c.parts.ensures.valid l s).high in omega arith)

pub returns-in_default-clause-named : goal.returns-in_default-clause-named
returns-in_default-clause-named c =
    let text = c.args.text.now in
    let none : aim_at c.args.p.now.side text ≡ None =
    ap (λ (q : Parts). aim_at q.side text) (sym c.parts.ensures.same) ∙ sym c.aim_of.ensures ∙ c.in_default.is in
    err_is c.args.p.now text _ (aims_none c.args.p.now text c.parts.ensures.valid none)

pub returns-in-Some-named_from-clause-named : goal.returns-in-Some-named_from-clause-named
returns-in-Some-named_from-clause-named c =
    ok_is c.args.p.now c.args.text.now c.in-Some-named_from.m c.parts.ensures.valid c.in-Some-named_from.ensures.legal c.in-Some-named_from.ensures.named

pub loop-square-preserved : goal.loop-square-preserved
loop-square-preserved c = below_more _ _ c.loop-square.invariant c.in_default-named_from.ensures.none

pub returns-clause-named : goal.returns-clause-named
returns-clause-named c =
    let text = c.args.text.now in
    let some : aim_at c.args.p.now.side text ≡ Some c.in-Some.aim =
    ap (λ (q : Parts). aim_at q.side text) (sym c.parts.ensures.same) ∙ sym c.aim_of.ensures ∙ c.in-Some.is in
    let end : 64 ≤ c.loop-square.square = c.loop-square-test.false in
    err_is c.args.p.now text _
    (none_from c.args.p.now text c.in-Some.aim c.parts.ensures.valid some (λ s l k q t. c.loop-square.invariant s (omega arith) k q t))
