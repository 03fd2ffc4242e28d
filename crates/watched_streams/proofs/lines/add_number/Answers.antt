use Prim.{search}
use Rattle.std.proofs.Common.{◌++◌, ◌∷◌, [], ◌+◌, ◌/◌, ◌%◌, sym, ◌∙◌, ap, arith, append_assoc, rules}
use Rattle.std.proofs.lemmas.Fmt.{decimal_digit, decimal_step}
use Rattle.watched_streams.proofs.lines.add_number.Goals as goal

pub returns-then-n-lt10-clause-items : goal.returns-then-n-lt10-clause-items
returns-then-n-lt10-clause-items c = c.push.ensures.items ∙ ap (λ text. c.args.lines.now.items ++ text) (sym (decimal_digit c.args.n (omega arith)))

pub returns-then-n-lt100-clause-items : goal.returns-then-n-lt100-clause-items
returns-then-n-lt100-clause-items c =
    let n = c.args.n in
    let two = decimal_step n (omega (arith, c.if-n-lt10.false)) (omega (arith, c.ranges.n.fits)) ∙ ap (λ text. text ++ (48 + n % 10) ∷ []) (decimal_digit (n / 10) (omega (arith, c.if-n-lt100.true))) in
    c.push-then-n-lt100-2.ensures.items ∙ ap (λ text. text ++ (48 + n % 10) ∷ []) c.push-then-n-lt100.ensures.items
    ∙ append_assoc c.args.lines.now.items ((48 + n / 10) ∷ []) ((48 + n % 10) ∷ [])
    ∙ ap (λ text. c.args.lines.now.items ++ text) (sym two)

pub returns-else-n-lt100-clause-items : goal.returns-else-n-lt100-clause-items
returns-else-n-lt100-clause-items c = search rules
