use Rattle.std.proofs.Common.{◌≡◌, [], ap, sym, arith, ◌∙◌}
use Rattle.std.proofs.lemmas.Bool.Decides.{nat_tests}
use Rattle.unseen_pairs.specs.Recoverer.{RecovererState}
use Rattle.unseen_pairs.proofs.Telling.{none_long, none_only}
use Rattle.unseen_pairs.proofs.recoverer.Recoverer.wait_for.Goals as goal

pub returns-then-is_empty : goal.returns-then-is_empty
returns-then-is_empty c = λ start past written w.
    let n : c.self.inside.candidates.len ≡ 0 = grind (arith, nat_tests) in
    let empty : c.self.inside.candidates.items ≡ [] = none_long c.self.inside.candidates.items (sym (c.self.inside.candidates.ok).0 ∙ n) in
    let here : c.args.self.now.candidates ≡ [] = ap (λ (d : RecovererState). d.candidates) (sym c.self.view_is) ∙ empty in
    c.in_ok-keep.ensures start past written w (none_only _ c.args.self.now.candidates c.args.picture.now here)
