use Rattle.std.proofs.Common.{◌≡◌, ◌-◌, ◌∷◌, List, Some, length, reverse, sym, ap, subst, ◌∙◌}
use Rattle.std.proofs.lemmas.Option.{same_Some}
use Rattle.std.specs.List.{slice_get}
use Rattle.chess_rules.specs.declared.parts.Parts.{Parts}
use Rattle.settle_core.specs.declared.plies.Ply.{Ply}
use Rattle.settle_core.specs.Settling.{reached}
use Rattle.settle_core.specs.Folding.{moves_of}
use Rattle.settle_core.specs.Settler.{SettlerState}
use Rattle.settle_core.specs.Inside.Kept.{before_last, position_in}
use Rattle.settle_core.proofs.Steps.{last_from}
use Rattle.settle_core.proofs.settler.Settler.last_ply.Goals as goal

pub returns-clause-last : goal.returns-clause-last
returns-clause-last c ply earlier e =
    let turned : reverse c.self.inside.plies.items ≡ ply ∷ earlier = ap (λ (s : SettlerState). s.score.plies) c.self.view_is ∙ e in
    let before : c.in-Some.before.position ≡ reached c.self.inside.start (moves_of earlier) =
    same_Some _ _ (sym (ap position_in c.in-Some.is) ∙ c.self.invariant.before_is ∙ ap (λ (plies : List Ply). before_last c.self.inside.start (moves_of plies)) turned) in
    let V : List Ply → Type 0 = λ xs. Some c.in-Some-last.ply.now ≡ slice_get xs (length xs - 1) in
    let value : V c.self.inside.plies.items = subst V c.deref.ensures.value c.in-Some-last.ensures.value in
    ap (λ (p : Parts). Some (p, c.in-Some-last.ply.now)) (before ∙ ap (λ (s : SettlerState). reached s.start (moves_of earlier)) c.self.view_is)
    ∙ ap (λ (x : Ply). Some (reached c.args.self.now.start (moves_of earlier), x)) (last_from c.self.inside.plies.items c.in-Some-last.ply.now value earlier ply turned)
