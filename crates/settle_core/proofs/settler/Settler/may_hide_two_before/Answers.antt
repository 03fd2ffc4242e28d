use Rattle.std.proofs.Common.{◌≡◌, ◌∷◌, ◌↔◌, IsTrue, List, ℕ, reverse, sym, ap, ◌∙◌}
use Rattle.std.proofs.lemmas.Option.{same_Some}
use Rattle.chess_rules.specs.declared.parts.Parts.{Parts}
use Rattle.settle_core.specs.declared.plies.Ply.{Ply}
use Rattle.settle_core.specs.Folding.{moves_of}
use Rattle.settle_core.specs.Inside.Kept.{before_last, position_in}
use Rattle.settle_core.specs.Lost.{MayHideTwo}
use Rattle.settle_core.specs.Settler.{SettlerState}
use Rattle.settle_core.specs.Settling.{reached}
use Rattle.settle_core.proofs.Steps.{elsewhere, last_is}
use Rattle.settle_core.proofs.settler.Settler.may_hide_two_before.Goals as goal

pub returns-clause-last : goal.returns-clause-last
returns-clause-last c seen ply earlier last e =
    let turned : reverse c.self.inside.plies.items ≡ ply ∷ earlier = ap (λ (s : SettlerState). s.score.plies) c.self.view_is ∙ e in
    let before : c.in-Some.before.position ≡ reached c.self.inside.start (moves_of earlier) =
    same_Some _ _ (sym (ap position_in c.in-Some.is) ∙ c.self.invariant.before_is ∙ ap (λ (plies : List Ply). before_last c.self.inside.start (moves_of plies)) turned) in
    let at : c.in-Some.before.position ≡ reached c.args.self.now.start (moves_of earlier) = before ∙ ap (λ (s : SettlerState). reached s.start (moves_of earlier)) c.self.view_is in
    let shown : c.self.inside.picture ≡ seen = last_is c.self.inside.seen c.self.inside.picture seen (ap (λ (s : SettlerState). s.last) c.self.view_is ∙ last) in
    let L : Parts → List ℕ → Type 0 = λ p xs. IsTrue c.may_hide_two.result ↔ MayHideTwo p xs in
    elsewhere L _ _ _ _ at shown c.may_hide_two.ensures
