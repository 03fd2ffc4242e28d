use Rattle.std.proofs.Common.{◌≡◌, ◌↔◌, IsTrue, List, ℕ, ap, ◌∙◌}
use Rattle.chess_rules.specs.declared.parts.Parts.{Parts}
use Rattle.chess_rules.specs.Board.{other}
use Rattle.settle_core.specs.Lost.{Loses}
use Rattle.settle_core.specs.Settler.{SettlerState, position_of}
use Rattle.settle_core.proofs.Steps.{elsewhere, last_is}
use Rattle.settle_core.proofs.settler.Settler.theirs_lost.Goals as goal

pub returns : goal.returns
returns c seen last =
    let at : c.self.inside.here.position ≡ position_of c.args.self.now = c.self.invariant.position ∙ ap position_of c.self.view_is in
    let shown : c.self.inside.picture ≡ seen = last_is c.self.inside.seen c.self.inside.picture seen (ap (λ (s : SettlerState). s.last) c.self.view_is ∙ last) in
    let L : Parts → List ℕ → Type 0 = λ p xs. IsTrue c.theirs_lost.result ↔ Loses p xs (other p.side) in
    elsewhere L _ _ _ _ at shown c.theirs_lost.ensures
