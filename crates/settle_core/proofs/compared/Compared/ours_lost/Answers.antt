use Rattle.settle_core.proofs.Gone.{loses_found}
use Rattle.settle_core.proofs.compared.Compared.ours_lost.Goals as goal

pub returns : goal.returns
returns c =
    let met = c.meets.ensures in
    let found = loses_found c.args.self.now.position c.args.self.now.picture c.args.seen.now c.args.self.now.position.side c.args.self.now.mask c.args.self.now.ours
    c.parts.ensures.valid c.requires.picture c.requires.mask c.requires.ours in
    (λ t. found.0 (met.0 t), λ h. met.1 (found.1 h))
