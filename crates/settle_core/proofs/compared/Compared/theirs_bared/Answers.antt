use Rattle.chess_rules.specs.Board.{other}
use Rattle.settle_core.proofs.Gone.{bares_found}
use Rattle.settle_core.proofs.compared.Compared.theirs_bared.Goals as goal

pub returns : goal.returns
returns c =
    let more = c.exceeds.ensures in
    let found = bares_found c.args.self.now.position c.args.self.now.picture c.args.seen.now (other c.args.self.now.position.side) c.args.shown c.args.self.now.theirs
    c.parts.ensures.valid c.requires.compared.picture c.requires.shown c.requires.compared.theirs in
    (λ t. found.0 (more.0 t), λ h. more.1 (found.1 h))
