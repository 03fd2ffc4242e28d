use Rattle.std.proofs.Common.{OnErr, subst}
use Rattle.chess_rules.specs.declared.chess_move.Move.{Move}
use Rattle.chess_rules.specs.declared.parts.Parts.{Parts}
use Rattle.chess_rules.specs.Legal.{Legal}
use Rattle.chess_rules.proofs.position.Position.legal_moves.Goals as goal

pub returns-clause-memory : goal.returns-clause-memory
returns-clause-memory c =
    let P : Parts → Type 0 = λ p. OnErr c.legal_moves_in.result ((m : Move) × Legal p m) in
    subst P c.self.view_is c.legal_moves_in.ensures.memory
