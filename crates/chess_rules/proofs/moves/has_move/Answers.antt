use Rattle.std.proofs.Common.{arith}
use Rattle.chess_rules.proofs.Listing.{none_all}
use Rattle.chess_rules.proofs.moves.has_move.Goals as goal

pub returns : goal.returns
returns c = (
  λ t. absurd (cc),
  λ h.
      absurd
      (none_all c.args.parts.now c.requires.squares (λ m l low high. c.loop-from.invariant m l low (omega arith)) h.0 h.1),
)
