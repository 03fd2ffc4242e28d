use Rattle.std.proofs.Common.{refl}
use Rattle.std.proofs.lemmas.Bool.{iff_false}
use Rattle.chess_rules.proofs.moves.status_of.Goals as goal

pub returns-else-is_in_check-clause-checkmate : goal.returns-else-is_in_check-clause-checkmate
returns-else-is_in_check-clause-checkmate c = (λ e. absurd cc, λ mated. absurd (iff_false c.is_in_check.ensures c.if-is_in_check.false mated.1))

pub returns-else-is_in_check-clause-stalemate : goal.returns-else-is_in_check-clause-stalemate
returns-else-is_in_check-clause-stalemate c =
    (λ e. (λ m l. iff_false c.has_move.ensures c.if-has_move.false (m, l), iff_false c.is_in_check.ensures c.if-is_in_check.false), λ s. refl)
