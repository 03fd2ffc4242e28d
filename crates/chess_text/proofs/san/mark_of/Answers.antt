use Rattle.chess_text.proofs.san.mark_of.Goals as goal

pub returns-in_default : goal.returns-in_default
returns-in_default c = (c.in_check.ensures.0 c.if-not-in_check.false, λ mated. c.in_default.not-Checkmate (c.status.ensures.checkmate.1 mated))

pub returns-in-Checkmate : goal.returns-in-Checkmate
returns-in-Checkmate c = c.status.ensures.checkmate.0 c.in-Checkmate.is
