use Rattle.std.proofs.Common.{◌∙◌, sym, ap, map}
use Rattle.chess_rules.specs.Picture.{code}
use Rattle.chess_text.specs.Placement.{placement}
use Rattle.chess_text.proofs.Codes.{picture_back, board_picture}
use Rattle.chess_text.proofs.placement.read_placement.Goals as goal

pub returns-in_default-clause-none : goal.returns-in_default-clause-none
returns-in_default-clause-none c = λ b l e. c.in_default.ensures.none (map code b) (board_picture b l) e

pub returns-clause-some : goal.returns-clause-some
returns-clause-some c =
    c.in-Some.ensures.some.1 ∙ ap placement (sym (ap (map code) c.board_of.ensures ∙ picture_back c.in-Some.picture c.in-Some.ensures.some.0))
