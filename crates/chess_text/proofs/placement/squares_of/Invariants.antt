use Rattle.std.proofs.Common.{◌≡◌, take}
use Rattle.chess_text.specs.Placement.{squares}
use Rattle.chess_text.proofs.placement.squares_of.Given as goal

abbrev pub invariant-loop-b : goal.invariant-loop-b
invariant-loop-b l = l.out.items ≡ squares (take l.b-index l.text)
