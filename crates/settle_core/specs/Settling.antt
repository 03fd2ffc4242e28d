-- The move that a picture settles.
use Rattle.std.specs.Prelude.{◌≡◌, ℕ, List, [], ◌∷◌}
use Rattle.chess_rules.specs.declared.chess_move.Move.{Move}
use Rattle.chess_rules.specs.declared.parts.Parts.{Parts}
use Rattle.chess_rules.specs.After.{after}
use Rattle.chess_rules.specs.Legal.{Legal}
use Rattle.chess_rules.specs.Picture.{picture}

-- The picture is that of the position after this legal move, and after no other.
pub record Settles (p : Parts) (seen : List ℕ) (m : Move) : Type 0 where
  pub legal : Legal p m
  pub shows : seen ≡ picture (after p m)
  pub alone : (n : Move) → Legal p n → seen ≡ picture (after p n) → n ≡ m

-- the position after moves, of which the latest comes first
abbrev pub reached : Parts → List Move → Parts
reached start [] = start
reached start (m ∷ earlier) = after (reached start earlier) m

-- the position after moves, in their order
abbrev pub position_after : Parts → List Move → Parts
position_after start [] = start
position_after start (m ∷ moves) = position_after (after start m) moves

-- Each of the moves, of which the latest comes first, is legal in the position after those before it.
abbrev pub Played : Parts → List Move → Type 0
Played start [] = Unit {0}
Played start (m ∷ earlier) = Legal (reached start earlier) m × Played start earlier

-- Each of the moves, in their order, is legal in the position after those before it.
abbrev pub Line : Parts → List Move → Type 0
Line start [] = Unit {0}
Line start (m ∷ moves) = Legal start m × Line (after start m) moves
