-- Which changes of a game explain a picture of its board. Moves stand in their order.
use Rattle.std.specs.Prelude.{◌≡◌, ◌≤◌, ◌++◌, ℕ, List, [], ◌∷◌, Some, length, slice_get}
use Rattle.chess_rules.specs.declared.chess_move.Move.{Move}
use Rattle.chess_rules.specs.declared.parts.Parts.{Parts}
use Rattle.chess_rules.specs.Picture.{picture}
use Rattle.settle_core.specs.Settling.{Line, position_after}
use Rattle.going_back.specs.declared.fit.Coming.{Coming}
use Rattle.going_back.specs.declared.fit.Coming.TheVariants.{Nothing, One, Two}
use Rattle.going_back.specs.declared.fit.Fit.{Fit}

abbrev pub moves_in : Coming → List Move
moves_in Nothing = []
moves_in (One m) = m ∷ []
moves_in (Two two) = two.first ∷ two.second ∷ []

-- The moves are legal one after the other from this position, and lead exactly to the picture.
pub record LeadsTo (p : Parts) (seen : List ℕ) (line : List Move) : Type 0 where
  pub legal : Line p line
  pub shows : seen ≡ picture (position_after p line)

-- The first of these moves, if there is one, is not the first of those that went.
abbrev pub BeginsAnew : List Move → List Move → Type 0
BeginsAnew went line = (m : Move) → slice_get line 0 ≡ Some m → slice_get went 0 ≡ Some m → ⊥

-- Where these moves were made from the start, this change explains the picture: of the last moves so many go, at most two; then at
-- most two come, of which the first is another one than went; and they lead exactly to the picture.
pub record Fits (start : Parts) (moves : List Move) (seen : List ℕ) (fit : Fit) : Type 0 where
  pub stay : List Move
  pub went : List Move
  pub split : moves ≡ stay ++ went
  pub so_many : length went ≡ fit.gone
  pub few : fit.gone ≤ 2
  pub leads : LeadsTo (position_after start stay) seen (moves_in fit.coming)
  pub anew : BeginsAnew went (moves_in fit.coming)

-- This change explains the picture, and no other one does.
pub record IsOnlyFit (start : Parts) (moves : List Move) (seen : List ℕ) (fit : Fit) : Type 0 where
  pub fits : Fits start moves seen fit
  pub alone : (other : Fit) → Fits start moves seen other → other ≡ fit
