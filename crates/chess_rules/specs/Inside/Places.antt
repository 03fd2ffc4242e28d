-- How far a list of moves has come.
use Rattle.std.specs.Prelude.{ℕ, ◌+◌, ◌*◌, ◌<◌, ◌≤◌, List, Contains, AllPairs}
use Rattle.chess_rules.specs.declared.chess_move.Move.{Move}
use Rattle.chess_rules.specs.declared.parts.Parts.{Parts}
use Rattle.chess_rules.specs.Legal.{Legal}
use Rattle.chess_rules.specs.Moves.{promotion_place}

-- the place of a move in the order, where each square of arrival has five
abbrev pub place : Move → ℕ
place m = 5 * (64 * m.from + m.to) + promotion_place m.promotion

-- the legal moves at the places below n are listed
pub record ListsBelow (p : Parts) (moves : List Move) (n : ℕ) : Type 0 where
  pub sound : (m : Move) → Contains moves m → Legal p m × (place m < n)
  pub whole : (m : Move) → Legal p m → place m < n → Contains moves m
  pub ordered : AllPairs (λ a b. place a < place b) moves

-- no legal move has a place from low on and below high
abbrev pub HasNone : Parts → ℕ → ℕ → Type 0
HasNone p low high = (m : Move) → Legal p m → low ≤ place m → place m < high → ⊥

-- the first place of the moves between two squares
abbrev pub first_place : ℕ → ℕ → ℕ
first_place from to = 5 * (64 * from + to)
