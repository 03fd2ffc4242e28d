-- The legal moves of a position in order.
use Rattle.std.specs.Prelude.{◌≡◌, ◌⊎◌, ℕ, ◌<◌, ◌↔◌, List, Option, Some, None, Contains, AllPairs}
use Rattle.chess_rules.specs.declared.pieces.Kind.{Kind}
use Rattle.chess_rules.specs.declared.pieces.Kind.TheVariants.{Pawn, Rook, Knight, Bishop, King, Queen}
use Rattle.chess_rules.specs.declared.chess_move.Move.{Move}
use Rattle.chess_rules.specs.declared.parts.Parts.{Parts}
use Rattle.chess_rules.specs.Legal.{Legal}

-- The order of promotions: none, queen, rook, bishop, knight. No legal move has a later one.
abbrev pub promotion_place : Option Kind → ℕ
promotion_place None = 0
promotion_place (Some Queen) = 1
promotion_place (Some Rook) = 2
promotion_place (Some Bishop) = 3
promotion_place (Some Knight) = 4
promotion_place (Some Pawn) = 5
promotion_place (Some King) = 6

-- The one move stands before the other: by the square that it leaves, then by the square of arrival, then by the
-- promotion.
abbrev pub Precedes : Move → Move → Type 0
Precedes m n =
    (m.from < n.from)
    ⊎ ((m.from ≡ n.from)
    × ((m.to < n.to) ⊎ ((m.to ≡ n.to) × (promotion_place m.promotion < promotion_place n.promotion))))

-- These are the legal moves, each once, in order.
pub record ListsLegal (p : Parts) (moves : List Move) : Type 0 where
  pub each : (m : Move) → Contains moves m ↔ Legal p m
  pub ordered : AllPairs Precedes moves
