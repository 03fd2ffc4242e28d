-- With which plies a pair may begin.
use Rattle.std.specs.Prelude.{◌≡◌, ◌≢◌, ◌<◌, ◌⊎◌, ℕ, List, Option, None, Contains, true, slice_index}
use Rattle.std.specs.Int.{bit_at}
use Rattle.chess_rules.specs.declared.pieces.Kind.{Kind}
use Rattle.chess_rules.specs.declared.pieces.Kind.TheVariants.{Pawn}
use Rattle.chess_rules.specs.Board.{Ahead, forward, on, other, piece_of, row, second_row}
use Rattle.chess_rules.specs.Legal.{Legal}
use Rattle.chess_rules.specs.Picture.{code_of_piece, picture}
use Rattle.settle_core.specs.Candidate.{is_owned_code}
use Rattle.chess_rules.specs.declared.chess_move.Move.{Move}
use Rattle.chess_rules.specs.declared.parts.Parts.{Parts}
use Rattle.unseen_pairs.specs.Pairs.{IsAfterTwo}

-- The picture shows a piece on this square, and not what the position has there.
pub record LandsAt (p : Parts) (seen : List ℕ) (s : ℕ) : Type 0 where
  pub low : s < 64
  pub some : slice_index seen s ≢ 0
  pub differs : slice_index (picture p) s ≢ slice_index seen s

-- A pawn here is not taken in passing: no pawn of the other side is seen in front of it. Nor does it promote: it isn't
-- on the row before the last.
pub record IsPlainPawn (p : Parts) (seen : List ℕ) (from : ℕ) : Type 0 where
  pub unpassed : (s : ℕ) → s < 64 → Ahead (forward p.side) 1 from s → slice_index seen s ≢ code_of_piece (other p.side) Pawn
  pub far : row from ≢ second_row (other p.side)

-- A piece of the side that is not to move landed.
pub record TheirsLand (p : Parts) (seen : List ℕ) : Type 0 where
  pub square : ℕ
  pub lands : LandsAt p seen square
  pub owned : is_owned_code (other p.side) (slice_index seen square) ≡ true

-- the first ply of a pair that explains the picture
abbrev pub Begins : Parts → List ℕ → Move → Type 0
Begins p seen m = (n : Move) × IsAfterTwo p seen m n

-- The first ply of each such pair goes to one of these squares and is no promotion, unless it is that of a pawn which is
-- not plain.
abbrev pub EndsAmong : Parts → List ℕ → ℕ → Type 0
EndsAmong p seen targets = (m n : Move) → IsAfterTwo p seen m n → (on p.board m.from ≡ piece_of p.side Pawn → IsPlainPawn p seen m.from)
    → (m.promotion ≡ None) × (m.to < 64) × (bit_at targets m.to ≡ 1)

-- the move between these squares with this promotion
abbrev pub IsBetween : ℕ → ℕ → Option Kind → Move → Type 0
IsBetween from to promotion m = (m.promotion ≡ promotion) × (m.from ≡ from) × (m.to ≡ to)

-- These moves are legal, and the first ply of each pair that explains the picture is among them.
pub record ListsFirst (p : Parts) (seen : List ℕ) (moves : List Move) : Type 0 where
  pub legal : (m : Move) → Contains moves m → Legal p m
  pub whole : (m n : Move) → IsAfterTwo p seen m n → Contains moves m

-- Legal moves were put to the old ones, among them all of these that are legal.
pub record AddsMoves (p : Parts) (These : Move → Type 0) (old new : List Move) : Type 0 where
  pub legal : (m : Move) → Contains new m → Contains old m ⊎ Legal p m
  pub keeps : (m : Move) → Contains old m → Contains new m
  pub whole : (m : Move) → These m → Legal p m → Contains new m
