-- Which squares a piece attacks (Articles 3.1 to 3.9).
use Rattle.std.specs.Prelude.{◌≡◌, ℕ, ◌+◌, ◌-◌, ◌<◌, ◌⊎◌, None}
use Rattle.chess_rules.specs.declared.pieces.Side.{Side}
use Rattle.chess_rules.specs.declared.pieces.Side.TheVariants.{White, Black}
use Rattle.chess_rules.specs.declared.pieces.Kind.{Kind}
use Rattle.chess_rules.specs.declared.pieces.Kind.TheVariants.{Pawn, Rook, Knight, Bishop, King, Queen}
use Rattle.chess_rules.specs.declared.lines.Direction.{Direction}
use Rattle.chess_rules.specs.declared.lines.Direction.TheVariants.{North, South, East, West, NorthEast, NorthWest, SouthEast, SouthWest}
use Rattle.chess_rules.specs.Board.{Board, on, piece_of, file, row, Ahead}

-- along a file or a rank (Article 3.3)
abbrev pub IsStraight : Direction → Type 0
IsStraight North = Unit {0}
IsStraight South = Unit {0}
IsStraight East = Unit {0}
IsStraight West = Unit {0}
IsStraight _ = ⊥

-- along a diagonal (Article 3.2)
abbrev pub IsDiagonal : Direction → Type 0
IsDiagonal NorthEast = Unit {0}
IsDiagonal NorthWest = Unit {0}
IsDiagonal SouthEast = Unit {0}
IsDiagonal SouthWest = Unit {0}
IsDiagonal _ = ⊥

-- diagonally in front of a side's pawn (Article 3.7.3)
abbrev pub IsPawnDiagonal : Side → Direction → Type 0
IsPawnDiagonal White NorthEast = Unit {0}
IsPawnDiagonal White NorthWest = Unit {0}
IsPawnDiagonal Black SouthEast = Unit {0}
IsPawnDiagonal Black SouthWest = Unit {0}
IsPawnDiagonal _ _ = ⊥

-- In this direction and at this distance a piece of this side and kind attacks, where nothing stands between: the rook
-- (Article 3.3), the bishop (3.2) and the queen (3.4) at any distance, the king (3.8.1) and the pawn (3.7.3) at one
-- square.
abbrev pub Ranges : Side → Kind → Direction → ℕ → Type 0
Ranges side Rook d n = IsStraight d
Ranges side Bishop d n = IsDiagonal d
Ranges side Queen d n = Unit {0}
Ranges side King d n = n ≡ 1
Ranges side Pawn d n = (n ≡ 1) × IsPawnDiagonal side d
Ranges side Knight d n = ⊥

-- how far apart two numbers are
abbrev pub gap : ℕ → ℕ → ℕ
gap a b = (a - b) + (b - a)

-- a knight's jump: two files and one rank, or one file and two ranks (Article 3.6)
abbrev pub IsJump : ℕ → ℕ → Type 0
IsJump s t =
    ((gap (file s) (file t) ≡ 1) × (gap (row s) (row t) ≡ 2)) ⊎ ((gap (file s) (file t) ≡ 2) × (gap (row s) (row t) ≡ 1))

-- A piece of this side and kind on s attacks t along a line: every square strictly between is empty (Article 3.5).
pub record AttacksAlong (board : Board) (side : Side) (kind : Kind) (s t : ℕ) : Type 0 where
  pub direction : Direction
  pub distance : ℕ
  pub apart : 0 < distance
  pub lies : Ahead direction distance s t
  pub ranges : Ranges side kind direction distance
  pub clear : (k x : ℕ) → 0 < k → k < distance → Ahead direction k s x → on board x ≡ None

-- A piece of this side and kind on s attacks t.
abbrev pub AttacksFrom : Board → Side → Kind → ℕ → ℕ → Type 0
AttacksFrom board side Knight s t = IsJump s t
AttacksFrom board side kind s t = AttacksAlong board side kind s t

-- Some piece of this side attacks t, whether or not it may move there (Article 3.1.3).
pub record Attacks (board : Board) (side : Side) (t : ℕ) : Type 0 where
  pub from : ℕ
  pub kind : Kind
  pub stands : on board from ≡ piece_of side kind
  pub attacks : AttacksFrom board side kind from t

-- This side's king is attacked by the other side (Article 3.9.1).
pub record InCheck (board : Board) (side attackers : Side) : Type 0 where
  pub king : ℕ
  pub stands : on board king ≡ piece_of side King
  pub attacked : Attacks board attackers king
