-- What is seen from a square outwards.
use Rattle.std.specs.Prelude.{◌≡◌, ◌⊎◌, ℕ, ◌+◌, ◌-◌, ◌<◌, ◌≤◌, None, Some}
use Rattle.chess_rules.specs.declared.pieces.Side.{Side}
use Rattle.chess_rules.specs.declared.pieces.Side.TheVariants.{White, Black}
use Rattle.chess_rules.specs.declared.pieces.Kind.{Kind}
use Rattle.chess_rules.specs.declared.pieces.Kind.TheVariants.{Knight}
use Rattle.chess_rules.specs.declared.walk.Seen.{Seen}
use Rattle.chess_rules.specs.declared.lines.Direction.{Direction}
use Rattle.chess_rules.specs.declared.lines.Direction.TheVariants.{North, South, East, West, NorthEast, NorthWest, SouthEast, SouthWest}
use Rattle.chess_rules.specs.Board.{Board, on, piece_of, file, row, Ahead}
use Rattle.chess_rules.specs.Attack.{Ranges, IsJump}

-- no square lies ahead of s
abbrev pub IsAtEdge : Direction → ℕ → Type 0
IsAtEdge North s = row s ≡ 0
IsAtEdge South s = row s ≡ 7
IsAtEdge East s = file s ≡ 7
IsAtEdge West s = file s ≡ 0
IsAtEdge NorthEast s = (row s ≡ 0) ⊎ (file s ≡ 7)
IsAtEdge NorthWest s = (row s ≡ 0) ⊎ (file s ≡ 0)
IsAtEdge SouthEast s = (row s ≡ 7) ⊎ (file s ≡ 7)
IsAtEdge SouthWest s = (row s ≡ 7) ⊎ (file s ≡ 0)

abbrev pub opposite : Direction → Direction
opposite North = South
opposite South = North
opposite East = West
opposite West = East
opposite NorthEast = SouthWest
opposite NorthWest = SouthEast
opposite SouthEast = NorthWest
opposite SouthWest = NorthEast

-- the squares at distances 1 to n are empty
abbrev pub IsClear : Board → Direction → ℕ → ℕ → Type 0
IsClear board d s n = (k x : ℕ) → 0 < k → k ≤ n → x < 64 → Ahead d k s x → on board x ≡ None

-- the first piece from s in this direction
pub record IsFirst (board : Board) (d : Direction) (s : ℕ) (seen : Seen) : Type 0 where
  pub on_board : seen.square < 64
  pub apart : 0 < seen.distance
  pub lies : Ahead d seen.distance s seen.square
  pub stands : on board seen.square ≡ Some seen.piece
  pub clear : (k x : ℕ) → 0 < k → k < seen.distance → x < 64 → Ahead d k s x → on board x ≡ None

-- nothing stands from s in this direction
abbrev pub IsOpen : Board → Direction → ℕ → Type 0
IsOpen board d s = (k x : ℕ) → 0 < k → x < 64 → Ahead d k s x → on board x ≡ None

-- the piece on q is the first one from s in this direction, is of this side and kind, and attacks s
pub record IsHitFrom (board : Board) (side : Side) (d : Direction) (s q : ℕ) : Type 0 where
  pub kind : Kind
  pub distance : ℕ
  pub first : IsFirst board d s (record { piece = record { side = side; kind = kind }; distance = distance; square = q })
  pub ranges : Ranges side kind (opposite d) distance

-- no piece of this side that is seen in this direction attacks s
abbrev pub IsNotHit : Board → Side → Direction → ℕ → Type 0
IsNotHit board side d s = (q : ℕ) → ¬ IsHitFrom board side d s q

-- a knight of this side jumps to s
pub record IsJumped (board : Board) (side : Side) (s : ℕ) : Type 0 where
  pub from : ℕ
  pub stands : on board from ≡ piece_of side Knight
  pub jump : IsJump from s

-- a knight of this side stands on q and jumps to s
abbrev pub JumpsFrom : Board → Side → ℕ → ℕ → Type 0
JumpsFrom board side q s = (on board q ≡ piece_of side Knight) × IsJump q s

-- no knight of this side jumps to s from n squares before or after it, by number
abbrev pub NoneJumpsOver : Board → Side → ℕ → ℕ → Type 0
NoneJumpsOver board side s n = (q : ℕ) → q < 64 → (q + n ≡ s) ⊎ (q ≡ s + n) → ¬ JumpsFrom board side q s

-- t lies in no other direction from s
abbrev pub PointsOnly : Direction → ℕ → ℕ → Type 0
PointsOnly d s t = (e : Direction) (n : ℕ) → 0 < n → Ahead e n s t → e ≡ d

-- t lies in none of the directions from s
abbrev pub PointsNowhere : ℕ → ℕ → Type 0
PointsNowhere s t = (e : Direction) (n : ℕ) → 0 < n → ¬ Ahead e n s t

-- the squares by number, from a side's own end of the board on
abbrev pub square_from_home : Side → ℕ → ℕ
square_from_home White i = 63 - i
square_from_home Black i = i
