-- Which positions are valid: six conditions, in the order in which they are tested.
use Rattle.std.specs.Prelude.{◌≡◌, ℕ, ◌<◌, ◌≤◌, Some, None, IsTrue, length}
use Rattle.chess_rules.specs.declared.pieces.Side.{Side}
use Rattle.chess_rules.specs.declared.pieces.Side.TheVariants.{White, Black}
use Rattle.chess_rules.specs.declared.pieces.Kind.TheVariants.{Pawn, Rook, King}
use Rattle.chess_rules.specs.declared.parts.Parts.{Parts}
use Rattle.chess_rules.specs.declared.parts.Invalid.{Invalid}
use Rattle.chess_rules.specs.declared.parts.Invalid.TheVariants.{Counters, Kings, Pawns, Rights, EnPassant, Check}
use Rattle.chess_rules.specs.declared.lines.Wing.{Wing}
use Rattle.chess_rules.specs.Board.{Board, on, piece_of, other, row, Ahead, forward}
use Rattle.chess_rules.specs.Attack.{InCheck}
use Rattle.chess_rules.specs.After.{king_home, rook_home, has_right}

-- Counters: the halfmove clock is 0 to 9999, the fullmove number 1 to 9999 (this project's limits).
pub record HasCounters (p : Parts) : Type 0 where
  pub halfmove : p.halfmove ≤ 9999
  pub fullmove : p.fullmove ≤ 9999
  pub started : 0 < p.fullmove

-- Kings: each side has exactly one king.
pub record HasOneKing (board : Board) (side : Side) : Type 0 where
  pub king : ℕ
  pub stands : on board king ≡ piece_of side King
  pub alone : (s : ℕ) → on board s ≡ piece_of side King → s ≡ king

abbrev pub HasKings : Parts → Type 0
HasKings p = (side : Side) → HasOneKing p.board side

-- Pawns: no pawn stands on rank 1 or 8.
abbrev pub HasPawns : Board → Type 0
HasPawns board = (s : ℕ) (side : Side) → on board s ≡ piece_of side Pawn → (0 < row s) × (row s < 7)

-- Rights: a castling right has its king and its rook at home.
pub record IsAtHome (board : Board) (side : Side) (wing : Wing) : Type 0 where
  pub king : on board (king_home side) ≡ piece_of side King
  pub rook : on board (rook_home side wing) ≡ piece_of side Rook

abbrev pub HasRights : Parts → Type 0
HasRights p = (side : Side) (wing : Wing) → IsTrue (has_right p.rights side wing) → IsAtHome p.board side wing

-- the row of a target, rank 6 with White to move and rank 3 with Black to move
abbrev pub target_row : Side → ℕ
target_row White = 2
target_row Black = 5

-- EnPassant: the other side's pawn has just passed over the target. The target is empty, and so is the square from
-- which the pawn came; the pawn stands on the next square.
pub record IsTarget (board : Board) (side : Side) (t : ℕ) : Type 0 where
  pub on_row : row t ≡ target_row side
  pub empty : on board t ≡ None
  pub came_from : (x : ℕ) → Ahead (forward (other side)) 1 x t → on board x ≡ None
  pub pawn : (x : ℕ) → Ahead (forward (other side)) 1 t x → on board x ≡ piece_of (other side) Pawn

abbrev pub HasEnPassant : Parts → Type 0
HasEnPassant p = (t : ℕ) → p.target ≡ Some t → IsTarget p.board p.side t

-- Check: the king of the side that is not to move is not attacked.
abbrev pub HasNoCheck : Parts → Type 0
HasNoCheck p = ¬ InCheck p.board (other p.side) p.side

-- The position is valid.
pub record Valid (p : Parts) : Type 0 where
  pub squares : length p.board ≡ 64
  pub counters : HasCounters p
  pub kings : HasKings p
  pub pawns : HasPawns p.board
  pub rights : HasRights p
  pub target : HasEnPassant p
  pub no_check : HasNoCheck p

-- This is the first condition that fails.
abbrev pub FailsFirst : Parts → Invalid → Type 0
FailsFirst p Counters = ¬ HasCounters p
FailsFirst p Kings = HasCounters p × ¬ HasKings p
FailsFirst p Pawns = HasCounters p × HasKings p × ¬ HasPawns p.board
FailsFirst p Rights = HasCounters p × HasKings p × HasPawns p.board × ¬ HasRights p
FailsFirst p EnPassant = HasCounters p × HasKings p × HasPawns p.board × HasRights p × ¬ HasEnPassant p
FailsFirst p Check = HasCounters p × HasKings p × HasPawns p.board × HasRights p × HasEnPassant p × ¬ HasNoCheck p
