-- What is told of the moves of a game. Plies are listed with the latest first, pictures are the codes of 64 squares.
use Rattle.std.specs.Prelude.{◌≡◌, ◌≢◌, ℕ, ◌+◌, ◌==◌, ◌&&◌, ◌||◌, Bool, false, List, [], ◌∷◌, length, Option, Some, None, slice_index}
use Rattle.chess_rules.specs.declared.parts.Parts.{Parts}
use Rattle.chess_rules.specs.Picture.{picture}
use Rattle.settle_core.specs.declared.plies.Ply.{Ply}
use Rattle.board_alarms.specs.Plies.{position}
use Rattle.game_over.specs.declared.happened.Move.{Move}

abbrev pub last_ply : List Ply → Option Ply
last_ply [] = None
last_ply (ply ∷ earlier) = Some ply

-- the codes of a king, and of a rook, as `chess_rules` has them
abbrev pub is_king : ℕ → Bool
is_king code = code == 5 || code == 11

abbrev pub is_rook : ℕ → Bool
is_rook code = code == 2 || code == 8

abbrev pub goes_two : ℕ → ℕ → Bool
goes_two from to = to == from + 2 || from == to + 2

-- A king went two squares along its rank.
abbrev pub castles_by : List ℕ → Option Ply → Bool
castles_by here None = false
castles_by here (Some ply) = is_king (slice_index here ply.mv.to) && goes_two ply.mv.from ply.mv.to

-- The last ply is castling.
abbrev pub castles : Parts → List Ply → Bool
castles start plies = castles_by (position start plies) (last_ply plies)

-- It brought a rook to its square.
abbrev pub brings_rook : List ℕ → Option Ply → Bool
brings_rook here None = false
brings_rook here (Some ply) = is_rook (slice_index here ply.mv.to)

-- It brought a piece to a square that has such a piece at the start.
abbrev pub brings_home : List ℕ → List ℕ → Option Ply → Bool
brings_home start here None = false
brings_home start here (Some ply) = slice_index here ply.mv.to == slice_index start ply.mv.to

-- The second plies have another one in the place of the last of the first.
abbrev pub corrects : List Ply → List Ply → Bool
corrects old new = length new == length old

-- A castled king went home, which shows as the rook's move.
abbrev pub uncastles : Parts → List Ply → List Ply → Bool
uncastles start old new = (corrects old new && castles start old) && brings_rook (position start new) (last_ply new)

-- the move or correction that leads from the first plies to the second
abbrev pub move_of : Parts → Bool → List Ply → List Ply → Move
move_of start added old new = record {
  goes_home = brings_home (picture start) (position start new) (last_ply new) || uncastles start old new;
  corrects = corrects old new;
  is_added = added;
}

-- It is told if the plies are others.
abbrev pub TellsMove : Parts → Bool → List Ply → List Ply → Option Move → Type 0
TellsMove start added old new None = new ≡ old
TellsMove start added old new (Some move) = (new ≢ old) × (move ≡ move_of start added old new)
