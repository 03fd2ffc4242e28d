-- How rivals are looked for.
use Rattle.std.specs.Prelude.{◌≡◌, ◌≢◌, ℕ, ◌<◌, None}
use Rattle.chess_rules.specs.declared.chess_move.Move.{Move}
use Rattle.chess_rules.specs.declared.parts.Parts.{Parts}
use Rattle.chess_rules.specs.Board.{on, file, row}
use Rattle.chess_rules.specs.Legal.{Legal}
use Rattle.chess_text.specs.declared.san.Line.{Line}
use Rattle.chess_text.specs.declared.san.Line.TheVariants.{Any, File, Rank}

-- what the square s shares with the square t
abbrev pub Shares : Line → ℕ → ℕ → Type 0
Shares Any s t = Unit {0}
Shares File s t = file s ≡ file t
Shares Rank s t = row s ≡ row t

-- the move of a piece from s to the target of m
abbrev pub from_square : Move → ℕ → Move
from_square m s = record { from = s; to = m.to; promotion = None }

-- a rival stands on s
pub record IsRivalAt (p : Parts) (m : Move) (line : Line) (s : ℕ) : Type 0 where
  pub other : s ≢ m.from
  pub kind : on p.board s ≡ on p.board m.from
  pub shares : Shares line s m.from
  pub legal : Legal p (from_square m s)

pub record HasRival (p : Parts) (m : Move) (line : Line) : Type 0 where
  pub from : ℕ
  pub on_board : from < 64
  pub rival : IsRivalAt p m line from
