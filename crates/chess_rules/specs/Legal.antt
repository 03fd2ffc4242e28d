-- Which moves are legal (Article 3), and how a game ends (Article 5).
use Rattle.std.specs.Prelude.{◌≡◌, ◌≢◌, ℕ, ◌<◌, Option, Some, None, IsTrue}
use Rattle.chess_rules.specs.declared.pieces.Side.{Side}
use Rattle.chess_rules.specs.declared.pieces.Kind.{Kind}
use Rattle.chess_rules.specs.declared.pieces.Kind.TheVariants.{Pawn, Rook, Knight, Bishop, King, Queen}
use Rattle.chess_rules.specs.declared.chess_move.Move.{Move}
use Rattle.chess_rules.specs.declared.parts.Parts.{Parts}
use Rattle.chess_rules.specs.declared.lines.Wing.{Wing}
use Rattle.chess_rules.specs.declared.lines.Wing.TheVariants.{KingSide, QueenSide}
use Rattle.chess_rules.specs.Board.{Board, on, piece_of, other, row, Ahead, forward, second_row, last_row}
use Rattle.chess_rules.specs.Attack.{AttacksFrom, Attacks, InCheck}
use Rattle.chess_rules.specs.After.{king_home, rook_home, castling_target, crossed, has_right, after}

-- queen, rook, bishop or knight (Article 3.7, promotion)
abbrev pub IsOfficer : Option Kind → Type 0
IsOfficer (Some Queen) = Unit {0}
IsOfficer (Some Rook) = Unit {0}
IsOfficer (Some Bishop) = Unit {0}
IsOfficer (Some Knight) = Unit {0}
IsOfficer _ = ⊥

-- A pawn's step or capture names a promotion exactly where it ends on the last rank (Article 3.7).
pub record PromotesPawn (side : Side) (m : Move) : Type 0 where
  pub last : row m.to ≡ last_row side → IsOfficer m.promotion
  pub before : row m.to ≢ last_row side → m.promotion ≡ None

-- No other move names one.
abbrev pub NamesPromotion : Side → Kind → Move → Type 0
NamesPromotion side Pawn m = PromotesPawn side m
NamesPromotion side Rook m = m.promotion ≡ None
NamesPromotion side Knight m = m.promotion ≡ None
NamesPromotion side Bishop m = m.promotion ≡ None
NamesPromotion side King m = m.promotion ≡ None
NamesPromotion side Queen m = m.promotion ≡ None

-- Step of a piece other than a pawn: to a square that it attacks and that is empty (Articles 3.2 to 3.6, 3.8.1).
pub record Steps (p : Parts) (m : Move) : Type 0 where
  pub kind : Kind
  pub stands : on p.board m.from ≡ piece_of p.side kind
  pub no_pawn : kind ≢ Pawn
  pub attacks : AttacksFrom p.board p.side kind m.from m.to
  pub empty : on p.board m.to ≡ None
  pub promotion : NamesPromotion p.side kind m

-- Step of a pawn: one square forward to an empty square (Article 3.7.1).
pub record PawnSteps (p : Parts) (m : Move) : Type 0 where
  pub stands : on p.board m.from ≡ piece_of p.side Pawn
  pub goes : Ahead (forward p.side) 1 m.from m.to
  pub empty : on p.board m.to ≡ None
  pub promotion : NamesPromotion p.side Pawn m

-- Capture: to a square that the piece attacks and that holds a piece of the other side (Articles 3.1.1, 3.7.3).
pub record Captures (p : Parts) (m : Move) : Type 0 where
  pub kind : Kind
  pub stands : on p.board m.from ≡ piece_of p.side kind
  pub attacks : AttacksFrom p.board p.side kind m.from m.to
  pub victim : Kind
  pub taken : on p.board m.to ≡ piece_of (other p.side) victim
  pub promotion : NamesPromotion p.side kind m

-- Double step: a pawn on its second rank goes two squares forward; both squares are empty (Article 3.7.2).
pub record DoubleSteps (p : Parts) (m : Move) : Type 0 where
  pub stands : on p.board m.from ≡ piece_of p.side Pawn
  pub begins : row m.from ≡ second_row p.side
  pub goes : Ahead (forward p.side) 2 m.from m.to
  pub passed_empty : (x : ℕ) → Ahead (forward p.side) 1 m.from x → on p.board x ≡ None
  pub empty : on p.board m.to ≡ None
  pub promotion : m.promotion ≡ None

-- En passant: a pawn goes to the position's target square, which it attacks (Article 3.7).
pub record TakesEnPassant (p : Parts) (m : Move) : Type 0 where
  pub stands : on p.board m.from ≡ piece_of p.side Pawn
  pub target : p.target ≡ Some m.to
  pub attacks : AttacksFrom p.board p.side Pawn m.from m.to
  pub promotion : m.promotion ≡ None

-- strictly between the king's home and the rook's home (Article 3.8.2.2)
abbrev pub BetweenHomes : Side → Wing → ℕ → Type 0
BetweenHomes side KingSide s = (king_home side < s) × (s < rook_home side KingSide)
BetweenHomes side QueenSide s = (rook_home side QueenSide < s) × (s < king_home side)

-- The other side attacks neither the king's square nor the crossed one nor the target (Article 3.8.2.2).
pub record IsWaySafe (board : Board) (side : Side) (wing : Wing) : Type 0 where
  pub king : ¬ Attacks board (other side) (king_home side)
  pub crossed_square : ¬ Attacks board (other side) (crossed side wing)
  pub target : ¬ Attacks board (other side) (castling_target side wing)

-- Castling: the king's move of two squares towards a rook, with the right to it (Article 3.8.2).
pub record Castles (p : Parts) (m : Move) (wing : Wing) : Type 0 where
  pub from : m.from ≡ king_home p.side
  pub to : m.to ≡ castling_target p.side wing
  pub right : IsTrue (has_right p.rights p.side wing)
  pub empty : (s : ℕ) → BetweenHomes p.side wing s → on p.board s ≡ None
  pub safe : IsWaySafe p.board p.side wing
  pub promotion : m.promotion ≡ None

-- The ways to move.
pub data Goes (p : Parts) (m : Move) : Type 0 where
  step : Steps p m → Goes p m
  pawn_step : PawnSteps p m → Goes p m
  capture : Captures p m → Goes p m
  double_step : DoubleSteps p m → Goes p m
  en_passant : TakesEnPassant p m → Goes p m
  castling : (wing : Wing) → Castles p m wing → Goes p m

-- A move is legal when it is one of these and, after it, the mover's king is not attacked (Articles 3.9.2, 3.10.1).
pub record Legal (p : Parts) (m : Move) : Type 0 where
  pub on_board : m.to < 64
  pub goes : Goes p m
  pub safe : ¬ InCheck (after p m).board p.side (other p.side)

-- The game is over where no move is legal.
abbrev pub NoMove : Parts → Type 0
NoMove p = (m : Move) → ¬ Legal p m

-- Checkmate: the king of the side to move is attacked, and the other side has won (Article 5.1.1).
abbrev pub Mated : Parts → Type 0
Mated p = NoMove p × InCheck p.board p.side (other p.side)

-- Stalemate: it is not, and the game is drawn (Article 5.2.1).
abbrev pub Stale : Parts → Type 0
Stale p = NoMove p × ¬ InCheck p.board p.side (other p.side)
