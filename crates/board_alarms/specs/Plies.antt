-- The positions of a game, and what is heard of its plies, which are listed with the latest first.
use Rattle.std.specs.Prelude.{◌≡◌, ◌≢◌, ◌⊎◌, ℕ, zero, suc, ◌&&◌, ◌||◌, Bool, true, false, nat_le, List, ◌∷◌, drop, length, Option, Some, None, if◌then◌else◌}
use Rattle.std.specs.Str.{bytes_eq}
use Rattle.chess_rules.specs.declared.parts.Parts.{Parts}
use Rattle.chess_rules.specs.declared.pieces.Side.{Side}
use Rattle.chess_rules.specs.declared.pieces.Side.TheVariants.{White, Black}
use Rattle.chess_rules.specs.Picture.{picture}
use Rattle.settle_core.specs.declared.plies.Ply.{Ply}
use Rattle.settle_core.specs.Folding.{moves_of}
use Rattle.settle_core.specs.Settling.{reached}
use Rattle.board_doubts.specs.declared.heard.Heard.{Heard}
use Rattle.board_doubts.specs.declared.heard.Heard.TheVariants.{Moves, Corrects, Plays, Replaces, Agrees}
use Rattle.board_doubts.specs.declared.heard.Ply.{Ply as HeardPly}

-- the codes of the position that plies lead to
abbrev pub position : Parts → List Ply → List ℕ
position start plies = picture (reached start (moves_of plies))

abbrev pub is_black : Side → Bool
is_black White = false
is_black Black = true

-- Black is to move after these plies.
abbrev pub black_moves : Parts → List Ply → Bool
black_moves start plies = is_black (reached start (moves_of plies)).side

-- the plies without the last n
abbrev pub before : ℕ → List Ply → List Ply
before zero plies = plies
before (suc n) plies = before n (drop 1 plies)

-- The same position was there so many plies before.
abbrev pub was_there : ℕ → Parts → List Ply → Bool
was_there n start plies = nat_le n (length plies) && bytes_eq (position start plies) (position start (before n plies))

-- It was one of the last eight, with the same side to move.
abbrev pub repeats : Parts → List Ply → Bool
repeats start plies = (was_there 2 start plies || was_there 4 start plies) || (was_there 6 start plies || was_there 8 start plies)

-- a ply, and those before it
abbrev pub heard_ply : Parts → Ply → List Ply → HeardPly
heard_ply start ply earlier = record { from = ply.mv.from; to = ply.mv.to; black = black_moves start earlier }

-- The plies stay, and the board may show their position.
pub record Stays (agrees : Bool) (old new : List Ply) (news ply : Option Heard) : Type 0 where
  pub plies : new ≡ old
  pub news_is : news ≡ (if agrees then Some Agrees else None)
  pub ply_is : ply ≡ None

-- There is one more.
pub record MovesOn (start : Parts) (old new : List Ply) (news ply : Option Heard) : Type 0 where
  pub last : Ply
  pub plies : new ≡ last ∷ old
  pub news_is : news ≡ Some (Moves (repeats start new))
  pub ply_is : ply ≡ Some (Plays (heard_ply start last old))

-- The last one has become another.
pub record CorrectsLast (start : Parts) (old new : List Ply) (news ply : Option Heard) : Type 0 where
  pub last : Ply
  pub plies : new ≡ last ∷ drop 1 old
  pub size : length new ≡ length old
  pub another : new ≢ old
  pub news_is : news ≡ Some (Corrects (repeats start new))
  pub ply_is : ply ≡ Some (Replaces (heard_ply start last (drop 1 old)))

-- What is heard of plies that were the first ones before an event, and are the second ones with it: news, and a ply.
abbrev pub HearsPlies : Parts → Bool → List Ply → List Ply → Option Heard → Option Heard → Type 0
HearsPlies start agrees old new news ply = Stays agrees old new news ply ⊎ (MovesOn start old new news ply ⊎ CorrectsLast start old new news ply)
