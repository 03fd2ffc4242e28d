-- What a settler keeps: the line, and each position of its end beside the last picture.
use Rattle.std.specs.Prelude.{◌≡◌, ◌<◌, ℕ, Bool, true, false, List, [], ◌∷◌, Option, Some, None, reverse, slice_index, if◌then◌else◌}
use Rattle.chess_rules.specs.declared.chess_move.Move.{Move}
use Rattle.chess_rules.specs.declared.parts.Parts.{Parts}
use Rattle.chess_rules.specs.Board.{other}
use Rattle.chess_rules.specs.Legal.{Legal}
use Rattle.chess_rules.specs.Picture.{picture}
use Rattle.settle_core.specs.declared.compared.Compared.{Compared}
use Rattle.settle_core.specs.declared.plies.Outcome.{Outcome}
use Rattle.settle_core.specs.declared.plies.Ply.{Ply}
use Rattle.settle_core.specs.Candidate.{lands}
use Rattle.settle_core.specs.Settling.{reached, Played}
use Rattle.settle_core.specs.Folding.{score_of}
use Rattle.settle_core.specs.Masks.{IsDiff, IsOwned, IsShown}
use Rattle.settle_core.specs.Settler.{SettlerState}

-- `picture` is that of the position. `mask` has the squares on which the picture that was seen differs from it. `ours`
-- has the squares on which the side to move has pieces, and `theirs` those on which the other side has.
pub record IsCompared (compared : Compared) (seen : List ℕ) : Type 0 where
  pub picture : compared.picture ≡ picture compared.position
  pub mask : IsDiff compared.mask compared.picture seen
  pub ours : IsOwned compared.ours compared.position.side compared.picture
  pub theirs : IsOwned compared.theirs (other compared.position.side) compared.picture

-- The second picture shows no piece but where the first one shows the same.
abbrev pub OnlyLacks : List ℕ → List ℕ → Type 0
OnlyLacks before seen = (s : ℕ) → s < 64 → lands false (slice_index before s) (slice_index seen s) ≡ false

-- on this square the second picture shows a piece that the first one does not show there
abbrev pub HasLanded : List ℕ → List ℕ → ℕ → Type 0
HasLanded before seen s = (s < 64) × (lands false (slice_index before s) (slice_index seen s) ≡ true)

-- the position before the last of these moves, of which the latest comes first
abbrev pub before_last : Parts → List Move → Option Parts
before_last start [] = None
before_last start (m ∷ earlier) = Some (reached start earlier)

abbrev pub position_in : Option Compared → Option Parts
position_in None = None
position_in (Some compared) = Some compared.position

-- the same of the position that stands here, if one does
abbrev pub IsComparedIn : Option Compared → List ℕ → Type 0
IsComparedIn None seen = Unit {0}
IsComparedIn (Some compared) seen = IsCompared compared seen

-- The moves, of which the latest comes first, are legal in their turn. They lead to `here`, and the last one was made
-- in `before`. Both are compared with the last picture, and `shown` has the squares on which this picture shows pieces.
pub record IsKept (start : Parts) (moves : List Move) (here : Compared) (before : Option Compared) (seen : List ℕ)
    (shown : ℕ) : Type 0 where
  pub played : Played start moves
  pub position : here.position ≡ reached start moves
  pub before_is : position_in before ≡ before_last start moves
  pub here_compared : IsCompared here seen
  pub before_compared : IsComparedIn before seen
  pub shown_is : IsShown shown seen

-- the last picture, if one was seen
abbrev pub last_of : Bool → List ℕ → Option (List ℕ)
last_of seen picture = if seen then Some picture else None

abbrev pub settler_state : Parts → List Ply → Option Outcome → Bool → List ℕ → SettlerState
settler_state start plies sign seen picture = record { start = start; score = score_of plies sign; last = last_of seen picture }

-- this move is legal in the place of the last of these, of which the latest comes first
abbrev pub CanReplace : Parts → List Move → Move → Type 0
CanReplace start [] m = ⊥
CanReplace start (last ∷ earlier) m = Legal (reached start earlier) m

-- The last ply of a list, if it has one, became this ply.
abbrev pub IsLastSet : List Ply → Ply → List Ply → Type 0
IsLastSet old ply new = (other : Ply) (earlier : List Ply) → reverse old ≡ other ∷ earlier → reverse new ≡ ply ∷ earlier
