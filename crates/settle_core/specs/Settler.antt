-- What a settler has settled.
use Rattle.std.specs.Prelude.{◌≡◌, ℕ, Bool, true, false, is_some, List, Option, reverse}
use Rattle.chess_rules.specs.declared.chess_move.Move.{Move}
use Rattle.chess_rules.specs.declared.parts.Parts.{Parts}
use Rattle.settle_core.specs.declared.plies.Ply.{Ply}
use Rattle.settle_core.specs.declared.plies.Seen.{Seen}
use Rattle.settle_core.specs.declared.plies.Seen.TheVariants.{Same, Moved, Sign, Replaced, Waits}
use Rattle.settle_core.specs.Entries.{Entry, last_picture, repeats, deduplicated}
use Rattle.settle_core.specs.Settling.{reached}
use Rattle.settle_core.specs.Folding.{Score, Folds, SeenAs, moves_of}

-- What is seen of a settler: the position that the line starts in, the score, and the last picture, if one was seen.
pub record SettlerState : Type 0 where
  pub start : Parts
  pub score : Score
  pub last : Option (List ℕ)

-- whether a picture was seen
abbrev pub has_seen : SettlerState → Bool
has_seen settler = is_some settler.last

-- the position that the plies lead to
abbrev pub position_of : SettlerState → Parts
position_of settler = reached settler.start (moves_of settler.score.plies)

-- the plies in their order
abbrev pub plies_of : SettlerState → List Ply
plies_of settler = reverse settler.score.plies

-- From this start the settler was given these entries, the latest first: its last picture is that of the last entry,
-- and its plies and sign are those of the entries without repeated pictures.
pub record HasSettled (settler : SettlerState) (start : Parts) (past : List Entry) : Type 0 where
  pub start_is : settler.start ≡ start
  pub last : settler.last ≡ last_picture past
  pub folds : Folds start (deduplicated past) settler.score

-- what a picture that is not the last one shows after these entries
abbrev pub ReturnsNewSeen : Parts → List Entry → List ℕ → Seen → Type 0
ReturnsNewSeen start past seen answer = (repeats seen past ≡ false)
    × ((score : Score) × Folds start (deduplicated past) score × SeenAs start (moves_of score.plies) seen answer)

-- the result for a picture after these entries
abbrev pub ReturnsSeen : Parts → List Entry → List ℕ → Seen → Type 0
ReturnsSeen start past seen Same = repeats seen past ≡ true
ReturnsSeen start past seen (Moved m) = ReturnsNewSeen start past seen (Moved m)
ReturnsSeen start past seen (Sign outcome) = ReturnsNewSeen start past seen (Sign outcome)
ReturnsSeen start past seen (Replaced m) = ReturnsNewSeen start past seen (Replaced m)
ReturnsSeen start past seen Waits = ReturnsNewSeen start past seen Waits

-- The picture gives a move after these entries, for which memory is taken.
abbrev pub GivesMove : Parts → List Entry → List ℕ → Type 0
GivesMove start past seen = (m : Move) × ReturnsSeen start past seen (Moved m)
