-- When the line of what a picture shows can be made.
use Rattle.std.specs.Prelude.{◌≡◌, ℕ, List, [], ◌∷◌, ◌++◌, Option, ⊤}
use Rattle.chess_rules.specs.declared.parts.Parts.{Parts}
use Rattle.chess_rules.specs.Legal.{Legal}
use Rattle.settle_core.specs.declared.plies.Ply.{Ply}
use Rattle.settle_core.specs.declared.plies.Seen.{Seen}
use Rattle.settle_core.specs.declared.plies.Seen.TheVariants.{Same, Moved, Sign, Replaced, Waits}
use Rattle.settle_core.specs.Folding.{Score, moves_of}
use Rattle.settle_core.specs.Settling.{reached}
use Rattle.settle_core.specs.declared.plies.Outcome.{Outcome}
use Rattle.board_listing.specs.GameText.{HasResult, TellsResult, TellsSeen}

-- There is a latest ply, and it is legal where it stands.
abbrev pub LastIsLegal : Parts → List Ply → Type 0
LastIsLegal start [] = ⊥
LastIsLegal start (ply ∷ earlier) = Legal (reached start (moves_of earlier)) ply.mv

-- Where this score stands, what was seen can be told.
abbrev pub MayTell : Parts → Score → Seen → Type 0
MayTell start score (Moved m) = LastIsLegal start score.plies
MayTell start score (Replaced m) = LastIsLegal start score.plies
MayTell start score (Sign outcome) = ⊤
MayTell start score Waits = ⊤
MayTell start score Same = ⊥

-- Where this score stands, the lines of what this picture showed were added.
pub record AddsNews (offset : ℕ) (start : Parts) (score : Score) (shown : List ℕ) (seen : Seen) (old new : Option Outcome) (lines lines' : List ℕ) : Type 0 where
  pub first : List ℕ
  pub second : List ℕ
  pub first_is : TellsSeen offset start score shown seen first
  pub second_is : TellsResult offset old new second
  pub result_is : HasResult start score new
  pub lines_are : lines' ≡ lines ++ (first ++ second)
