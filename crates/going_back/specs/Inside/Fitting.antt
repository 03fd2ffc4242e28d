-- The changes that explain a picture are listed.
use Rattle.std.specs.Prelude.{◌≡◌, ◌<◌, ◌↔◌, ◌⊎◌, ℕ, List, Option, Some, Contains, slice_get, slice_index_or}
use Rattle.chess_rules.specs.declared.chess_move.Move.{Move}
use Rattle.chess_rules.specs.declared.parts.Parts.{Parts}
use Rattle.chess_rules.specs.Picture.{picture}
use Rattle.settle_core.specs.Settling.{Settles}
use Rattle.unseen_pairs.specs.Pairs.{IsAfterTwo}
use Rattle.unseen_pairs.specs.declared.pair.TwoPlies.{TwoPlies}
use Rattle.going_back.specs.declared.fit.Fit.{Fit}
use Rattle.going_back.specs.declared.fit.Coming.TheVariants.{Nothing, One, Two}
use Rattle.going_back.specs.Fitting.{LeadsTo, moves_in}

-- The new list has the old ones and all these.
abbrev pub Adds : (Fit → Type 0) → List Fit → List Fit → Type 0
Adds These old new = (x : Fit) → Contains new x ↔ (Contains old x ⊎ These x)

-- So many go, of which this is the first, and these two come.
pub record IsTwo (gone : ℕ) (went : Option Move) (two : TwoPlies) (fit : Fit) : Type 0 where
  pub so_many : fit.gone ≡ gone
  pub comes : fit.coming ≡ Two two
  pub anew : went ≡ Some two.first → ⊥

-- of these pairs one among the first n
pub record IsBelow (gone : ℕ) (went : Option Move) (pairs : List TwoPlies) (n : ℕ) (fit : Fit) : Type 0 where
  pub two : TwoPlies
  pub place : ℕ
  pub low : place < n
  pub at : slice_index_or pairs place two ≡ two
  pub is : IsTwo gone went two fit

-- two plies from this position give the picture
pub record FitsByTwo (p : Parts) (gone : ℕ) (went : Option Move) (seen : List ℕ) (fit : Fit) : Type 0 where
  pub two : TwoPlies
  pub gives : IsAfterTwo p seen two.first two.second
  pub is : IsTwo gone went two fit

-- one does
pub record FitsByOne (p : Parts) (gone : ℕ) (went : Option Move) (seen : List ℕ) (fit : Fit) : Type 0 where
  pub ply : Move
  pub gives : Settles p seen ply
  pub so_many : fit.gone ≡ gone
  pub comes : fit.coming ≡ One ply
  pub anew : went ≡ Some ply → ⊥

-- the picture is that of the position
pub record FitsByNone (p : Parts) (gone : ℕ) (seen : List ℕ) (fit : Fit) : Type 0 where
  pub shows : seen ≡ picture p
  pub so_many : fit.gone ≡ gone
  pub comes : fit.coming ≡ Nothing

-- So many go, of which this is the first, and what comes leads from this position to the picture.
pub record FitsFrom (p : Parts) (gone : ℕ) (went : Option Move) (seen : List ℕ) (fit : Fit) : Type 0 where
  pub so_many : fit.gone ≡ gone
  pub leads : LeadsTo p seen (moves_in fit.coming)
  pub anew : (m : Move) → slice_get (moves_in fit.coming) 0 ≡ Some m → went ≡ Some m → ⊥

-- It is among these, and no other one is.
pub record IsOnlyOf (fits : List Fit) (fit : Fit) : Type 0 where
  pub listed : Contains fits fit
  pub alone : (other : Fit) → Contains fits other → other ≡ fit
