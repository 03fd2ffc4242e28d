-- How far the pairs that explain a picture are listed.
use Rattle.std.specs.Prelude.{◌≡◌, ◌≢◌, ◌<◌, ◌⊎◌, ℕ, List, Contains, Option, Some, slice_index_or}
use Rattle.chess_rules.specs.declared.chess_move.Move.{Move}
use Rattle.chess_rules.specs.declared.parts.Parts.{Parts}
use Rattle.unseen_pairs.specs.declared.pair.TwoPlies.{TwoPlies}
use Rattle.unseen_pairs.specs.Pairs.{IsAfterTwo}

-- The pairs with this first ply that explain the picture are put to the others.
pub record AddsPairs (p : Parts) (seen : List ℕ) (m : Move) (old new : List TwoPlies) : Type 0 where
  pub sound : (x : TwoPlies) → Contains new x → Contains old x ⊎ ((x.first ≡ m) × IsAfterTwo p seen x.first x.second)
  pub keeps : (x : TwoPlies) → Contains old x → Contains new x
  pub whole : (x : TwoPlies) → x.first ≡ m → IsAfterTwo p seen x.first x.second → Contains new x

-- These pairs explain the picture, and of those whose first ply is one of the first n moves all are there.
pub record ListsPairs (p : Parts) (seen : List ℕ) (moves : List Move) (n : ℕ) (pairs : List TwoPlies) : Type 0 where
  pub sound : (x : TwoPlies) → Contains pairs x → IsAfterTwo p seen x.first x.second
  pub whole : (x : TwoPlies) (k : ℕ) → k < n → slice_index_or moves k x.first ≡ x.first → IsAfterTwo p seen x.first x.second
      → Contains pairs x

-- A pair from this position explains the picture, and begins with another move than this one.
pub record IsBegunOtherwise (p : Parts) (last : Option Move) (seen : List ℕ) : Type 0 where
  pub first : Move
  pub second : Move
  pub after_two : IsAfterTwo p seen first second
  pub otherwise : last ≢ Some first
