-- Pieces that are not where a position has them.
use Rattle.std.specs.Prelude.{◌≡◌, ◌≢◌, ◌<◌, ℕ, List, slice_index}
use Rattle.chess_rules.specs.declared.pieces.Side.{Side}
use Rattle.chess_rules.specs.declared.pieces.Kind.{Kind}
use Rattle.chess_rules.specs.declared.parts.Parts.{Parts}
use Rattle.chess_rules.specs.Board.{on, other, piece_of}
use Rattle.chess_rules.specs.Picture.{code_of_piece}

-- On this square, where a piece of this side stands, the picture shows something else.
pub record LosesAt (p : Parts) (seen : List ℕ) (side : Side) (s : ℕ) : Type 0 where
  pub low : s < 64
  pub kind : Kind
  pub stands : on p.board s ≡ piece_of side kind
  pub gone : slice_index seen s ≢ code_of_piece side kind

abbrev pub Loses : Parts → List ℕ → Side → Type 0
Loses p seen side = (s : ℕ) × LosesAt p seen side s

-- On a square where a piece of this side stands the picture shows none.
abbrev pub Bares : Parts → List ℕ → Side → Type 0
Bares p seen side = (s : ℕ) × LosesAt p seen side s × (slice_index seen s ≡ 0)

-- Two plies from this position may give the picture: the side to move has left a square, and the other side one that is
-- bare.
abbrev pub MayHideTwo : Parts → List ℕ → Type 0
MayHideTwo p seen = Loses p seen p.side × Bares p seen (other p.side)
