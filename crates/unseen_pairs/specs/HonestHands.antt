-- Hands that leave all else alone on the way to a move: no pair is recovered there.
use Rattle.std.specs.Prelude.{◌≡◌, ◌≢◌, ◌⊎◌, ℕ, ◌<◌, List, [], ◌∷◌, ◌++◌, reverse, slice_index}
use Rattle.chess_rules.specs.declared.pieces.Side.{Side}
use Rattle.chess_rules.specs.declared.pieces.Kind.{Kind}
use Rattle.chess_rules.specs.declared.chess_move.Move.{Move}
use Rattle.chess_rules.specs.declared.parts.Parts.{Parts}
use Rattle.chess_rules.specs.Board.{on, piece_of, other}
use Rattle.chess_rules.specs.After.{after}
use Rattle.chess_rules.specs.Legal.{Legal}
use Rattle.chess_rules.specs.Picture.{code_of_piece, picture}
use Rattle.chess_rules.specs.Valid.{Valid}
use Rattle.settle_core.specs.Entries.{Entry, deduplicated}
use Rattle.settle_core.specs.Folding.{Score}
use Rattle.settle_core.specs.HonestPlay.{HasKingsApart, IsPartial, LacksKing}
use Rattle.settle_core.specs.Laws.{joined}
use Rattle.settle_core.specs.Settling.{Line}
use Rattle.unseen_pairs.specs.Laws.{ConfirmNone, Writes}

-- The move leaves this piece on its square.
abbrev pub LeavesPiece : Parts → Move → ℕ → Side → Kind → Type 0
LeavesPiece p m s side kind = (on p.board s ≡ piece_of side kind) × (on (after p m).board s ≡ piece_of side kind)

-- A piece of the side that is not to move is off its square.
pub record IsOff (p : Parts) (seen : List ℕ) : Type 0 where
  pub square : ℕ
  pub kind : Kind
  pub stands : on p.board square ≡ piece_of (other p.side) kind
  pub off : slice_index seen square ≢ code_of_piece (other p.side) kind

-- The picture shows hands on the way to a move. The other side's pieces show where they stand and nowhere else, but the
-- one that the move takes may be off. While it is off, the mover's pieces show where they stand, but those that the
-- move moves. Beside that, his pieces may show anywhere, or nowhere. The two kings are not both in the centre.
pub record IsOnTheWay (p : Parts) (m : Move) (seen : List ℕ) : Type 0 where
  pub nowhere_else : (s : ℕ) (kind : Kind) → s < 64 → slice_index seen s ≡ code_of_piece (other p.side) kind
      → on p.board s ≡ piece_of (other p.side) kind
  pub theirs : (s : ℕ) (kind : Kind) → LeavesPiece p m s (other p.side) kind → slice_index seen s ≡ code_of_piece (other p.side) kind
  pub own : IsOff p seen → (s : ℕ) (kind : Kind) → LeavesPiece p m s p.side kind → slice_index seen s ≡ code_of_piece p.side kind
  pub kings : HasKingsApart seen

-- what may be seen up to the move: this, or a king off the board, and then whatever else shows
abbrev pub IsOnTheWayOrLacksKing : Parts → Move → List ℕ → Type 0
IsOnTheWayOrLacksKing p m seen = IsOnTheWay p m seen ⊎ LacksKing seen

-- The entries, in their order, show the move: any number of pictures that may be seen up to it, repeats of them too,
-- and at the end the picture after it.
abbrev pub ShownByHand : Parts → Move → List Entry → Type 0
ShownByHand p m [] = ⊥
ShownByHand p m (entry ∷ []) = entry.picture ≡ picture (after p m)
ShownByHand p m (entry ∷ next ∷ more) = IsOnTheWayOrLacksKing p m entry.picture × ShownByHand p m (next ∷ more)

-- The lists of entries show the moves of a line, one list for each.
abbrev pub EachShownByHand : Parts → List Move → List (List Entry) → Type 0
EachShownByHand p [] [] = Unit {0}
EachShownByHand p [] (list ∷ lists) = ⊥
EachShownByHand p (m ∷ moves) [] = ⊥
EachShownByHand p (m ∷ moves) (list ∷ lists) = ShownByHand p m list × EachShownByHand (after p m) moves lists

-- Where each move of a line is shown so, no entry confirms a pair, wherever the entries are broken off.
abbrev pub HonestHandsConfirmNone : Type 0
HonestHandsConfirmNone =
    (start : Parts) (moves : List Move) (lists : List (List Entry)) (first rest : List Entry)
    → Valid start
    → Line start moves
    → EachShownByHand start moves lists
    → joined lists ≡ first ++ rest
    → ConfirmNone start (deduplicated (reverse first))

-- So these hands are left alone: nothing is put in.
abbrev pub HonestHandsAreLeftAlone : Type 0
HonestHandsAreLeftAlone =
    (start : Parts) (moves : List Move) (lists : List (List Entry)) (first rest written : List Entry) (score : Score) (waiting : List Entry)
    → Valid start
    → Line start moves
    → EachShownByHand start moves lists
    → joined lists ≡ first ++ rest
    → Writes start (deduplicated (reverse first)) written score waiting
    → written ≡ deduplicated (reverse first)

-- Hands that do nothing but the move are such hands.
abbrev pub PlainHandsAreOnTheWay : Type 0
PlainHandsAreOnTheWay = (p : Parts) (m : Move) (seen : List ℕ) → Valid p → Legal p m → IsPartial p m seen → IsOnTheWay p m seen
