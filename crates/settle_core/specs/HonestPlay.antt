-- Pictures that show a move honestly: within the mover's turn, and at the move's end.
use Rattle.std.specs.Prelude.{◌≡◌, ◌≢◌, ◌⊎◌, ℕ, ◌<◌, List, [], ◌∷◌, ◌++◌, Option, None, IsSome, length, slice_index}
use Rattle.std.specs.List.{flat_map}
use Rattle.chess_clock.specs.declared.times.Reading.{Reading}
use Rattle.chess_rules.specs.declared.pieces.Side.{Side}
use Rattle.chess_rules.specs.declared.pieces.Side.TheVariants.{White, Black}
use Rattle.chess_rules.specs.declared.pieces.Kind.{Kind}
use Rattle.chess_rules.specs.declared.pieces.Kind.TheVariants.{Pawn, Rook, King}
use Rattle.chess_rules.specs.declared.chess_move.Move.{Move}
use Rattle.chess_rules.specs.declared.parts.Parts.{Parts}
use Rattle.chess_rules.specs.declared.lines.Wing.{Wing}
use Rattle.chess_rules.specs.Board.{on, piece_of, other}
use Rattle.chess_rules.specs.After.{after}
use Rattle.chess_rules.specs.Legal.{Legal, Captures, Castles, TakesEnPassant}
use Rattle.chess_rules.specs.Picture.{code, code_of_piece, picture}
use Rattle.settle_core.specs.declared.plies.Ply.{Ply}
use Rattle.settle_core.specs.Entries.{Entry}
use Rattle.settle_core.specs.Folding.{time_of}
use Rattle.settle_core.specs.Settling.{position_after}
use Rattle.settle_core.specs.Sign.{InCentre}

-- The move takes a piece: one of the other side stands there before it, and not after it.
pub record IsCapture (p : Parts) (m : Move) : Type 0 where
  pub square : ℕ
  pub kind : Kind
  pub stood : on p.board square ≡ piece_of (other p.side) kind
  pub gone : on (after p m).board square ≢ piece_of (other p.side) kind

-- the two kings' codes do not both stand in the centre
abbrev pub HasKingsApart : List ℕ → Type 0
HasKingsApart seen = (white black : ℕ) → InCentre white → InCentre black
    → slice_index seen white ≡ code_of_piece White King → slice_index seen black ≢ code_of_piece Black King

-- The picture is within the mover's turn. His own pieces may show anywhere, or nowhere. A piece of the other side shows
-- where it stands, or nowhere. The kings are not both in the centre. And no capture shows: the picture is not that
-- after a legal move that takes a piece.
pub record IsWithinTurn (p : Parts) (seen : List ℕ) : Type 0 where
  pub theirs : (s : ℕ) (kind : Kind) → s < 64 → slice_index seen s ≡ code_of_piece (other p.side) kind
      → on p.board s ≡ piece_of (other p.side) kind
  pub kings : HasKingsApart seen
  pub no_capture : (n : Move) → Legal p n → IsCapture p n → seen ≢ picture (after p n)

-- The code of one side's king stands nowhere.
pub record LacksKing (seen : List ℕ) : Type 0 where
  pub side : Side
  pub nowhere : (s : ℕ) → s < 64 → slice_index seen s ≢ code_of_piece side King

-- what may be seen between two moves: a picture within the turn, or a king off the board, and then whatever else
abbrev pub IsWithinTurnOrLacksKing : Parts → List ℕ → Type 0
IsWithinTurnOrLacksKing p seen = IsWithinTurn p seen ⊎ LacksKing seen

abbrev pub AllWithinTurnOrLackKing : Parts → List Entry → Type 0
AllWithinTurnOrLackKing p [] = Unit {0}
AllWithinTurnOrLackKing p (entry ∷ more) = IsWithinTurnOrLacksKing p entry.picture × AllWithinTurnOrLackKing p more

-- each square shows what the position has, or nothing
abbrev pub ShowsNoMore : Parts → List ℕ → Type 0
ShowsNoMore p seen = (s : ℕ) → s < 64 → (slice_index seen s ≡ code (on p.board s)) ⊎ (slice_index seen s ≡ 0)

-- what may be seen where pieces are taken off or set up: no more than the position has, or a king off the board
abbrev pub ShowsNoMoreOrLacksKing : Parts → List ℕ → Type 0
ShowsNoMoreOrLacksKing p seen = ShowsNoMore p seen ⊎ LacksKing seen

abbrev pub AllShowNoMoreOrLackKing : Parts → List Entry → Type 0
AllShowNoMoreOrLackKing p [] = Unit {0}
AllShowNoMoreOrLackKing p (entry ∷ more) = ShowsNoMoreOrLacksKing p entry.picture × AllShowNoMoreOrLackKing p more

-- the move changes what stands on s
abbrev pub ChangesSquare : Parts → Move → ℕ → Type 0
ChangesSquare p m s = on p.board s ≢ on (after p m).board s

-- what a square that the move changes may show: what stood there, what stands there after the move, nothing, or, where
-- a promotion ends, the mover's pawn
abbrev pub MayShow : Parts → Move → ℕ → ℕ → Type 0
MayShow p m s shown = (shown ≡ code (on p.board s)) ⊎ (shown ≡ code (on (after p m).board s)) ⊎ (shown ≡ 0)
    ⊎ (IsSome m.promotion × (s ≡ m.to) × (shown ≡ code_of_piece p.side Pawn))

-- Another piece of the mover is lifted: the move leaves it where it stands, and its square is empty.
pub record LiftsAnother (p : Parts) (m : Move) (seen : List ℕ) : Type 0 where
  pub square : ℕ
  pub kind : Kind
  pub stands : on p.board square ≡ piece_of p.side kind
  pub stays : ¬ ChangesSquare p m square
  pub lifted : slice_index seen square ≡ 0

-- A piece of the mover shows on s, and none that the move leaves where it is stands there: it is taken for one that is
-- moved.
pub record ShowsMoved (p : Parts) (m : Move) (seen : List ℕ) (s : ℕ) (kind : Kind) : Type 0 where
  pub low : s < 64
  pub shows : slice_index seen s ≡ code_of_piece p.side kind
  pub moved : (own : Kind) → on p.board s ≡ piece_of p.side own → ChangesSquare p m s

-- one is a king, the other a rook
abbrev pub AreKingAndRook : Kind → Kind → Type 0
AreKingAndRook j k = ((j ≡ King) × (k ≡ Rook)) ⊎ ((j ≡ Rook) × (k ≡ King))

-- The picture shows one piece moved at most where another piece of the mover is lifted; where the move castles, the
-- king and the rook.
abbrev pub HoldsOne : Parts → Move → List ℕ → Type 0
HoldsOne p m seen = LiftsAnother p m seen
    → (s t : ℕ) (j k : Kind) → ShowsMoved p m seen s j → ShowsMoved p m seen t k
    → (s ≡ t) ⊎ ((wing : Wing) × Castles p m wing × AreKingAndRook j k)

-- The picture shows the move on its way: every square that it does not change is as it was.
pub record IsPartial (p : Parts) (m : Move) (seen : List ℕ) : Type 0 where
  pub squares : length seen ≡ 64
  pub changed : (s : ℕ) → s < 64 → ChangesSquare p m s → MayShow p m s (slice_index seen s)
  pub unchanged : (s : ℕ) → s < 64 → ¬ ChangesSquare p m s → slice_index seen s ≡ code (on p.board s)

-- The picture shows the move's piece tried on another square: it is that after another legal move of the piece, which
-- captures nothing.
pub record IsTry (p : Parts) (m : Move) (seen : List ℕ) : Type 0 where
  pub tried : Move
  pub legal : Legal p tried
  pub same_piece : tried.from ≡ m.from
  pub another : tried ≢ m
  pub no_capture : ¬ Captures p tried
  pub no_en_passant : ¬ TakesEnPassant p tried
  pub shows : seen ≡ picture (after p tried)

-- The picture shows the move on its way, or a try, and not yet the move's end.
pub record IsUnderWay (p : Parts) (m : Move) (seen : List ℕ) : Type 0 where
  pub way : IsPartial p m seen ⊎ IsTry p m seen
  pub not_yet : seen ≢ picture (after p m)

-- The entries, in their order, show the move: the last of them, and no other, has the picture after the move.
abbrev pub Shown : Parts → Move → List Entry → Type 0
Shown p m [] = ⊥
Shown p m (entry ∷ []) = entry.picture ≡ picture (after p m)
Shown p m (entry ∷ next ∷ more) = (IsWithinTurnOrLacksKing p entry.picture × (entry.picture ≢ picture (after p m))) × Shown p m (next ∷ more)

-- The lists of entries show the moves of a line, one list for each.
abbrev pub ShownEach : Parts → List Move → List (List Entry) → Type 0
ShownEach p [] [] = Unit {0}
ShownEach p [] (list ∷ lists) = ⊥
ShownEach p (m ∷ moves) [] = ⊥
ShownEach p (m ∷ moves) (list ∷ lists) = Shown p m list × ShownEach (after p m) moves lists

-- the reading of the last of these entries
abbrev pub last_reading : List Entry → Option Reading
last_reading [] = None
last_reading (entry ∷ []) = entry.reading
last_reading (entry ∷ next ∷ more) = last_reading (next ∷ more)

-- the plies of a line that lists of entries show: each has its mover's time in the reading of the entry that ends its
-- list
abbrev pub shown_plies : Parts → List Move → List (List Entry) → List Ply
shown_plies p [] lists = []
shown_plies p (m ∷ moves) [] = []
shown_plies p (m ∷ moves) (list ∷ lists) =
    record { mv = m; clock = time_of p.side (last_reading list) } ∷ shown_plies (after p m) moves lists

-- one of these entries has this picture
pub record IsAmong (entries : List Entry) (seen : List ℕ) : Type 0 where
  pub entry : Entry
  pub first : List Entry
  pub rest : List Entry
  pub stands : entries ≡ first ++ entry ∷ rest
  pub shows : entry.picture ≡ seen

-- The plies made are these, which lead to p, and one more: of a legal move that takes no piece, and the picture after
-- it is among those of these entries.
pub record HasOneMore (p : Parts) (plies : List Ply) (part : List Entry) (made : List Ply) : Type 0 where
  pub ply : Ply
  pub legal : Legal p ply.mv
  pub no_capture : ¬ IsCapture p ply.mv
  pub seen : IsAmong part (picture (after p ply.mv))
  pub is : made ≡ plies ++ ply ∷ []

-- The plies made are those of whole moves, or these and such a one.
abbrev pub HasWhole : Parts → List Move → List (List Entry) → List Entry → List Ply → Type 0
HasWhole start moves lists part made = (made ≡ shown_plies start moves lists)
    ⊎ HasOneMore (position_after start moves) (shown_plies start moves lists) part made

-- The part is the first entries of the next list, but not all of it.
pub record IsPartOfNext (left : List (List Entry)) (part : List Entry) : Type 0 where
  pub list : List Entry
  pub lists : List (List Entry)
  pub left_is : left ≡ list ∷ lists
  pub entry : Entry
  pub more : List Entry
  pub list_is : list ≡ part ++ entry ∷ more

-- The first entries of lists that show a line of moves are those of whole moves, and a part of the next move's list, if
-- any.
pub record IsFront (start : Parts) (moves : List Move) (lists : List (List Entry)) (first : List Entry) : Type 0 where
  pub done : List Move
  pub later : List Move
  pub moves_are : moves ≡ done ++ later
  pub whole : List (List Entry)
  pub left : List (List Entry)
  pub lists_are : lists ≡ whole ++ left
  pub shown : ShownEach start done whole
  pub part : List Entry
  pub entries : first ≡ flat_map (λ list. list) whole ++ part
  pub next : (part ≡ []) ⊎ IsPartOfNext left part
