-- Moves that are made whole, taken back and made again.
use Rattle.std.specs.Prelude.{◌≡◌, ◌⊎◌, List, [], ◌∷◌, ◌++◌, None, reverse}
use Rattle.chess_rules.specs.declared.chess_move.Move.{Move}
use Rattle.chess_rules.specs.declared.parts.Parts.{Parts}
use Rattle.chess_rules.specs.declared.lines.Wing.{Wing}
use Rattle.chess_rules.specs.After.{after, rook_home}
use Rattle.chess_rules.specs.Legal.{Castles, Legal}
use Rattle.chess_rules.specs.Picture.{picture}
use Rattle.chess_rules.specs.Valid.{Valid}
use Rattle.settle_core.specs.declared.plies.Ply.{Ply}
use Rattle.settle_core.specs.Entries.{Entry}
use Rattle.settle_core.specs.Folding.{Score, moves_of}
use Rattle.settle_core.specs.HonestPlay.{AllWithinTurnOrLackKing, HasOneMore, HasWhole, HoldsOne, IsFront, IsWithinTurn, IsWithinTurnOrLacksKing, IsCapture, shown_plies}
use Rattle.settle_core.specs.Laws.{GivesScore, joined}
use Rattle.settle_core.specs.Settling.{Line, position_after}

-- The whole picture of a move that takes no piece is within the mover's turn: so it may stand among the pictures on the
-- way to this move, and to any other of the same side.
abbrev pub WholeMoveIsWithinTurn : Type 0
WholeMoveIsWithinTurn = (p : Parts) (m : Move) → Valid p → Legal p m → ¬ IsCapture p m → IsWithinTurn p (picture (after p m))

-- The entries, in their order, show the move in the end: the last of them has the picture after the move, and others
-- may have it too.
abbrev pub ShownInTheEnd : Parts → Move → List Entry → Type 0
ShownInTheEnd p m [] = ⊥
ShownInTheEnd p m (entry ∷ []) = entry.picture ≡ picture (after p m)
ShownInTheEnd p m (entry ∷ next ∷ more) = IsWithinTurnOrLacksKing p entry.picture × ShownInTheEnd p m (next ∷ more)

-- The lists of entries show the moves of a line, one list for each.
abbrev pub ShownEachInTheEnd : Parts → List Move → List (List Entry) → Type 0
ShownEachInTheEnd p [] [] = Unit {0}
ShownEachInTheEnd p [] (list ∷ lists) = ⊥
ShownEachInTheEnd p (m ∷ moves) [] = ⊥
ShownEachInTheEnd p (m ∷ moves) (list ∷ lists) = ShownInTheEnd p m list × ShownEachInTheEnd (after p m) moves lists

-- Honest play folds to its line also where a move that takes no piece is made whole, taken back, and made again before
-- the other side begins: the plies have exactly these moves, and no sign stands.
abbrev pub TakenBackAndMadeAgain : Type 0
TakenBackAndMadeAgain =
    (start : Parts) (moves : List Move) (lists : List (List Entry)) (score : Score)
    → Valid start
    → Line start moves
    → ShownEachInTheEnd start moves lists
    → GivesScore start (joined lists) score
    → (moves_of (reverse score.plies) ≡ moves) × (score.sign ≡ None)

-- And where it stops between two moves: the plies are those of the whole moves, or these and one more.
abbrev pub MadeAgainStops : Type 0
MadeAgainStops =
    (start : Parts) (moves : List Move) (lists : List (List Entry)) (part : List Entry) (score : Score)
    → Valid start
    → Line start moves
    → ShownEachInTheEnd start moves lists
    → AllWithinTurnOrLackKing (position_after start moves) part
    → GivesScore start (joined lists ++ part) score
    → (score.sign ≡ None) × ((made : List Ply) × (moves_of made ≡ moves)
    × ((reverse score.plies ≡ made) ⊎ HasOneMore (position_after start moves) made part (reverse score.plies)))

-- one piece in hand on each of these pictures
abbrev pub AllHoldOne : Parts → Move → List Entry → Type 0
AllHoldOne p m [] = Unit {0}
AllHoldOne p m (entry ∷ more) = HoldsOne p m entry.picture × AllHoldOne p m more

-- The move tried is one of the piece of the move m, or the rook's where m castles.
abbrev pub IsOfThePiece : Parts → Move → Move → Type 0
IsOfThePiece p m tried = (tried.from ≡ m.from) ⊎ ((wing : Wing) × Castles p m wing × (tried.from ≡ rook_home p.side wing))

-- Where honest play is broken off on the way to the move m, and each picture since the last whole move has one piece in
-- hand, the one ply more, if there is one, is of this piece.
abbrev pub OneHandStops : Type 0
OneHandStops =
    (start : Parts) (moves : List Move) (lists : List (List Entry)) (first : List Entry) (m : Move) (later : List Move) (made : List Ply)
    → Valid start
    → Line start moves
    → (front : IsFront start moves lists first)
    → front.later ≡ m ∷ later
    → AllHoldOne (position_after start front.done) m front.part
    → HasWhole start front.done front.whole front.part made
    → (made ≡ shown_plies start front.done front.whole)
    ⊎ ((ply : Ply) × (made ≡ shown_plies start front.done front.whole ++ ply ∷ [])
    × IsOfThePiece (position_after start front.done) m ply.mv)
