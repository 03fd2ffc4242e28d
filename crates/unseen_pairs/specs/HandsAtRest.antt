-- Hands of both sides between two moves and after the last one: they lift pieces and put them back, in any order, clear
-- the board, set up the kings. No pair is recovered there.
use Rattle.std.specs.Prelude.{◌≡◌, ◌⊎◌, ℕ, List, [], ◌∷◌, ◌++◌, reverse}
use Rattle.chess_rules.specs.declared.chess_move.Move.{Move}
use Rattle.chess_rules.specs.declared.parts.Parts.{Parts}
use Rattle.chess_rules.specs.After.{after}
use Rattle.chess_rules.specs.Valid.{Valid}
use Rattle.settle_core.specs.AnyPlay.{ShowsBothKings}
use Rattle.settle_core.specs.Entries.{Entry, deduplicated}
use Rattle.settle_core.specs.Folding.{Score, moves_of}
use Rattle.settle_core.specs.HonestPlay.{ShowsNoMoreOrLacksKing}
use Rattle.settle_core.specs.Settling.{Line, position_after, reached}
use Rattle.unseen_pairs.specs.HonestHands.{ShownByHand}
use Rattle.unseen_pairs.specs.Laws.{ConfirmNone, Writes}

-- What may be seen while no move is made: each square shows what the position has or nothing; or a king is off the
-- board, and then whatever else shows; or both kings are in the centre, and then whatever else shows.
abbrev pub IsAtRest : Parts → List ℕ → Type 0
IsAtRest p seen = ShowsNoMoreOrLacksKing p seen ⊎ ShowsBothKings seen

-- such entries
abbrev pub AreAtRest : Parts → List Entry → Type 0
AreAtRest p [] = Unit {0}
AreAtRest p (entry ∷ more) = IsAtRest p entry.picture × AreAtRest p more

-- Whatever came before: from where nothing waits, entries with such pictures, in any order, add no pair, and the plies
-- stay. All have the latest first.
abbrev pub RestAddsNothing : Type 0
RestAddsNothing =
    (start : Parts) (later past written all : List Entry) (before score : Score) (waiting : List Entry)
    → Valid start
    → Writes start past written before []
    → AreAtRest (reached start (moves_of before.plies)) later
    → Writes start (later ++ past) all score waiting
    → (all ≡ later ++ written) × (score.plies ≡ before.plies)

-- what comes from one whole move to the next: entries while no move is made, and those of the move
pub record Turn : Type 0 where
  pub rested : List Entry
  pub shown : List Entry

-- The turns show the moves of a line, one turn for each.
abbrev pub EachTurnShows : Parts → List Move → List Turn → Type 0
EachTurnShows p [] [] = Unit {0}
EachTurnShows p [] (turn ∷ turns) = ⊥
EachTurnShows p (m ∷ moves) [] = ⊥
EachTurnShows p (m ∷ moves) (turn ∷ turns) =
    (AreAtRest p turn.rested × ShownByHand p m turn.shown) × EachTurnShows (after p m) moves turns

-- all entries of the turns
abbrev pub turned_in : List Turn → List Entry
turned_in [] = []
turned_in (turn ∷ turns) = turn.rested ++ (turn.shown ++ turned_in turns)

-- Where each move of a line is shown so, and no move is made after the last one, no entry confirms a pair, wherever the
-- entries are broken off.
abbrev pub HandsAtRestConfirmNone : Type 0
HandsAtRestConfirmNone =
    (start : Parts) (moves : List Move) (turns : List Turn) (rested first rest : List Entry)
    → Valid start
    → Line start moves
    → EachTurnShows start moves turns
    → AreAtRest (position_after start moves) rested
    → turned_in turns ++ rested ≡ first ++ rest
    → ConfirmNone start (deduplicated (reverse first))

-- So nothing is put in.
abbrev pub HandsAtRestAreLeftAlone : Type 0
HandsAtRestAreLeftAlone =
    (start : Parts) (moves : List Move) (turns : List Turn) (rested first rest written : List Entry) (score : Score) (waiting : List Entry)
    → Valid start
    → Line start moves
    → EachTurnShows start moves turns
    → AreAtRest (position_after start moves) rested
    → turned_in turns ++ rested ≡ first ++ rest
    → Writes start (deduplicated (reverse first)) written score waiting
    → written ≡ deduplicated (reverse first)
