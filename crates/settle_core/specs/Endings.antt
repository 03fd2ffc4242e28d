-- How honest play ends, and where it may be broken off.
use Rattle.std.specs.Prelude.{◌≡◌, ◌⊎◌, List, ◌∷◌, ◌++◌, Option, Some, None, reverse}
use Rattle.chess_rules.specs.declared.chess_move.Move.{Move}
use Rattle.chess_rules.specs.declared.parts.Parts.{Parts}
use Rattle.chess_rules.specs.Valid.{Valid}
use Rattle.settle_core.specs.declared.plies.Outcome.{Outcome}
use Rattle.settle_core.specs.Entries.{Entry}
use Rattle.settle_core.specs.Folding.{Score, score_of}
use Rattle.settle_core.specs.HonestPlay.{AllShowNoMoreOrLackKing, HasWhole, IsFront, ShownEach, shown_plies}
use Rattle.settle_core.specs.Laws.{GivesScore, joined}
use Rattle.settle_core.specs.Settling.{Line, position_after}
use Rattle.settle_core.specs.Sign.{IsSign}

-- The kings' picture, the sign of a result, stands among others on which pieces are taken off or set up.
pub record HasKingsSign (p : Parts) (outcome : Outcome) (entries : List Entry) : Type 0 where
  pub clearing : List Entry
  pub kings : Entry
  pub later : List Entry
  pub are : entries ≡ clearing ++ kings ∷ later
  pub clears : AllShowNoMoreOrLackKing p clearing
  pub is_sign : IsSign p kings.picture outcome
  pub rests : AllShowNoMoreOrLackKing p later

-- What is seen after the last move: pieces are taken off and set up again, and in between the kings may give a sign.
abbrev pub IsEnd : Parts → Option Outcome → List Entry → Type 0
IsEnd p None entries = AllShowNoMoreOrLackKing p entries
IsEnd p (Some outcome) entries = HasKingsSign p outcome entries

-- After honest play and such an end, the score is the plies of the line, with the sign.
abbrev pub HonestPlayEnds : Type 0
HonestPlayEnds =
    (start : Parts) (moves : List Move) (lists : List (List Entry)) (end : List Entry) (sign : Option Outcome) (score : Score)
    → Valid start
    → Line start moves
    → ShownEach start moves lists
    → IsEnd (position_after start moves) sign end
    → GivesScore start (joined lists ++ end) score
    → score ≡ score_of (shown_plies start moves lists) sign

-- These are the first entries of honest play, in a move or between two; the plies are those of the whole moves, or
-- these and one more; and no sign stands.
abbrev pub StopsWithin : Parts → List Move → List (List Entry) → List Entry → Score → Type 0
StopsWithin start moves lists first score = (score.sign ≡ None)
    × ((front : IsFront start moves lists first) × HasWhole start front.done front.whole front.part (reverse score.plies))

-- The plies are those of the line, with no sign or this one.
abbrev pub StopsAfter : Parts → List Move → List (List Entry) → Option Outcome → Score → Type 0
StopsAfter start moves lists sign score =
    (score ≡ score_of (shown_plies start moves lists) None) ⊎ (score ≡ score_of (shown_plies start moves lists) sign)

-- Honest play with such an end may be broken off anywhere.
abbrev pub HonestPlayStopsAnywhere : Type 0
HonestPlayStopsAnywhere =
    (start : Parts) (moves : List Move) (lists : List (List Entry)) (end : List Entry) (sign : Option Outcome) (first rest : List Entry)
    (score : Score)
    → Valid start
    → Line start moves
    → ShownEach start moves lists
    → IsEnd (position_after start moves) sign end
    → joined lists ++ end ≡ first ++ rest
    → GivesScore start first score
    → StopsWithin start moves lists first score ⊎ StopsAfter start moves lists sign score
