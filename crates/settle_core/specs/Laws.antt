-- What holds of all games.
use Rattle.std.specs.Prelude.{◌≡◌, ◌⊎◌, ℕ, ◌≤◌, ◌+◌, ◌↔◌, IsTrue, List, ◌∷◌, ◌++◌, None, length, reverse}
use Rattle.std.specs.List.{flat_map}
use Rattle.chess_rules.specs.declared.chess_move.Move.{Move}
use Rattle.chess_rules.specs.declared.parts.Parts.{Parts}
use Rattle.chess_rules.specs.After.{after}
use Rattle.chess_rules.specs.Legal.{Legal}
use Rattle.chess_rules.specs.Picture.{picture}
use Rattle.chess_rules.specs.Valid.{Valid}
use Rattle.settle_core.specs.Entries.{Entry, repeats, deduplicated}
use Rattle.settle_core.specs.declared.plies.Outcome.{Outcome}
use Rattle.settle_core.specs.declared.plies.Ply.{Ply}
use Rattle.settle_core.specs.declared.plies.Seen.TheVariants.{Waits}
use Rattle.settle_core.specs.Settling.{Settles, Line, Played, position_after, reached}
use Rattle.settle_core.specs.Sign.{IsSign}
use Rattle.settle_core.specs.Folding.{Score, Folds, SeenAs, moves_of}
use Rattle.settle_core.specs.HonestPlay.{AllWithinTurnOrLackKing, HasWhole, IsFront, IsUnderWay, IsWithinTurn, ShownEach, ShowsNoMore, ShowsNoMoreOrLacksKing}

-- the lists, one after the other
abbrev pub joined : List (List Entry) → List Entry
joined lists = flat_map (λ list. list) lists

-- The entries, in their order, fold to this score.
abbrev pub GivesScore : Parts → List Entry → Score → Type 0
GivesScore start entries score = Folds start (deduplicated (reverse entries)) score

-- For every line of moves, with a list of entries that shows each in its position, whatever the readings: the lists,
-- one after the other, fold to plies with exactly these moves, and after no entry a sign stands.
abbrev pub HonestPlayFolds : Type 0
HonestPlayFolds =
    (start : Parts) (moves : List Move) (lists : List (List Entry))
    → Valid start
    → Line start moves
    → ShownEach start moves lists
    → ((score : Score) → GivesScore start (joined lists) score → moves_of (reverse score.plies) ≡ moves)
    × ((first rest : List Entry) (score : Score) → joined lists ≡ first ++ rest → GivesScore start first score → score.sign ≡ None)

-- Where honest play stops between two moves: after a line, and then pictures within the turn or with a king off the
-- board, no sign stands, and the plies are those of the line, or these and one more: of a legal move that takes no
-- piece, and that was shown.
abbrev pub HonestPlayStops : Type 0
HonestPlayStops =
    (start : Parts) (moves : List Move) (lists : List (List Entry)) (part : List Entry) (score : Score)
    → Valid start
    → Line start moves
    → ShownEach start moves lists
    → AllWithinTurnOrLackKing (position_after start moves) part
    → GivesScore start (joined lists ++ part) score
    → (score.sign ≡ None) × HasWhole start moves lists part (reverse score.plies)

-- So it is after any front of honest play.
abbrev pub FrontsOfHonestPlay : Type 0
FrontsOfHonestPlay =
    (start : Parts) (moves : List Move) (lists : List (List Entry)) (first rest : List Entry) (score : Score)
    → Valid start
    → Line start moves
    → ShownEach start moves lists
    → joined lists ≡ first ++ rest
    → GivesScore start first score
    → (score.sign ≡ None)
    × ((front : IsFront start moves lists first) × HasWhole start front.done front.whole front.part (reverse score.plies))

-- After moves that are legal in their turn, a picture waits that shows no more than the position has, or on which a
-- king stands nowhere, whatever else it shows.
abbrev pub RestingWaits : Type 0
RestingWaits =
    (start : Parts) (moves : List Move) (seen : List ℕ)
    → Valid start
    → Played start moves
    → ShowsNoMoreOrLacksKing (reached start moves) seen
    → SeenAs start moves seen Waits

-- Nothing is guessed where two plies were not seen: after moves that are legal in their turn, whatever they are, the
-- picture after a legal move and a legal reply waits.
abbrev pub TwoUnseenWait : Type 0
TwoUnseenWait =
    (start : Parts) (moves : List Move) (m reply : Move)
    → Valid start
    → Played start moves
    → Legal (reached start moves) m
    → Legal (after (reached start moves) m) reply
    → SeenAs start moves (picture (after (after (reached start moves) m) reply)) Waits

-- So an entry with such a picture leaves the score as it was.
abbrev pub TwoUnseenChangeNothing : Type 0
TwoUnseenChangeNothing =
    (start : Parts) (past : List Entry) (entry : Entry) (before score : Score) (m reply : Move)
    → Valid start
    → Folds start past before
    → Legal (reached start (moves_of before.plies)) m
    → Legal (after (reached start (moves_of before.plies)) m) reply
    → entry.picture ≡ picture (after (after (reached start (moves_of before.plies)) m) reply)
    → Folds start (entry ∷ past) score
    → score ≡ before

-- After three unseen plies, no move of the position is settled, and no sign.
abbrev pub ThreeUnseenSettleNothing : Type 0
ThreeUnseenSettleNothing =
    (p : Parts) (m reply next : Move)
    → Valid p
    → Legal p m
    → Legal (after p m) reply
    → Legal (after (after p m) reply) next
    → ((n : Move) → ¬ Settles p (picture (after (after (after p m) reply) next)) n)
    × ((over : Parts) (outcome : Outcome) → ¬ IsSign over (picture (after (after (after p m) reply) next)) outcome)

-- The score has another last ply, and the same ones before it; no sign stands.
pub record HasAnotherLastPly (before score : Score) : Type 0 where
  pub old : Ply
  pub new : Ply
  pub earlier : List Ply
  pub was : before.plies ≡ old ∷ earlier
  pub is : score.plies ≡ new ∷ earlier
  pub no_sign : score.sign ≡ None

-- So an entry with such a picture leaves the score as it was, or corrects its last ply.
abbrev pub ThreeUnseenAddNothing : Type 0
ThreeUnseenAddNothing =
    (start : Parts) (past : List Entry) (entry : Entry) (before score : Score) (m reply next : Move)
    → Valid start
    → Folds start past before
    → Legal (reached start (moves_of before.plies)) m
    → Legal (after (reached start (moves_of before.plies)) m) reply
    → Legal (after (after (reached start (moves_of before.plies)) m) reply) next
    → entry.picture ≡ picture (after (after (after (reached start (moves_of before.plies)) m) reply) next)
    → Folds start (entry ∷ past) score
    → (score ≡ before) ⊎ HasAnotherLastPly before score

-- A picture that shows no more than the position has is within the mover's turn.
abbrev pub NoMoreIsWithinTurn : Type 0
NoMoreIsWithinTurn = (p : Parts) (seen : List ℕ) → Valid p → ShowsNoMore p seen → IsWithinTurn p seen

-- A picture on the way to a move, or a try of its piece, is within the mover's turn.
abbrev pub UnderWayIsWithinTurn : Type 0
UnderWayIsWithinTurn = (p : Parts) (m : Move) (seen : List ℕ) → Valid p → Legal p m → IsUnderWay p m seen → IsWithinTurn p seen

-- Taking out an entry whose picture equals the one before leaves the score: entries are listed with the latest first,
-- so `later` came after the entry.
abbrev pub RepeatsCountOnce : Type 0
RepeatsCountOnce =
    (start : Parts) (later past : List Entry) (entry : Entry) (score : Score)
    → IsTrue (repeats entry.picture past)
    → Folds start (deduplicated (later ++ entry ∷ past)) score ↔ Folds start (deduplicated (later ++ past)) score

-- From a valid start, a list of entries folds to one score at most.
abbrev pub FoldsOnce : Type 0
FoldsOnce =
    (start : Parts) (past : List Entry) (a b : Score) → Valid start → Folds start past a → Folds start past b → a ≡ b

-- No entry gives more than one ply.
abbrev pub NoEntryGivesTwo : Type 0
NoEntryGivesTwo =
    (start : Parts) (entry : Entry) (past : List Entry) (before score : Score)
    → Valid start
    → Folds start past before
    → Folds start (entry ∷ past) score
    → length score.plies ≤ length before.plies + 1

-- A picture that settles a move of a valid position is no sign, over whatever position.
abbrev pub SignsSettleNothing : Type 0
SignsSettleNothing =
    (p over : Parts) (seen : List ℕ) (m : Move) (outcome : Outcome) → Valid p → Settles p seen m → ¬ IsSign over seen outcome
