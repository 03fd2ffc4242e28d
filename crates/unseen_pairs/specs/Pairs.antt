-- Two plies of which no picture was whole.
use Rattle.std.specs.Prelude.{◌≡◌, ◌≢◌, ◌⊎◌, ◌<◌, ◌==◌, ℕ, Bool, true, List, [], ◌∷◌, Some, count_by, drop, slice_get, slice_index, if◌then◌else◌}
use Rattle.chess_rules.specs.declared.chess_move.Move.{Move}
use Rattle.chess_rules.specs.declared.parts.Parts.{Parts}
use Rattle.chess_rules.specs.After.{after}
use Rattle.chess_rules.specs.Legal.{Legal}
use Rattle.chess_rules.specs.Picture.{picture}
use Rattle.settle_core.specs.Settling.{Settles, reached}
use Rattle.settle_core.specs.Entries.{Entry}
use Rattle.settle_core.specs.declared.plies.Seen.{Seen}
use Rattle.settle_core.specs.declared.plies.Seen.TheVariants.{Moved, Sign}
use Rattle.settle_core.specs.Sign.{IsSign}
use Rattle.unseen_pairs.specs.declared.pair.Pair.{Pair}
use Rattle.unseen_pairs.specs.declared.pair.Recovery.{Recovery}

-- The picture is that after two legal plies.
pub record IsAfterTwo (p : Parts) (seen : List ℕ) (m n : Move) : Type 0 where
  pub first : Legal p m
  pub second : Legal (after p m) n
  pub shows : seen ≡ picture (after (after p m) n)

-- what stands before a pair: all of this, of which the latest comes first; where it corrects, all but the last one
abbrev pub root : {A : Type 0} → Bool → List A → List A
root corrects list = if corrects then drop 1 list else list

-- the positions in which the pair begins, and to which it leads
abbrev pub begins : Parts → List Move → Pair → Parts
begins start moves pair = reached start (root pair.corrects moves)

abbrev pub ends : Parts → List Move → Pair → Parts
ends start moves pair = after (after (begins start moves pair) pair.first) pair.second

-- There is a last move, and this is another one.
abbrev pub IsInstead : List Move → Move → Type 0
IsInstead [] m = ⊥
IsInstead (last ∷ earlier) m = m ≢ last

-- The pair explains the picture after these moves: two legal plies in the position reached, or, where it corrects,
-- another move in the place of the last one and a reply to it.
pub record Explains (start : Parts) (moves : List Move) (seen : List ℕ) (pair : Pair) : Type 0 where
  pub after_two : IsAfterTwo (begins start moves pair) seen pair.first pair.second
  pub instead : pair.corrects ≡ true → IsInstead moves pair.first

-- Some pair explains the picture after these moves.
abbrev pub IsExplained : Parts → List Move → List ℕ → Type 0
IsExplained start moves seen = (pair : Pair) × Explains start moves seen pair

-- how many squares show this code
abbrev pub times_shown : ℕ → List ℕ → ℕ
times_shown code seen = count_by (λ shown. shown == code) seen

-- Of some code the second picture has fewer than the first, and fewer than the third.
pub record IsMissedIn (before left seen : List ℕ) : Type 0 where
  pub code : ℕ
  pub some : 0 < code
  pub taken : times_shown code left < times_shown code before
  pub shown : times_shown code left < times_shown code seen

-- A piece is back that was taken between these two positions, the second of which has fewer of its code than the first:
-- the picture shows more of them than the second has.
abbrev pub IsBack : Parts → Parts → List ℕ → Type 0
IsBack now after seen = IsMissedIn (picture now) (picture after) seen

-- Of the last 256 of these entries, of which the latest comes first, the pair explains the one at this place. And no
-- piece that it took is back in an entry that came later.
pub record ExplainsAt (start : Parts) (moves : List Move) (waiting : List Entry) (pair : Pair) (place : ℕ) (entry : Entry) : Type 0 where
  pub low : place < 256
  pub waits : slice_get waiting place ≡ Some entry
  pub explains : Explains start moves entry.picture pair
  pub gone : (k : ℕ) (later : Entry) → k < place → slice_get waiting k ≡ Some later
      → ¬ IsBack (reached start moves) (ends start moves pair) later.picture

-- The picture shows a piece on a square where the position has none, or another.
pub record ShowsNew (now : Parts) (seen : List ℕ) : Type 0 where
  pub square : ℕ
  pub low : square < 64
  pub some : slice_index seen square ≢ 0
  pub new : slice_index seen square ≢ slice_index (picture now) square

-- The position after a pair, or this picture, shows such a piece.
abbrev pub BringsNew : Parts → Parts → List ℕ → Type 0
BringsNew now after seen = ShowsNew now (picture after) ⊎ ShowsNew now seen

-- The picture goes on from the second of these positions, to which a pair leads from the first. By a move: then the
-- pair, or this move, put a piece where none, or another one, stood; else pieces may just have been lifted and put
-- back. Or by a sign: then the pair did; else pieces may just have been taken off before the kings were set up.
abbrev pub GoesOn : Parts → Parts → List ℕ → Seen → Type 0
GoesOn now after seen (Moved m) = Settles after seen m × BringsNew now after seen
GoesOn now after seen (Sign outcome) = IsSign after seen outcome × ShowsNew now (picture after)
GoesOn now after seen _ = ⊥

-- The picture confirms this pair, and no other: the pair explains an entry that waits, of which the first in time has
-- this reading, and the picture goes on from the position after both plies; it goes on from no other pair that explains
-- one that waits.
pub record Confirms (start : Parts) (moves : List Move) (waiting : List Entry) (seen : List ℕ) (r : Recovery) : Type 0 where
  pub place : ℕ
  pub entry : Entry
  pub explains : ExplainsAt start moves waiting r.pair place entry
  pub first : (earlier : ℕ) (other : Entry) → place < earlier → ¬ ExplainsAt start moves waiting r.pair earlier other
  pub reading_is : r.reading ≡ entry.reading
  pub before_is : r.before ≡ begins start moves r.pair
  pub middle_is : r.middle ≡ after (begins start moves r.pair) r.pair.first
  pub after_is : r.after ≡ ends start moves r.pair
  pub goes_on : GoesOn (reached start moves) (ends start moves r.pair) seen r.sequel
  pub alone : (pair : Pair) (k : ℕ) (other : Entry) (a : Seen)
      → ExplainsAt start moves waiting pair k other → GoesOn (reached start moves) (ends start moves pair) seen a → pair ≡ r.pair
