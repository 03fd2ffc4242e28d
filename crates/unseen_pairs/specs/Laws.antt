-- What holds of all games in which unseen pairs are recovered. Entries, plies and moves are listed with the latest
-- first.
use Rattle.std.specs.Prelude.{◌≡◌, ◌⊎◌, ◌↔◌, List, [], ◌∷◌, ◌++◌, None, reverse}
use Rattle.chess_rules.specs.declared.parts.Parts.{Parts}
use Rattle.chess_rules.specs.After.{after}
use Rattle.chess_rules.specs.Picture.{picture}
use Rattle.chess_rules.specs.Valid.{Valid}
use Rattle.settle_core.specs.declared.plies.Ply.{Ply}
use Rattle.settle_core.specs.Entries.{Entry}
use Rattle.settle_core.specs.Settling.{Line, reached}
use Rattle.settle_core.specs.Folding.{Folds, Score, moves_of, time_of}
use Rattle.unseen_pairs.specs.declared.pair.Recovery.{Recovery}
use Rattle.unseen_pairs.specs.declared.pair.SeenOrRecovered.{SeenOrRecovered}
use Rattle.unseen_pairs.specs.declared.pair.SeenOrRecovered.TheVariants.{Recovered}
use Rattle.unseen_pairs.specs.Pairs.{root}
use Rattle.unseen_pairs.specs.Recovering.{FoldsRecovering, TellsAs, score_told, waiting_after}
use Rattle.unseen_pairs.specs.Recoverer.{written_after}

-- None of the entries confirms a pair, where it comes.
abbrev pub ConfirmNone : Parts → List Entry → Type 0
ConfirmNone start [] = Unit {0}
ConfirmNone start (entry ∷ past) = ConfirmNone start past
    × ((score : Score) (waiting : List Entry) (r : Recovery)
    → FoldsRecovering start past score waiting → ¬ TellsAs start (moves_of score.plies) waiting entry.picture (Recovered r))

-- The first entries give this score and these of them wait, as in FoldsRecovering; the second ones are those with what
-- is put in.
abbrev pub Writes : Parts → List Entry → List Entry → Score → List Entry → Type 0
Writes start [] written score waiting = (written ≡ []) × (score ≡ record { plies = []; sign = None }) × (waiting ≡ [])
Writes start (entry ∷ past) written score waiting =
    (before : Score) × (waited : List Entry) × (told : SeenOrRecovered) × (earlier : List Entry)
    × Writes start past earlier before waited
    × TellsAs start (moves_of before.plies) waited entry.picture told
    × (written ≡ written_after entry told earlier)
    × (score ≡ score_told start before entry.reading told)
    × (waiting ≡ waiting_after start (moves_of before.plies) waited entry told)

-- Where none of the entries confirms a pair, the score is the one to which they fold without recovering.
abbrev pub NothingConfirmed : Type 0
NothingConfirmed =
    (start : Parts) (past : List Entry) (score : Score)
    → ConfirmNone start past
    → Folds start past score ↔ ((waiting : List Entry) × FoldsRecovering start past score waiting)

-- And nothing is put in.
abbrev pub NothingPutIn : Type 0
NothingPutIn =
    (start : Parts) (past written : List Entry) (score : Score) (waiting : List Entry)
    → ConfirmNone start past
    → Writes start past written score waiting
    → written ≡ past

-- Whatever entries give where unseen pairs are recovered, those with what is put in fold to without recovering.
abbrev pub WrittenFolds : Type 0
WrittenFolds =
    (start : Parts) (past written : List Entry) (score : Score) (waiting : List Entry)
    → Valid start
    → Writes start past written score waiting
    → Folds start written score

-- Wherever unseen pairs are recovered, there are such entries, and wherever there are, so they are.
abbrev pub IsWritten : Type 0
IsWritten =
    (start : Parts) (past : List Entry) (score : Score) (waiting : List Entry)
    → FoldsRecovering start past score waiting ↔ ((written : List Entry) × Writes start past written score waiting)

-- From a valid start a list of entries gives one score at most, and the same of them wait.
abbrev pub RecoversOnce : Type 0
RecoversOnce =
    (start : Parts) (past : List Entry) (a b : Score) (v w : List Entry)
    → Valid start
    → FoldsRecovering start past a v
    → FoldsRecovering start past b w
    → (a ≡ b) × (v ≡ w)

-- And nothing else is put in.
abbrev pub WritesOnce : Type 0
WritesOnce =
    (start : Parts) (past x y : List Entry) (a b : Score) (v w : List Entry)
    → Valid start
    → Writes start past x a v
    → Writes start past y b w
    → x ≡ y

-- Each move is legal in the position after those before it.
abbrev pub PliesAreLegal : Type 0
PliesAreLegal =
    (start : Parts) (past : List Entry) (score : Score) (waiting : List Entry)
    → Valid start
    → FoldsRecovering start past score waiting
    → Line start (moves_of (reverse score.plies))

-- This ply after these was shown whole: one of the entries has the picture after it, and in its reading the mover has
-- the time that is the ply's clock.
pub record WasShown (start : Parts) (ply : Ply) (earlier : List Ply) (past : List Entry) : Type 0 where
  pub later : List Entry
  pub entry : Entry
  pub before : List Entry
  pub among : past ≡ later ++ entry ∷ before
  pub shows : entry.picture ≡ picture (after (reached start (moves_of earlier)) ply.mv)
  pub clock_is : ply.clock ≡ time_of (reached start (moves_of earlier)).side entry.reading

-- This ply after these is one of a pair: the pair was told by one of the entries, and is the ply and its reply, or the
-- ply is the reply in it. In the pair's reading the mover has the time that is the ply's clock.
pub record WasRecovered (start : Parts) (ply : Ply) (earlier : List Ply) (past : List Entry) : Type 0 where
  pub later : List Entry
  pub entry : Entry
  pub before : List Entry
  pub among : past ≡ later ++ entry ∷ before
  pub score : Score
  pub waiting : List Entry
  pub folds : FoldsRecovering start before score waiting
  pub r : Recovery
  pub tells : TellsAs start (moves_of score.plies) waiting entry.picture (Recovered r)
  pub one : ((ply.mv ≡ r.pair.first) × (moves_of earlier ≡ root r.pair.corrects (moves_of score.plies)))
      ⊎ ((ply.mv ≡ r.pair.second) × (moves_of earlier ≡ r.pair.first ∷ root r.pair.corrects (moves_of score.plies)))
  pub clock_is : ply.clock ≡ time_of (reached start (moves_of earlier)).side r.reading

-- each of the plies was shown whole, or is one of a pair
abbrev pub AllComeFrom : Parts → List Ply → List Entry → Type 0
AllComeFrom start [] past = Unit {0}
AllComeFrom start (ply ∷ earlier) past =
    (WasShown start ply earlier past ⊎ WasRecovered start ply earlier past) × AllComeFrom start earlier past

-- Nothing is invented: each ply was shown whole, or is one of a pair that was recovered.
abbrev pub PliesAreShownOrRecovered : Type 0
PliesAreShownOrRecovered =
    (start : Parts) (past : List Entry) (score : Score) (waiting : List Entry)
    → FoldsRecovering start past score waiting
    → AllComeFrom start score.plies past
