-- A recoverer while it takes a picture that shows nothing by itself.
use Rattle.std.specs.Prelude.{◌≡◌, false, List, ◌∷◌}
use Rattle.chess_rules.specs.declared.parts.Parts.{Parts}
use Rattle.settle_core.specs.Entries.{Entry, repeats, deduplicated}
use Rattle.settle_core.specs.Settler.{HasSettled}
use Rattle.settle_core.specs.Folding.{Folds, SeenAs, moves_of}
use Rattle.settle_core.specs.declared.plies.Seen.TheVariants.{Waits}
use Rattle.unseen_pairs.specs.declared.pair.SeenOrRecovered.{SeenOrRecovered}
use Rattle.unseen_pairs.specs.Recovering.{FoldsRecovering}
use Rattle.unseen_pairs.specs.Candidates.{ListsCandidates}
use Rattle.unseen_pairs.specs.Recoverer.{HasRecovered, RecovererState, ReturnsTold, written_after}

-- After these entries, and those with what was put in, this new one shows nothing by itself, and the settler has seen
-- it.
pub record IsWaiting (recoverer : RecovererState) (start : Parts) (past written : List Entry) (entry : Entry) : Type 0 where
  pub settles : HasSettled recoverer.settler start (entry ∷ written)
  pub folded : Folds start (deduplicated written) recoverer.settler.score
  pub new : repeats entry.picture past ≡ false
  pub same : repeats entry.picture written ≡ false
  pub waits : SeenAs start (moves_of recoverer.settler.score.plies) entry.picture Waits
  pub waiting : List Entry
  pub folds : FoldsRecovering start (deduplicated past) recoverer.settler.score waiting
  pub candidates : ListsCandidates start (moves_of recoverer.settler.score.plies) waiting recoverer.candidates

-- the recoverer after it, with what it told
pub record HasTold (recoverer : RecovererState) (start : Parts) (past written : List Entry) (entry : Entry) (told : SeenOrRecovered) : Type 0 where
  pub stands : HasRecovered recoverer start (entry ∷ past) (written_after entry told written)
  pub answer : ReturnsTold start past entry.picture told
