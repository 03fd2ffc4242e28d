-- What a recoverer has recovered.
use Rattle.std.specs.Prelude.{◌≡◌, ℕ, true, false, List, ◌∷◌, Option, Some, None}
use Rattle.chess_rules.specs.declared.parts.Parts.{Parts}
use Rattle.chess_rules.specs.Picture.{picture}
use Rattle.settle_core.specs.Entries.{Entry, entry_of, last_picture, repeats, deduplicated}
use Rattle.settle_core.specs.Settler.{HasSettled, SettlerState}
use Rattle.settle_core.specs.Folding.{Score, moves_of}
use Rattle.settle_core.specs.declared.plies.Seen.TheVariants.{Same, Moved, Sign, Replaced, Waits}
use Rattle.unseen_pairs.specs.declared.confirming.Candidate.{Candidate}
use Rattle.unseen_pairs.specs.declared.pair.SeenOrFound.{SeenOrFound}
use Rattle.unseen_pairs.specs.declared.pair.Recovery.{Recovery}
use Rattle.unseen_pairs.specs.declared.pair.SeenOrRecovered.{SeenOrRecovered}
use Rattle.unseen_pairs.specs.declared.pair.SeenOrRecovered.TheVariants.{Shown, Recovered}
use Rattle.unseen_pairs.specs.Recovering.{FoldsRecovering, TellsAs}
use Rattle.unseen_pairs.specs.Candidates.{ListsCandidates}

-- What is seen of a recoverer: its settler, and the candidates.
pub record RecovererState : Type 0 where
  pub settler : SettlerState
  pub candidates : List Candidate

-- From this start the recoverer was given the first entries, the latest first, and the second ones are those with what
-- was put in. Its settler has settled these; its score is what the first ones give where unseen pairs are recovered; and
-- its candidates explain those that wait.
pub record HasRecovered (recoverer : RecovererState) (start : Parts) (past written : List Entry) : Type 0 where
  pub settles : HasSettled recoverer.settler start written
  pub last : last_picture written ≡ last_picture past
  pub waiting : List Entry
  pub folds : FoldsRecovering start (deduplicated past) recoverer.settler.score waiting
  pub candidates : ListsCandidates start (moves_of recoverer.settler.score.plies) waiting recoverer.candidates

-- The entries with what was put in, after one more: where a pair was recovered, the pictures after each of its plies,
-- at the reading of the entry that it explains, and then the entry again.
abbrev pub written_after : Entry → SeenOrRecovered → List Entry → List Entry
written_after entry (Shown answer) written = entry ∷ written
written_after entry (Recovered r) written =
    entry ∷ entry_of (picture r.after) r.reading ∷ entry_of (picture r.middle) r.reading ∷ entry ∷ written

-- P holds of what was told. Where that was no pair, it is the answer that was heard. Where a pair was heard, it is the
-- pair that was found; where none was found then, this is false.
abbrev pub HoldsOf : (SeenOrRecovered → Type 0) → SeenOrFound → Option Recovery → Type 0
HoldsOf P (SeenOrFound.Shown answer) found = P (Shown answer)
HoldsOf P SeenOrFound.Recovered (Some r) = P (Recovered r)
HoldsOf P SeenOrFound.Recovered None = ⊥

-- what a picture that is not the last one tells after these entries
abbrev pub TellsNew : Parts → List Entry → List ℕ → SeenOrRecovered → Type 0
TellsNew start past seen told = (repeats seen past ≡ false)
    × ((score : Score) × (waiting : List Entry) × FoldsRecovering start (deduplicated past) score waiting
    × TellsAs start (moves_of score.plies) waiting seen told)

-- the result for a picture after these entries
abbrev pub ReturnsTold : Parts → List Entry → List ℕ → SeenOrRecovered → Type 0
ReturnsTold start past seen (Shown Same) = repeats seen past ≡ true
ReturnsTold start past seen (Shown (Moved m)) = TellsNew start past seen (Shown (Moved m))
ReturnsTold start past seen (Shown (Sign outcome)) = TellsNew start past seen (Shown (Sign outcome))
ReturnsTold start past seen (Shown (Replaced m)) = TellsNew start past seen (Shown (Replaced m))
ReturnsTold start past seen (Shown Waits) = TellsNew start past seen (Shown Waits)
ReturnsTold start past seen (Recovered r) = TellsNew start past seen (Recovered r)
