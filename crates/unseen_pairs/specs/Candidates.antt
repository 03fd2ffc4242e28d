-- Candidates: the pairs that explain entries which wait, as a recoverer keeps them.
use Rattle.std.specs.Prelude.{◌≡◌, ℕ, List, Contains}
use Rattle.chess_rules.specs.declared.chess_move.Move.{Move}
use Rattle.chess_rules.specs.declared.parts.Parts.{Parts}
use Rattle.chess_rules.specs.After.{after}
use Rattle.chess_rules.specs.Picture.{picture}
use Rattle.settle_core.specs.Entries.{Entry}
use Rattle.unseen_pairs.specs.declared.pair.Pair.{Pair}
use Rattle.unseen_pairs.specs.declared.confirming.Candidate.{Candidate}
use Rattle.unseen_pairs.specs.Pairs.{ExplainsAt, begins, ends}

-- The candidate's pair explains an entry that waits: the one that came as many entries before the last one as its age
-- says.
pub record IsCandidate (start : Parts) (moves : List Move) (waiting : List Entry) (c : Candidate) : Type 0 where
  pub entry : Entry
  pub at : ExplainsAt start moves waiting c.pair c.age entry
  pub reading_is : c.reading ≡ entry.reading
  pub before_is : c.before ≡ begins start moves c.pair
  pub middle_is : c.middle ≡ after (begins start moves c.pair) c.pair.first
  pub after_is : c.after ≡ ends start moves c.pair
  pub shown_is : c.shown ≡ picture c.after

-- There is a candidate for each of the last 256 entries that wait and each pair that explains it, and no other.
pub record ListsCandidates (start : Parts) (moves : List Move) (waiting : List Entry) (candidates : List Candidate) : Type 0 where
  pub each : (c : Candidate) → Contains candidates c → IsCandidate start moves waiting c
  pub whole : (pair : Pair) (place : ℕ) (entry : Entry) → ExplainsAt start moves waiting pair place entry
      → (c : Candidate) × Contains candidates c × (c.pair ≡ pair) × (c.age ≡ place)
