-- How the candidates of entries that wait are added, kept and chosen.
use Rattle.std.specs.Prelude.{◌≡◌, ◌≢◌, ◌<◌, ◌≤◌, ◌+◌, ◌⊎◌, ℕ, Bool, true, false, List, [], ◌∷◌, Contains, Option, Some, None, length, slice_index, slice_index_or, slice_set, swap_remove}
use Rattle.chess_clock.specs.declared.times.Reading.{Reading}
use Rattle.chess_rules.specs.declared.parts.Parts.{Parts}
use Rattle.chess_rules.specs.After.{after}
use Rattle.chess_rules.specs.Picture.{picture}
use Rattle.settle_core.specs.declared.plies.Ply.{Ply}
use Rattle.settle_core.specs.declared.plies.Seen.{Seen}
use Rattle.settle_core.specs.declared.plies.Seen.TheVariants.{Waits}
use Rattle.settle_core.specs.Settler.{SettlerState}
use Rattle.settle_core.specs.Settling.{Played, reached}
use Rattle.settle_core.specs.Folding.{SeenAs, moves_of}
use Rattle.unseen_pairs.specs.declared.pair.TwoPlies.{TwoPlies}
use Rattle.unseen_pairs.specs.declared.confirming.Candidate.{Candidate}
use Rattle.unseen_pairs.specs.declared.confirming.Confirmed.{Confirmed}
use Rattle.unseen_pairs.specs.Pairs.{GoesOn, IsAfterTwo, IsMissedIn, times_shown}

-- The candidate has the picture of its position, and this goes on from there.
pub record Follows (now : Parts) (c : Candidate) (seen : List ℕ) (a : Seen) : Type 0 where
  pub shown : c.shown ≡ picture c.after
  pub goes : GoesOn now c.after seen a

-- Each candidate has the picture of its position.
abbrev pub AreShown : List Candidate → Type 0
AreShown candidates = (c : Candidate) → Contains candidates c → c.shown ≡ picture c.after

-- The picture goes on from this candidate, the oldest one of its pair, and from those of no other pair. The position is
-- the one that is reached.
pub record IsOnlyOne (now : Parts) (candidates : List Candidate) (seen : List ℕ) (one : Confirmed) : Type 0 where
  pub listed : Contains candidates one.candidate
  pub goes_on : GoesOn now one.candidate.after seen one.sequel
  pub alone : (c : Candidate) (a : Seen) → Contains candidates c → Follows now c seen a → c.pair ≡ one.candidate.pair
  pub oldest : (c : Candidate) (a : Seen) → Contains candidates c → Follows now c seen a → c.age ≤ one.candidate.age

-- The picture goes on from none of the first n candidates. Or it goes on from this one, and of the first n from none
-- that has another pair or is older.
abbrev pub FoundBelow : Parts → List Candidate → List ℕ → ℕ → Option Confirmed → Type 0
FoundBelow now candidates seen n None =
    (c : Candidate) (a : Seen) (k : ℕ) → k < n → slice_index_or candidates k c ≡ c → ¬ Follows now c seen a
FoundBelow now candidates seen n (Some one) =
    Contains candidates one.candidate × GoesOn now one.candidate.after seen one.sequel
    × ((c : Candidate) (a : Seen) (k : ℕ) → k < n → slice_index_or candidates k c ≡ c → Follows now c seen a
    → (c.pair ≡ one.candidate.pair) × (c.age ≤ one.candidate.age))

-- the older of two
pub record IsOlder (a b found : Confirmed) : Type 0 where
  pub one : (found ≡ a) ⊎ (found ≡ b)
  pub first : a.candidate.age ≤ found.candidate.age
  pub second : b.candidate.age ≤ found.candidate.age

-- the candidate after one more entry
abbrev pub aged : Candidate → Candidate
aged c = record c { age = c.age + 1 }

-- The last picture shows a piece on this square that the second does not show there, and of its code the second has
-- fewer than the first, and fewer than the last.
pub record IsBackOn (before left seen : List ℕ) (square : ℕ) : Type 0 where
  pub some : slice_index seen square ≢ 0
  pub new : slice_index seen square ≢ slice_index left square
  pub taken : times_shown (slice_index seen square) left < times_shown (slice_index seen square) before
  pub shown : times_shown (slice_index seen square) left < times_shown (slice_index seen square) seen

-- The candidate is not of age 255, the greatest, and no piece that its pair took is back in the picture.
pub record IsKept (now : Parts) (seen : List ℕ) (c : Candidate) : Type 0 where
  pub young : c.age < 255
  pub gone : ¬ IsMissedIn (picture now) c.shown seen

-- The candidate at this place is kept, one entry older. Or it is not, and the last one takes its place.
abbrev pub IsKeptAt : Parts → List ℕ → ℕ → List Candidate → List Candidate → Type 0
IsKeptAt now seen place old new = (c : Candidate) × (c ≡ slice_index_or old place c)
    × ((IsKept now seen c × (new ≡ slice_set old place (aged c))) ⊎ ((¬ IsKept now seen c) × (new ≡ swap_remove old place c)))

-- The first n candidates are the old ones. The others are all those of the other old ones that are kept, one entry
-- older.
pub record KeptFrom (now : Parts) (seen : List ℕ) (old : List Candidate) (n : ℕ) (new : List Candidate) : Type 0 where
  pub fits : n ≤ length new
  pub within : n ≤ length old
  pub below : (k : ℕ) (c : Candidate) → k < n → slice_index_or new k c ≡ slice_index_or old k c
  pub sound : (c : Candidate) (k : ℕ) → n ≤ k → k < length new → slice_index_or new k c ≡ c
      → (b : Candidate) × Contains old b × IsKept now seen b × (c ≡ aged b)
  pub whole : (b : Candidate) (k : ℕ) → n ≤ k → k < length old → slice_index_or old k b ≡ b → IsKept now seen b
      → (j : ℕ) × (n ≤ j) × (j < length new) × (slice_index_or new j (aged b) ≡ aged b)

-- The new candidates are all the old ones that are kept, one entry older.
pub record AreKept (now : Parts) (seen : List ℕ) (old new : List Candidate) : Type 0 where
  pub sound : (c : Candidate) → Contains new c → (b : Candidate) × Contains old b × IsKept now seen b × (c ≡ aged b)
  pub whole : (b : Candidate) → Contains old b → IsKept now seen b → Contains new (aged b)

-- the candidate of two plies from this position
pub record IsNew (corrects : Bool) (p : Parts) (reading : Option Reading) (x : TwoPlies) (c : Candidate) : Type 0 where
  pub corrects_is : c.pair.corrects ≡ corrects
  pub first_is : c.pair.first ≡ x.first
  pub second_is : c.pair.second ≡ x.second
  pub before_is : c.before ≡ p
  pub middle_is : c.middle ≡ after p x.first
  pub after_is : c.after ≡ after (after p x.first) x.second
  pub shown_is : c.shown ≡ picture c.after
  pub reading_is : c.reading ≡ reading
  pub age_is : c.age ≡ 0

-- The new candidates are the old ones and candidates of these pairs from this position: those of the first n are all
-- there.
pub record AddedBelow (corrects : Bool) (p : Parts) (reading : Option Reading) (xs : List TwoPlies) (n : ℕ)
    (old new : List Candidate) : Type 0 where
  pub sound : (c : Candidate) → Contains new c
      → Contains old c ⊎ ((x : TwoPlies) × Contains xs x × IsNew corrects p reading x c)
  pub keeps : (c : Candidate) → Contains old c → Contains new c
  pub whole : (x : TwoPlies) (k : ℕ) → k < n → slice_index_or xs k x ≡ x → (c : Candidate) × Contains new c × IsNew corrects p reading x c

-- The new candidates are the old ones, and those of all pairs from this position that explain the picture.
pub record AreAdded (corrects : Bool) (p : Parts) (seen : List ℕ) (reading : Option Reading) (old new : List Candidate) : Type 0 where
  pub sound : (c : Candidate) → Contains new c
      → Contains old c ⊎ ((x : TwoPlies) × IsAfterTwo p seen x.first x.second × IsNew corrects p reading x c)
  pub keeps : (c : Candidate) → Contains old c → Contains new c
  pub whole : (x : TwoPlies) → IsAfterTwo p seen x.first x.second → (c : Candidate) × Contains new c × IsNew corrects p reading x c

-- The new candidates are the old ones, and those of all pairs that explain the picture after these plies: from the
-- position reached, and from the position before the last ply, whose place the first ply of the pair takes.
pub record AreAllAdded (start : Parts) (plies : List Ply) (seen : List ℕ) (reading : Option Reading)
    (old new : List Candidate) : Type 0 where
  pub one : List Candidate
  pub next : AreAdded false (reached start (moves_of plies)) seen reading old one
  pub more : (ply : Ply) (earlier : List Ply) → plies ≡ ply ∷ earlier
      → AreAdded true (reached start (moves_of earlier)) seen reading one new
  pub none : plies ≡ [] → new ≡ one

-- No pair explains the last picture, if it waits.
abbrev pub HidesNone : SettlerState → Type 0
HidesNone settler = (seen : List ℕ) (reading : Option Reading) (old : List Candidate) → settler.last ≡ Some seen
    → Played settler.start (moves_of settler.score.plies) → SeenAs settler.start (moves_of settler.score.plies) seen Waits
    → AreAllAdded settler.start settler.score.plies seen reading old old

-- The code of White's king stands in the centre.
abbrev pub ShowsKing : List ℕ → Type 0
ShowsKing seen = (slice_index seen 27 ≡ 5) ⊎ (slice_index seen 28 ≡ 5) ⊎ (slice_index seen 35 ≡ 5) ⊎ (slice_index seen 36 ≡ 5)
