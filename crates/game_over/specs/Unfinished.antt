-- Where a game ended that has no result. Moves are listed in the order in which they were made.
use Rattle.std.specs.Prelude.{◌≡◌, ◌↔◌, ◌<◌, ◌≤◌, ◌+◌, ◌-◌, ◌^◌, ℕ, ◌&&◌, ◌||◌, not, Bool, true, false, IsTrue, nat_le, List, length, Option, Some, None, slice_get, if◌then◌else◌}
use Rattle.game_over.specs.declared.made.Made.{Made}

-- The last move of a game stays for this at least before somebody sets up, in milliseconds.
abbrev pub stands : ℕ
stands = 1000

-- One that brought a piece home stays for this.
abbrev pub home_stands : ℕ
home_stands = 3000

-- The move stood for this long. One that the board still shows has stood long enough for anything.
abbrev pub stood_for : Option ℕ → ℕ → Bool
stood_for None span = true
stood_for (Some stood) span = nat_le span stood

-- how long it stood; one that the board still shows, longest of all
abbrev pub time_of : Option ℕ → ℕ
time_of None = 2 ^ 64 - 1
time_of (Some stood) = stood

-- It was the last move, or the next one corrects it.
abbrev pub was_changed : Option Made → Bool
was_changed None = true
was_changed (Some next) = next.corrects

-- A piece was perhaps drawn over the board: that looked like a move for a moment, hands went on at once, and it was the last move or
-- was corrected.
abbrev pub is_drawn : Made → Option Made → Bool
is_drawn made next = if stood_for made.stood stands || not made.goes_on then false else was_changed next

-- It was part of a set-up, if all after it were: it brought a piece home and stood for less than three seconds, or a piece was drawn
-- over the board. What an arbiter added was played.
abbrev pub sets_up : Made → Option Made → Bool
sets_up made next = if made.is_added then false else if made.goes_home then not (stood_for made.stood home_stands) else is_drawn made next

-- The moves from this one on were part of a set-up, and the one before wasn't.
pub record SetsUpFrom (first : ℕ) (moves : List Made) : Type 0 where
  pub within : first ≤ length moves
  pub each : (k : ℕ) (made : Made) → first ≤ k → slice_get moves k ≡ Some made → sets_up made (slice_get moves (k + 1)) ≡ true
  pub before : 0 < first → (made : Made) → slice_get moves (first - 1) ≡ Some made → sets_up made (slice_get moves first) ≡ false

-- Of the moves of a set-up, the last one that is kept stood longest.
abbrev pub IsLongest : ℕ → ℕ → List Made → Type 0
IsLongest first kept moves = (k : ℕ) (one last : Made) → first ≤ k → slice_get moves k ≡ Some one → slice_get moves (kept - 1) ≡ Some last
    → time_of one.stood ≤ time_of last.stood

-- It is the first one that stood so long.
abbrev pub IsFirst : ℕ → ℕ → List Made → Type 0
IsFirst first kept moves = (k : ℕ) (one last : Made) → first ≤ k → k + 1 < kept → slice_get moves k ≡ Some one → slice_get moves (kept - 1) ≡ Some last
    → time_of one.stood < time_of last.stood

-- So many moves are the game's, if a set-up begins with this one: those before it, or all if there are none before it. But if the
-- last one before it stood for less than a second, the game ends with the first move of the set-up that stood longest: nobody sets
-- up so soon.
pub record EndsBefore (first kept : ℕ) (moves : List Made) : Type 0 where
  pub alone : first ≡ 0 → kept ≡ length moves
  pub none : first ≡ length moves → kept ≡ length moves
  pub stood : 0 < first → (made : Made) → slice_get moves (first - 1) ≡ Some made → stood_for made.stood stands ≡ true → kept ≡ first
  pub soon : 0 < first → first < length moves → (made : Made) → slice_get moves (first - 1) ≡ Some made → stood_for made.stood stands ≡ false
      → (first < kept) × (kept ≤ length moves) × IsLongest first kept moves × IsFirst first kept moves

-- A move may go: nobody added it, and it stood for less than three seconds.
abbrev pub may_go : Made → Bool
may_go made = not made.is_added && not (stood_for made.stood 3000)

-- Only a tail goes; each move of it may go; and of a game with moves, one stays.
pub record LosesTail (kept : ℕ) (moves : List Made) : Type 0 where
  pub tail : kept ≤ length moves
  pub gone : (k : ℕ) (made : Made) → kept ≤ k → slice_get moves k ≡ Some made → may_go made ≡ true
  pub one : 0 < length moves → 0 < kept

-- Nobody need look at the last moves, if a set-up would begin with this one: all stay, though not since all look like a set-up, and
-- the last one brought no piece home.
pub record IsSure (first kept : ℕ) (moves : List Made) : Type 0 where
  pub all : kept ≡ length moves
  pub some : first ≡ 0 → length moves ≡ 0
  pub last : (made : Made) → slice_get moves (kept - 1) ≡ Some made → made.goes_home ≡ false

-- where a game ended, and whether that is sure
abbrev pub IsEnd : ℕ → Bool → List Made → Type 0
IsEnd kept is_sure moves = (first : ℕ) × SetsUpFrom first moves × EndsBefore first kept moves × (IsTrue is_sure ↔ IsSure first kept moves)
