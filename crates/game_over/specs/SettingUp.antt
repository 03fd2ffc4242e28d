-- What a set-up of the pieces makes of a game without a result. Events are listed with the latest first, moves in the order in which they
-- were made. Times are milliseconds.
use Rattle.std.specs.Prelude.{◌≡◌, ◌≢◌, ◌↔◌, ◌<◌, ◌≤◌, ◌+◌, ◌-◌, ◌⊎◌, ℕ, not, Bool, true, false, List, [], ◌∷◌, ◌++◌, Option, Some, None, count_ones, is_some, length, slice_get, ⊤}
use Rattle.game_over.specs.declared.happened.Event.{Event}
use Rattle.game_over.specs.declared.happened.Happening.{Happening}
use Rattle.game_over.specs.declared.happened.Happening.TheVariants.{Moves, Agrees, Differs, Resumes, Shows}
use Rattle.game_over.specs.declared.happened.Move.{Move}
use Rattle.game_over.specs.declared.happened.Shown.{Shown}
use Rattle.game_over.specs.declared.made.Made.{Made}
use Rattle.game_over.specs.Moves.{moves}
use Rattle.game_over.specs.Over.{ended_by, has_begun, is_over}
use Rattle.game_over.specs.Unfinished.{IsEnd}

-- ---- which of its moves stay

-- The board showed the position after a move for this long, or still does.
abbrev pub StoodFor : ℕ → Option ℕ → Type 0
StoodFor span None = ⊤
StoodFor span (Some stood) = span ≤ stood

-- By itself, a move was played: an arbiter added it; or it stood for three seconds; or it brought no piece home, and stood for one, or a
-- player had a piece in hand after it to think.
abbrev pub WasPlayed : Made → Type 0
WasPlayed made = (made.is_added ≡ true) ⊎ (StoodFor 3000 made.stood ⊎ ((made.goes_home ≡ false) × (StoodFor 1000 made.stood ⊎ (made.goes_on ≡ false))))

-- Behind a move that stood for a second and brought no piece home, the last one is the game's exactly if it was played. Nobody need look
-- if it is, and it brought no piece home.
abbrev pub LastMoveStays : Type 0
LastMoveStays = (kept : ℕ) (is_sure : Bool) (before : List Made) (one last : Made) → one.goes_home ≡ false → StoodFor 1000 one.stood
    → IsEnd kept is_sure (before ++ one ∷ last ∷ [])
    → (WasPlayed last → (kept ≡ length before + 2) × (is_sure ≡ not last.goes_home))
    × ((WasPlayed last → ⊥) → (kept ≡ length before + 1) × (is_sure ≡ false))

-- ---- how long a move stood

-- a move of this time, with which the capture has so many bytes
abbrev pub moves_at : Move → ℕ → ℕ → Event
moves_at move at bytes = record { at = at; bytes = bytes; what = Moves move }

abbrev pub is_move : Happening → Bool
is_move (Moves move) = true
is_move other = false

-- No move was made.
abbrev pub NoMove : List Event → Type 0
NoMove [] = ⊤
NoMove (event ∷ past) = (is_move event.what ≡ false) × NoMove past

-- After a move the board still shows its position, or shows it again.
abbrev pub IsShown : List Event → Type 0
IsShown [] = ⊤
IsShown (event ∷ past) = NoMove (event ∷ past) × ((event.what ≡ Agrees) ⊎ ((event.what ≢ Differs) × IsShown past))

-- It isn't shown again, and no move is made.
abbrev pub StaysAway : List Event → Type 0
StaysAway [] = ⊤
StaysAway (event ∷ past) = (event.what ≢ Agrees) × (is_move event.what ≡ false) × StaysAway past

-- The move behind the past is listed next, and stood for this long.
pub record IsListed (move : Move) (stood : Option ℕ) (past all : List Event) : Type 0 where
  pub made : Made
  pub there : slice_get (moves all) (length (moves past)) ≡ Some made
  pub stood_is : made.stood ≡ stood
  pub home : made.goes_home ≡ move.goes_home
  pub corrects : made.corrects ≡ move.corrects
  pub added : made.is_added ≡ move.is_added

-- A move stood until the board last began to show something else, though a piece was lifted and put back before; and while the board
-- shows its position, that time hasn't come.
abbrev pub StoodUntilLeft : Type 0
StoodUntilLeft = (move : Move) (at bytes : ℕ) (left : Event) (past shown rest : List Event) → IsShown shown
    → IsListed move None past (shown ++ moves_at move at bytes ∷ past)
    × (left.what ≡ Differs → StaysAway rest → IsListed move (Some (left.at - at)) past (rest ++ left ∷ (shown ++ moves_at move at bytes ∷ past)))

-- The board shows something.
abbrev pub is_picture : Happening → Bool
is_picture Agrees = true
is_picture Differs = true
is_picture other = false

-- No move was made, and the board showed nothing.
abbrev pub IsStill : List Event → Type 0
IsStill [] = ⊤
IsStill (event ∷ past) = (is_move event.what ≡ false) × (is_picture event.what ≡ false) × IsStill past

-- Hands went on at once after a move if less than three seconds passed between the first two pictures after it, and else a player was
-- thinking with a piece in hand.
abbrev pub ThinksForThreeSeconds : Type 0
ThinksForThreeSeconds = (move : Move) (at bytes : ℕ) (first second : Event) (past still between later : List Event) → is_picture first.what ≡ true
    → is_picture second.what ≡ true → IsStill still → IsStill between → NoMove later
    → let all : List Event = later ++ second ∷ (between ++ first ∷ (still ++ moves_at move at bytes ∷ past)) in
    (made : Made) × (slice_get (moves all) (length (moves past)) ≡ Some made) × ((made.goes_on ≡ false) ↔ (first.at + 3000 ≤ second.at))

-- ---- whether the start is shown again

-- More than four squares are off the start.
abbrev pub IsAway : Happening → Type 0
IsAway (Shows shown) = 4 < count_ones shown.off
IsAway other = ⊥

-- The start is shown.
abbrev pub IsStart : Happening → Type 0
IsStart (Shows shown) = count_ones shown.off ≡ 0
IsStart other = ⊥

-- Nobody had listened for an hour before this time.
abbrev pub IsPause : ℕ → ℕ → Happening → Type 0
IsPause now at Resumes = at + 3600000 ≤ now
IsPause now at other = ⊥

-- More than four squares were off the start; and since then the start wasn't shown, and nobody failed to listen for an hour.
abbrev pub WasAway : ℕ → List Event → Type 0
WasAway now [] = ⊥
WasAway now (event ∷ past) = (IsPause now event.at event.what → ⊥) × (IsAway event.what ⊎ ((IsStart event.what → ⊥) × WasAway event.at past))

-- A picture ends a game that has begun and isn't over exactly if it is the start, which was away, and the game isn't at its start.
abbrev pub SetUpEndsExactly : Type 0
SetUpEndsExactly = (shown : Shown) (event : Event) (past : List Event) → event.what ≡ Shows shown → is_over past ≡ false → has_begun past ≡ true
    → (is_some (ended_by event past) ≡ true) ↔ ((count_ones shown.off ≡ 0) × (shown.at_start ≡ false) × WasAway event.at past)
