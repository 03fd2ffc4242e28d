-- What is said means what an arbiter takes it for. Events are listed with the latest first, times are milliseconds.
use Rattle.std.specs.Prelude.{◌≡◌, ◌≢◌, ◌<◌, ◌≤◌, ◌+◌, ◌%◌, not, ℕ, zero, suc, Bool, true, false, List, [], ◌∷◌, ◌++◌, Some, None, is_some, slice_index, if◌then◌else◌}
use Rattle.std.specs.Int.{bit_at}
use Rattle.std.specs.List.{list_all}
use Rattle.board_doubts.specs.declared.heard.Event.{Event}
use Rattle.board_doubts.specs.declared.heard.Heard.{Heard}
use Rattle.board_doubts.specs.declared.heard.Heard.TheVariants.{Shows, Moves, Corrects, Agrees, Plays, Ends, Reopens, PutsIn, Away, Clock, Looked, Presses}
use Rattle.board_doubts.specs.declared.heard.Ply.{Ply}
use Rattle.board_doubts.specs.declared.heard.Seen.{Seen}
use Rattle.board_doubts.specs.declared.heard.Why.TheVariants.{MovedOn, OtherTime, Returned, TakenBack, Unpressed}
use Rattle.board_doubts.specs.Clock.{running, tries_of}
use Rattle.board_doubts.specs.Doubts.{doubt_of, is_on, is_unhurried}
use Rattle.board_doubts.specs.Laws.{IsDoubtedFor, NobodyPresses, NoClock, StaysStopped}
use Rattle.board_doubts.specs.Pace.{last_within, took_longer}
use Rattle.board_doubts.specs.Plies.{both_back, ends_pair, played}
use Rattle.board_doubts.specs.Presses.{is_used, quiet}
use Rattle.board_doubts.specs.Silent.{has_repeated}
use Rattle.board_doubts.specs.Thinking.{known_counting, lent}
use Rattle.board_doubts.specs.Unplayed.{odd}
use Rattle.board_doubts.specs.Waiting.{ply_times}

-- With this a game that has ended stays so.
abbrev pub leaves_ended : Heard → Bool
leaves_ended (Moves repeats) = false
leaves_ended (Corrects repeats) = false
leaves_ended Reopens = false
leaves_ended PutsIn = false
leaves_ended other = true

-- A picture shows that the last move may have been read because the piece that had moved before was drawn over its square.
abbrev pub shows_drawn : Heard → Bool
shows_drawn (Shows seen) = seen.was_drawn
shows_drawn other = false

-- After the end of a game nothing is doubted, not even the move that goes on: but for the last move of the game, if a picture shows that.
abbrev pub EndedGamePasses : Type 0
EndedGamePasses = (event end : Event) (past later : List Event) → end.what ≡ Ends → list_all (λ one. leaves_ended one.what) later ≡ true
    → shows_drawn event.what ≡ false → doubt_of event (later ++ end ∷ past) ≡ None

-- Of the seven bytes of a time message, bit 0 of the last one says that the clock runs. The message doesn't say it without a clock, by bit 5;
-- nor if it acknowledges a command, by ten in the low half of the first byte or of the fourth.
abbrev pub BitSaysRunning : Type 0
BitSaysRunning = (bytes : List ℕ)
    → (slice_index bytes 0 % 16 ≢ 10 → slice_index bytes 3 % 16 ≢ 10 → bit_at (slice_index bytes 6) 5 ≡ 0
    → (bit_at (slice_index bytes 6) 0 ≡ 1 → running bytes ≡ Some true) × (bit_at (slice_index bytes 6) 0 ≡ 0 → running bytes ≡ Some false))
    × (bit_at (slice_index bytes 6) 5 ≡ 1 → running bytes ≡ None)
    × (slice_index bytes 0 % 16 ≡ 10 → running bytes ≡ None) × (slice_index bytes 3 % 16 ≡ 10 → running bytes ≡ None)

-- The clock doesn't say that it runs, the board is heard, and no move is made.
abbrev pub leaves_unmoved : Heard → Bool
leaves_unmoved (Clock runs) = not runs
leaves_unmoved (Away gap) = false
leaves_unmoved (Moves repeats) = false
leaves_unmoved other = true

-- The first move on the board after a clock that ran was stopped is reported if it comes three seconds later, and not if it comes sooner.
abbrev pub FirstMoveIsTried : Type 0
FirstMoveIsTried = (first stop start : Event) (repeats : Bool) (past before between : List Event) → start.what ≡ Clock true → NoClock before
    → stop.what ≡ Clock false → list_all (λ one. leaves_unmoved one.what) between ≡ true → first.what ≡ Moves repeats → first.is_added ≡ false
    → let all : List Event = between ++ stop ∷ (before ++ start ∷ past) in
    (stop.at + 3000 ≤ first.at → is_some (tries_of first all) ≡ true) × (first.at < stop.at + 3000 → tries_of first all ≡ None)

-- a move, and one that was made on the board
abbrev pub move_of : Heard → ℕ
move_of (Moves repeats) = 1
move_of other = 0

abbrev pub made_of : Event → ℕ
made_of event = if event.is_added then 0 else move_of event.what

-- so many moves were made, and so many of them on the board
abbrev pub moves_in : List Event → ℕ
moves_in [] = 0
moves_in (event ∷ past) = moves_in past + move_of event.what

abbrev pub made_in : List Event → ℕ
made_in [] = 0
made_in (event ∷ past) = made_in past + made_of event

-- Each later move is reported with how many they are by then, the first one too; and with how many plies ago the last ply before the first
-- one was made, though others are typed between them.
abbrev pub TriedMovesAreCounted : Type 0
TriedMovesAreCounted = (next first stop start : Event) (repeats again : Bool) (past before between later : List Event) → start.what ≡ Clock true
    → NoClock before → stop.what ≡ Clock false → list_all (λ one. leaves_unmoved one.what) between ≡ true → StaysStopped later
    → first.what ≡ Moves repeats → first.is_added ≡ false → next.what ≡ Moves again → next.is_added ≡ false → moves_in later ≤ 9997
    → tries_of next (later ++ first ∷ (between ++ stop ∷ (before ++ start ∷ past)))
    ≡ Some (record { moves = made_in later + 2; plies = moves_in later + 2 })

-- so many plies were made
abbrev pub ply_of : Heard → ℕ
ply_of (Plays ply) = 1
ply_of other = 0

abbrev pub plies_in : List Event → ℕ
plies_in [] = 0
plies_in (event ∷ past) = ply_of event.what + plies_in past

-- After a press of the clock the next five plies aren't doubted for want of one; nor is a position that has come again, if one of the last
-- four plies was made before it; nor that both sides have moved on, if one of the last two was.
abbrev pub PressPasses : Type 0
PressPasses = (event press : Event) (past later : List Event) → press.what ≡ Presses → let all : List Event = later ++ press ∷ past in
    (plies_in later ≤ 4 → IsDoubtedFor Unpressed event all → ⊥) × (plies_in later ≤ 3 → IsDoubtedFor Returned event all → ⊥)
    × (plies_in later ≤ 1 → IsDoubtedFor MovedOn event all → ⊥)

-- If players with a clock come to one of the last eight positions again, the first of the last four plies came after a pause of more than two
-- seconds, and none of these has a press, the clock's next message always makes that doubtful.
abbrev pub SilentReturnIsDoubted : Type 0
SilentReturnIsDoubted = (last clock : Event) (ply : Ply) (runs : Bool) (past later : List Event)
    → last.what ≡ Plays ply → last.is_added ≡ false → is_used past ≡ true → has_repeated past ≡ true → took_longer 2000 3 (ply_times past) ≡ true
    → 4 ≤ quiet (last ∷ past) → NobodyPresses (last ∷ past) later → clock.what ≡ Clock runs → clock.is_added ≡ false
    → is_on (later ++ last ∷ past) ≡ true → is_some (doubt_of clock (later ++ last ∷ past)) ≡ true

-- If both sides take their last plies back without a clock, and these players are unhurried, the second one is doubted if it comes within two
-- seconds of the first, and not if it comes later.
abbrev pub TakenBackAtOnce : Type 0
TakenBackAtOnce = (event : Event) (ply : Ply) (past : List Event) → is_on past ≡ true → event.what ≡ Plays ply → event.is_added ≡ false
    → ends_pair past ≡ false → both_back (played (event ∷ past)) ≡ true → is_used past ≡ false → is_unhurried past ≡ true
    → (last_within 2000 (ply_times past) ≡ true → IsDoubtedFor TakenBack event past)
    × (last_within 2000 (ply_times past) ≡ false → IsDoubtedFor TakenBack event past → ⊥)

-- The board doesn't show the game's position, no move is made, and nobody looks.
abbrev pub leaves_apart : Heard → Bool
leaves_apart (Moves repeats) = false
leaves_apart (Corrects repeats) = false
leaves_apart Agrees = false
leaves_apart Looked = false
leaves_apart other = true

-- A move on the board is odd if the board has shown something else than the position for ten seconds before it, and not if for less.
abbrev pub OddAfterTenSeconds : Type 0
OddAfterTenSeconds = (move apart agree : Event) (seen : Seen) (repeats : Bool) (past between : List Event) → agree.what ≡ Agrees
    → apart.what ≡ Shows seen → list_all (λ one. leaves_apart one.what) between ≡ true → move.what ≡ Moves repeats → move.is_added ≡ false
    → let all : List Event = between ++ apart ∷ (agree ∷ past) in
    (apart.at + 10000 ≤ move.at → odd (move ∷ all) ≢ 0) × (move.at < apart.at + 10000 → odd (move ∷ all) ≡ 0)

-- the ply was thought about on the other side's time, so often one after the other
abbrev pub lent_times : ℕ → List Bool → List Bool
lent_times zero plies = plies
lent_times (suc n) plies = true ∷ lent_times n plies

-- Of plies that are thought about on the other side's time, one after the other, behind two that weren't, the seventh one is always doubted, and
-- the sixth one isn't doubted for that.
abbrev pub SeventhLentPlyIsDoubted : Type 0
SeventhLentPlyIsDoubted = (event : Event) (ply : Ply) (black : Bool) (past : List Event) (plies : List Bool) → is_on past ≡ true
    → event.what ≡ Plays ply → event.is_added ≡ false → known_counting past ≡ Some (not black) → ply.black ≡ black
    → (lent past ≡ lent_times 6 (false ∷ false ∷ plies) → is_some (doubt_of event past) ≡ true)
    × (lent past ≡ lent_times 5 (false ∷ false ∷ plies) → IsDoubtedFor OtherTime event past → ⊥)
