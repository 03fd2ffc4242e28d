-- What holds of each history. Events and pictures are listed with the latest first.
use Rattle.std.specs.Prelude.{◌≡◌, ◌≢◌, ◌<◌, ◌≤◌, ◌+◌, ◌==◌, ◌||◌, ◌⊎◌, ℕ, not, Bool, true, false, List, [], ◌∷◌, ◌++◌, Option, Some, None, is_some, slice_index, ⊤, if◌then◌else◌}
use Rattle.std.specs.Int.{bit_at}
use Rattle.board_doubts.specs.declared.heard.Doubt.{Doubt}
use Rattle.board_doubts.specs.declared.heard.Event.{Event}
use Rattle.board_doubts.specs.declared.heard.Gap.{Gap}
use Rattle.board_doubts.specs.declared.heard.Heard.{Heard}
use Rattle.board_doubts.specs.declared.heard.Heard.TheVariants.{Shows, Moves, Corrects, Agrees, Ends, Away, Clock, Counts, Looked, Plays, Replaces, Reopens, PutsBack, Presses}
use Rattle.board_doubts.specs.declared.heard.Place.{Place}
use Rattle.board_doubts.specs.declared.heard.Ply.{Ply}
use Rattle.board_doubts.specs.declared.heard.Seen.{Seen}
use Rattle.board_doubts.specs.declared.heard.Why.{Why}
use Rattle.board_doubts.specs.declared.heard.Why.TheVariants.{MovedOn, OtherTime, Returned, TakenBack, Unpressed}
use Rattle.board_doubts.specs.declared.stopped_clock.Tried.{Tried}
use Rattle.board_doubts.specs.Clock.{has_run, stands_since, tried, tries_of}
use Rattle.board_doubts.specs.Doubts.{doubt_by, doubt_of, is_on}
use Rattle.board_doubts.specs.Elsewhere.{Sees, differs, elsewhere}
use Rattle.board_doubts.specs.Pace.{fits_ply, last_within}
use Rattle.board_doubts.specs.Pictures.{Laid, Squares, by_both, by_one, has_stood, others, own, stands}
use Rattle.board_doubts.specs.Plies.{both_back, both_further, ends_pair, is_back, played}
use Rattle.board_doubts.specs.Presses.{is_early, is_used, pressed_at, presses, quiet, runs, unpressed}
use Rattle.board_doubts.specs.Silent.{is_pair}
use Rattle.board_doubts.specs.Recent.{gap, has_gap, is_restart, pictures, since_news, touched}
use Rattle.board_doubts.specs.Thinking.{counting, known_counting}
use Rattle.board_doubts.specs.Unheard.{is_unheard}
use Rattle.board_doubts.specs.Unplayed.{odd, unplayed_of}
use Rattle.board_doubts.specs.Waiting.{has_moved, ply_times, waited}
use Rattle.board_doubts.specs.Ways.{can_go, kind_of}

abbrev pub with_doubt : Option Doubt → List Doubt → List Doubt
with_doubt None before = before
with_doubt (Some doubt) before = doubt ∷ before

-- all that somebody had to look at
abbrev pub doubts : List Event → List Doubt
doubts [] = []
doubts (event ∷ past) = with_doubt (doubt_of event past) (doubts past)

-- What is doubtful stays so, whatever comes later: later events only add to it.
abbrev pub StaysDoubtful : Type 0
StaysDoubtful = (past later : List Event) → (more : List Doubt) × (doubts (later ++ past) ≡ more ++ doubts past)

-- No picture has such a square.
abbrev pub NoneShows : Squares → List Laid → Type 0
NoneShows squares [] = ⊤
NoneShows squares (picture ∷ before) = (squares picture ≡ 0) × NoneShows squares before

-- While the board is heard, and nobody moves pieces of the side that moved last, no move is doubted, and no agreement.
abbrev pub HandsOffPasses : Type 0
HandsOffPasses = (repeats : Bool) (now : ℕ) (past : List Event)
    → has_gap (since_news past) ≡ false → NoneShows others (pictures (since_news past))
    → (doubt_by (Moves repeats) now past ≡ None) × (doubt_by Agrees now past ≡ None)

-- While the board is heard, and nobody moves pieces of the side to move, no correction is doubted that isn't late.
abbrev pub QuickCorrectionPasses : Type 0
QuickCorrectionPasses = (repeats : Bool) (now : ℕ) (past : List Event)
    → has_gap (since_news past) ≡ false → NoneShows own (pictures (since_news past)) → waited now past ≤ 10000
    → doubt_by (Corrects repeats) now past ≡ None

-- If the time in which the board wasn't heard is shorter than any ply, and no piece stood elsewhere since the last news, no move is
-- doubted; nor is an agreement, if no piece of the side that moved last was in a hand after that time.
abbrev pub ShortGapPasses : Type 0
ShortGapPasses = (repeats : Bool) (now lasted : ℕ) (past : List Event)
    → gap (since_news past) ≡ Some lasted → lasted < 1000 → by_one (pictures (since_news past)) ≡ false
    → (doubt_by (Moves repeats) now past ≡ None) × (touched (since_news past) ≡ false → doubt_by Agrees now past ≡ None)

-- A correction that isn't doubted, in a game that is on, isn't late; since the last news the board was heard all the time,
-- and no piece of the side to move stood elsewhere.
abbrev pub UndoubtedCorrection : Type 0
UndoubtedCorrection = (repeats : Bool) (now : ℕ) (past : List Event) → is_on past ≡ true → doubt_by (Corrects repeats) now past ≡ None
    → (has_gap (since_news past) ≡ false) × (has_stood own stands (pictures (since_news past)) ≡ false) × (waited now past ≤ 10000)

-- If a move isn't doubted in a game that is on and has a move, at most one side may have moved since the last news; and if the board
-- wasn't heard for a time while the recorder was there, players as quick as these had no time for a ply in it, and the row didn't say
-- SILENT.
abbrev pub UndoubtedMove : Type 0
UndoubtedMove = (repeats : Bool) (now : ℕ) (past : List Event) → is_on past ≡ true → has_moved past ≡ true
    → doubt_by (Moves repeats) now past ≡ None
    → (by_both (pictures (since_news past)) ≡ false)
    × ((lasted : ℕ) → gap (since_news past) ≡ Some lasted → is_restart (since_news past) ≡ false → (lasted < 5000) × (fits_ply lasted past ≡ false))

-- If the board wasn't heard for five seconds while the recorder was there, the next move of a game with moves is doubted, and so is an
-- agreement: whatever the pace, plies may have been made.
abbrev pub SilenceIsDoubted : Type 0
SilenceIsDoubted = (repeats : Bool) (now lasted : ℕ) (past : List Event) → is_on past ≡ true → has_moved past ≡ true
    → gap (since_news past) ≡ Some lasted → is_restart (since_news past) ≡ false → 5000 ≤ lasted
    → (doubt_by (Moves repeats) now past ≢ None) × (doubt_by Agrees now past ≢ None)

-- The clock isn't spoken of.
abbrev pub says_nothing : Heard → Bool
says_nothing (Clock runs) = false
says_nothing other = true

abbrev pub NoClock : List Event → Type 0
NoClock [] = ⊤
NoClock (event ∷ past) = (says_nothing event.what ≡ true) × NoClock past

-- After the clock has said that it runs, no move counts as made while it was stopped, until it says something else.
abbrev pub RunningClockPasses : Type 0
RunningClockPasses = (event said : Event) (past later : List Event) → said.what ≡ Clock true → NoClock later
    → tries_of event (later ++ said ∷ past) ≡ None

-- Moves that were made while the clock was stopped: it has run in this game; and at the last of them it had been stopped for as
-- long as a move may be seen late, or there were others.
abbrev pub OnlyWhileStopped : Type 0
OnlyWhileStopped = (event : Event) (past : List Event) (tried : Tried) → tries_of event past ≡ Some tried
    → (has_run past ≡ true) × ((since : ℕ) × (stands_since past ≡ Some since) × ((since + 3000 ≤ event.at) ⊎ (1 < tried.moves)))

-- The clock doesn't say that it runs, the board is heard, and nobody says that he has looked.
abbrev pub leaves_stopped : Heard → Bool
leaves_stopped (Clock runs) = not runs
leaves_stopped (Away gap) = false
leaves_stopped Looked = false
leaves_stopped other = true

abbrev pub StaysStopped : List Event → Type 0
StaysStopped [] = ⊤
StaysStopped (event ∷ past) = (leaves_stopped event.what ≡ true) × StaysStopped past

-- Once a clock that has run is stopped, the second move is reported, whatever else is heard, while it stays so.
abbrev pub SecondMoveIsTried : Type 0
SecondMoveIsTried = (second first stop : Event) (repeats again : Bool) (past between later : List Event)
    → has_run past ≡ true → stop.what ≡ Clock false → StaysStopped between → StaysStopped later
    → first.what ≡ Moves repeats → first.is_added ≡ false → second.what ≡ Moves again → second.is_added ≡ false
    → is_some (tries_of second (later ++ first ∷ (between ++ stop ∷ past))) ≡ true

-- If a move is made while the clock is stopped, the answer to the result names what nobody may have played, while it stays so.
abbrev pub StoppedMoveIsNamed : Type 0
StoppedMoveIsNamed = (result first stop : Event) (repeats : Bool) (past between later : List Event)
    → has_run past ≡ true → stop.what ≡ Clock false → StaysStopped between → StaysStopped later
    → first.what ≡ Moves repeats → first.is_added ≡ false → result.what ≡ Ends
    → is_some (unplayed_of result (later ++ first ∷ (between ++ stop ∷ past))) ≡ true

-- Of players who press the clock, but for the last ply, and whose board was right, nothing is asked.
abbrev pub PressedEndPasses : Type 0
PressedEndPasses = (result : Event) (past : List Event) → tried past ≡ 0 → odd past ≡ 0 → unpressed past ≤ 1 → unplayed_of result past ≡ None

-- Somebody must look at what is heard, for this reason.
abbrev pub IsDoubtedFor : Why → Event → List Event → Type 0
IsDoubtedFor why event past = (place : Place) × (doubt_of event past ≡ Some (record { place = place; why = why }))

-- If a ply doesn't take back the one that its side made before, it isn't doubted as taken back.
abbrev pub OnlyBackIsTakenBack : Type 0
OnlyBackIsTakenBack = (event : Event) (past : List Event) → is_back (played (event ∷ past) 0) (played (event ∷ past) 2) ≡ false
    → IsDoubtedFor TakenBack event past → ⊥

abbrev pub is_ply : Heard → Bool
is_ply (Plays ply) = true
is_ply other = false

-- The last ply, if there is one, has a press: since it was made, or at most half a second before it.
abbrev pub has_press_by : Heard → Bool → Bool → Bool → Bool
has_press_by (Plays ply) press pressed before = pressed
has_press_by other press pressed before = press || before

abbrev pub has_press : List Event → Bool
has_press [] = true
has_press (event ∷ past) = has_press_by event.what (presses event.what past) (is_early event.at (pressed_at past)) (has_press past)

-- Each ply had one before the next ply was made.
abbrev pub PressesEach : List Event → Type 0
PressesEach [] = ⊤
PressesEach (event ∷ past) = (is_ply event.what ≡ true → has_press past ≡ true) × PressesEach past

-- While players press the clock for each ply, be it half a second before it, no ply is doubted for want of a press, whatever else is
-- heard.
abbrev pub PressedPlyPasses : Type 0
PressedPlyPasses = (event : Event) (past : List Event) → PressesEach (event ∷ past)
    → (IsDoubtedFor Unpressed event past → ⊥) × (ends_pair past ≡ false → IsDoubtedFor TakenBack event past → ⊥)
    × (IsDoubtedFor MovedOn event past → ⊥) × (IsDoubtedFor Returned event past → ⊥)

-- If a pair that is put in takes both sides' last plies back, that is doubted, whatever the pace and the clock.
abbrev pub PairBackIsDoubted : Type 0
PairBackIsDoubted = (event : Event) (ply : Ply) (past : List Event) → is_on past ≡ true → event.what ≡ Plays ply → event.is_added ≡ false
    → ends_pair past ≡ true → both_back (played (event ∷ past)) ≡ true → IsDoubtedFor TakenBack event past

-- so many plies were made after what was heard before, each in more than a second. What an arbiter added isn't counted
abbrev pub one_by : Heard → Bool → Bool → ℕ
one_by (Plays ply) added quick = if added || quick then 0 else 1
one_by other added quick = 0

abbrev pub plies_after : List Event → List Event → ℕ
plies_after past [] = 0
plies_after past (event ∷ later) = plies_after past later + one_by event.what event.is_added (last_within 1000 (ply_times (later ++ past)))

-- The clock doesn't say that it stands.
abbrev pub leaves_running : Heard → Bool
leaves_running (Clock runs) = runs
leaves_running other = true

-- So it is after what was heard before, and nobody presses it.
abbrev pub StaysUnpressed : List Event → List Event → Type 0
StaysUnpressed past [] = ⊤
StaysUnpressed past (event ∷ later) =
    (leaves_running event.what ≡ true) × (presses event.what (later ++ past) ≡ false) × StaysUnpressed past later

-- While the clock runs in a game that is on, the sixth ply of more than a second since it was pressed is doubted, whatever else is heard.
abbrev pub SixthPlyIsDoubted : Type 0
SixthPlyIsDoubted = (sixth press : Event) (ply : Ply) (past later : List Event)
    → runs past ≡ true → press.what ≡ Presses → StaysUnpressed (press ∷ past) later → plies_after (press ∷ past) later ≡ 5
    → sixth.what ≡ Plays ply → sixth.is_added ≡ false → last_within 1000 (ply_times (later ++ press ∷ past)) ≡ false
    → is_on (later ++ press ∷ past) ≡ true → is_some (doubt_of sixth (later ++ press ∷ past)) ≡ true

-- Nothing is heard that ends a suspicion, or begins another one, and the board is heard.
abbrev pub waits_on : Heard → Bool
waits_on (Shows seen) = false
waits_on (Plays ply) = false
waits_on (Replaces ply) = false
waits_on (Clock runs) = false
waits_on Reopens = false
waits_on PutsBack = false
waits_on (Away gap) = false
waits_on other = true

-- So it is after what was heard before, and nobody presses the clock.
abbrev pub NobodyPresses : List Event → List Event → Type 0
NobodyPresses past [] = ⊤
NobodyPresses past (event ∷ later) = (waits_on event.what ≡ true) × (presses event.what (later ++ past) ≡ false) × NobodyPresses past later

-- Both sides put the pieces that they moved last elsewhere, where these could have gone at once: the second one soon after the first, and
-- both after a pause. If they use a clock and nobody presses it, the clock's next message always makes that doubtful.
abbrev pub SilentReplacementIsDoubted : Type 0
SilentReplacementIsDoubted = (second clock : Event) (ply : Ply) (runs : Bool) (past later : List Event)
    → second.what ≡ Plays ply → second.is_added ≡ false → is_used past ≡ true → is_pair (ply_times past) ≡ true
    → both_further (played (second ∷ past)) ≡ true → 2 ≤ quiet (second ∷ past) → NobodyPresses (second ∷ past) later
    → clock.what ≡ Clock runs → clock.is_added ≡ false → is_on (later ++ second ∷ past) ≡ true
    → is_some (doubt_of clock (later ++ second ∷ past)) ≡ true

-- Both are so, or neither.
abbrev pub are_alike : Bool → Bool → Bool
are_alike true other = other
are_alike false other = not other

-- A ply was thought about on its own side's time, as far as that is known.
abbrev pub is_own : Heard → Option Bool → Bool
is_own (Plays ply) (Some black) = are_alike black ply.black
is_own other counts = true

abbrev pub OnOwnTime : List Event → Type 0
OnOwnTime [] = ⊤
OnOwnTime (event ∷ past) = (is_own event.what (known_counting past) ≡ true) × OnOwnTime past

-- While players think on their own time, no ply is doubted for that.
abbrev pub OwnTimePasses : Type 0
OwnTimePasses = (event : Event) (past : List Event) → OnOwnTime (event ∷ past) → IsDoubtedFor OtherTime event past → ⊥

-- Nor is a quick one: the clock may not yet have told of the press before it.
abbrev pub QuickPlyPasses : Type 0
QuickPlyPasses = (event : Event) (past : List Event) → last_within 2000 (ply_times past) ≡ true → IsDoubtedFor OtherTime event past → ⊥

-- Nothing is heard that says something of the clock, no ply, and no further time in which the board isn't heard.
abbrev pub is_no_sign : Heard → Bool
is_no_sign (Clock runs) = false
is_no_sign Presses = false
is_no_sign (Counts black) = false
is_no_sign (Plays ply) = false
is_no_sign (Away gap) = false
is_no_sign other = true

abbrev pub NoSign : List Event → Type 0
NoSign [] = ⊤
NoSign (event ∷ past) = (is_no_sign event.what ≡ true) × NoSign past

-- If the board isn't heard for a time, and the clock then says only that it runs, or stands, as before, all that was known of it is known
-- on: which plies have no press, since when it has stood, and whose time runs.
abbrev pub ClockIsKnownAgain : Type 0
ClockIsKnownAgain = (away clock : Event) (gap : Gap) (runs : Bool) (past between : List Event) → away.what ≡ Away gap → clock.what ≡ Clock runs
    → NoSign between → let later : List Event = clock ∷ (between ++ away ∷ past) in
    (is_unheard later ≡ false) × (quiet later ≡ quiet past)
    × (runs ≡ false → is_some (stands_since past) ≡ true → stands_since later ≡ stands_since past)
    × (runs ≡ true → counting later ≡ counting past)

-- A piece of this side stands where the position doesn't have it, and is missing on its square. On an empty board it could go back there.
pub record CouldGoBack (black : Bool) (position picture : List ℕ) (s home : ℕ) : Type 0 where
  pub low : home < 64
  pub stands : elsewhere black position picture s ≡ true
  pub its : slice_index position home ≡ slice_index picture s
  pub missing : differs position picture home ≡ true
  pub goes : can_go (slice_index picture s) s home ≡ true

-- If plies lead back to a position, each piece that was moved by them went back to its square at last. From where it stood before that,
-- it could go back: a square from which a piece could counts. For the side to move it must not have stood there before the last move.
abbrev pub ReturnCounts : Type 0
ReturnCounts = (seen : Seen) (black : Bool) (earlier before position picture : List ℕ) (s home : ℕ) → s < 64
    → Sees seen black earlier before position picture
    → (CouldGoBack black position picture s home → differs before picture s ≡ true → (bit_at seen.own s == 1) ≡ true)
    × (CouldGoBack (not black) position picture s home → (bit_at seen.others s == 1) ≡ true)

-- No pawn counts, since it never goes back.
abbrev pub NoPawnCounts : Type 0
NoPawnCounts = (seen : Seen) (black : Bool) (earlier before position picture : List ℕ) (s : ℕ) → s < 64
    → Sees seen black earlier before position picture → kind_of (slice_index picture s) ≡ 1
    → ((bit_at seen.own s == 1) ≡ false) × ((bit_at seen.others s == 1) ≡ false)
