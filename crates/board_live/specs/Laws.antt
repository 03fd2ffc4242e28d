-- What holds of each history. Lists have the latest first, but the bytes.
use Rattle.std.specs.Prelude.{◌≡◌, ◌≢◌, ◌⊎◌, ℕ, Bool, true, false, List, [], ◌∷◌, ◌++◌, Option, Some, None}
use Rattle.std.specs.List.{list_all}
use Rattle.chess_rules.specs.Valid.{Valid}
use Rattle.board_cable.specs.declared.line.Event.{Event}
use Rattle.board_cable.specs.declared.line.Happening.TheVariants.{Opens}
use Rattle.board_cable.specs.Numbers.{knows_still}
use Rattle.board_cable.specs.Silence.{is_silent}
use Rattle.board_cable.specs.Pace.{asks}
use Rattle.board_cable.specs.Whose.{handling_at, is_own, own_number, shown_number}
use Rattle.board_cable.specs.declared.happened.What.TheVariants.{Begins, Owns}
use Rattle.board_cable.specs.Keeping.{kept}
use Rattle.board_cable.specs.Turns.{Told, Turn, handling_of, request_of, told}
use Rattle.board_events.specs.Settings.{Setting}
use Rattle.board_game.specs.Games.{IsStateOf}
use Rattle.board_game.specs.declared.note.Note.{Note}
use Rattle.board_game.specs.declared.note.Note.TheVariants.{Line, Looked, PutsBack, Reopens, Passes, Resumes, Suspects}
use Rattle.board_standing.specs.declared.state.Hint.TheVariants.{OtherBoard}
use Rattle.board_standing.specs.declared.state.State.{State}
use Rattle.board_live.specs.declared.happened.What.{What}
use Rattle.board_live.specs.declared.happened.What.TheVariants.{Cable, Keeps, KeepsAdded, Tells, Notes}
use Rattle.board_endings.specs.declared.news.End.{End}
use Rattle.board_live.specs.Coming.{came, lined, silence}
use Rattle.board_live.specs.Due.{IsDue}
use Rattle.board_live.specs.Ending.{IsEndSaid}
use Rattle.board_live.specs.Moments.{Moment, already, cabled, is_added, news_of}
use Rattle.board_live.specs.Numbers.{number_news}
use Rattle.board_live.specs.Saying.{IsRead, IsSaid}

-- Whatever happens later, the turns up to now are the same: so is all that was answered, since that follows from them.
abbrev pub LaterChangesNothing : Type 0
LaterChangesNothing = (later past : List Moment) (turns others : List Turn) → Told (cabled (later ++ past)) turns → Told (cabled past) others
    → (more : List Turn) × (turns ≡ more ++ others)

-- From a valid start one history says one thing at each moment.
abbrev pub IsSaidOnce : Type 0
IsSaidOnce = (setting : Setting) (recovers : Bool) (past : List Moment) (turns : List Turn) (said other last final : Option State) → Valid setting.start
    → IsSaid setting recovers past turns said last → IsSaid setting recovers past turns other final → (said ≡ other) × (last ≡ final)

-- Of a board that has sent the number that was known when its line was opened, it isn't said that it may be another one, until another
-- number is said to be the game's board's.
abbrev pub OwnBoardIsNoOther : Type 0
OwnBoardIsNoOther = (setting : Setting) (recovers : Bool) (past : List Moment) (turns : List Turn) (state : State) (last : Option State) (opened : ℕ) (number : List ℕ)
    (since before : List Event) → told turns ≡ since ++ record { at = opened; what = Opens } ∷ before → own_number before ≡ Some number
    → list_all (λ event. knows_still event.what) since ≡ true → shown_number (told turns) ≡ Some number → IsSaid setting recovers past turns (Some state) last
    → state.hint ≢ Some OtherBoard

-- Nothing else is left out: a state with another hint, or with none, is read as it is, and so is each state of another board.
abbrev pub NothingElseIsLeftOut : Type 0
NothingElseIsLeftOut = (setting : Setting) (recovers : Bool) (past : List Moment) (turns : List Turn) (now : ℕ) (state : State)
    → IsStateOf setting recovers (came past turns) now state → (state.hint ≢ Some OtherBoard) ⊎ (is_own (told turns) ≡ false)
    → IsRead setting recovers past turns now state

-- And it names one time at which the recorder is woken.
abbrev pub WakesOnce : Type 0
WakesOnce = (setting : Setting) (recovers : Bool) (past : List Moment) (turns : List Turn) (now : ℕ) (due other : Option ℕ) → Valid setting.start
    → IsDue setting recovers (came past turns) (told turns) now due → IsDue setting recovers (came past turns) (told turns) now other → due ≡ other

-- What is kept of a call: bytes as the capture got them, if there are any, and whether they were added by hand; and what isn't in
-- the bytes.
abbrev pub kept_as : Bool → What
kept_as true = KeepsAdded
kept_as false = Keeps

abbrev pub with_kept : ℕ → Bool → List ℕ → List Moment → List Moment
with_kept at added [] before = before
with_kept at added (byte ∷ bytes) before = record { at = at; what = kept_as added; bytes = byte ∷ bytes } ∷ before

abbrev pub told_as : Note → What
told_as (Line heard) = Tells heard
told_as Looked = Notes Looked
told_as PutsBack = Notes PutsBack
told_as Reopens = Notes Reopens
told_as Passes = Notes Passes
told_as Resumes = Notes Resumes
told_as (Suspects n) = Notes (Suspects n)

abbrev pub with_told : ℕ → Option Note → List Moment → List Moment
with_told at None before = before
with_told at (Some note) before = record { at = at; what = told_as note; bytes = [] } ∷ before

-- what is kept of what happened, one thing after the other
abbrev pub as_kept : List Moment → List Turn → List Moment
as_kept [] turns = []
as_kept (moment ∷ past) [] = []
as_kept (moment ∷ past) (turn ∷ turns) = with_told moment.at (lined (silence moment.what (is_silent (told turns)) (is_silent (told (turn ∷ turns)))))
    (with_kept moment.at false (kept (turn ∷ turns)) (with_kept moment.at (is_added moment.what) (already moment.what moment.bytes)
    (with_told moment.at (news_of moment.what) (as_kept past turns))))

-- and the number of the game's board, if it is known
abbrev pub with_number : ℕ → Option (List ℕ) → List Moment → List Moment
with_number at None before = before
with_number at (Some number) before = record { at = at; what = Cable (Owns number); bytes = [] } ∷ before

-- The same is answered at the last moment, and the same has come to the game; while nothing more happens, the board is asked at the same
-- times, and the same is done with what it sends.
pub record AnsweredAlike (past : List Moment) (turn : Turn) (turns : List Turn) (other : List Moment) (second : Turn) (others : List Turn) : Type 0 where
  pub request : request_of turn ≡ request_of second
  pub handling : handling_of turn ≡ handling_of second
  pub number : (what : What) → number_news what (own_number (told turns)) (own_number (told (turn ∷ turns)))
      ≡ number_news what (own_number (told others)) (own_number (told (second ∷ others)))
  pub kept : kept (turn ∷ turns) ≡ kept (second ∷ others)
  pub silent : is_silent (told (turn ∷ turns)) ≡ is_silent (told (second ∷ others))
  pub own : is_own (told (turn ∷ turns)) ≡ is_own (told (second ∷ others))
  pub came : came past (turn ∷ turns) ≡ came other (second ∷ others)
  pub asked : (later : ℕ) → asks later (told (turn ∷ turns)) ≡ asks later (told (second ∷ others))
  pub handled : (later : ℕ) → handling_at later (told (turn ∷ turns)) ≡ handling_at later (told (second ∷ others))

-- A call that begins after what was lived through, and one that begins after what was kept of it, answer alike from then on.
abbrev pub RestartsAlike : Type 0
RestartsAlike = (call past : List Moment) (begins : Moment) (before : List Turn) (turn second : Turn) (turns others : List Turn)
    → begins.what ≡ Cable Begins → Told (cabled past) before
    → let kept : List Moment = with_number begins.at (own_number (told before)) (as_kept past before) in
    Told (cabled (call ++ begins ∷ past)) (turn ∷ turns) → Told (cabled (call ++ begins ∷ kept)) (second ∷ others)
    → AnsweredAlike (call ++ begins ∷ past) turn turns (call ++ begins ∷ kept) second others

-- So the same states are said.
abbrev pub SaysAlike : Type 0
SaysAlike = (setting : Setting) (recovers : Bool) (call past : List Moment) (begins : Moment) (before turns others : List Turn) (said other last final : Option State)
    → Valid setting.start → begins.what ≡ Cable Begins → Told (cabled past) before
    → let kept : List Moment = with_number begins.at (own_number (told before)) (as_kept past before) in
    Told (cabled (call ++ begins ∷ past)) turns → Told (cabled (call ++ begins ∷ kept)) others
    → IsSaid setting recovers (call ++ begins ∷ past) turns said last → IsSaid setting recovers (call ++ begins ∷ kept) others other final
    → said ≡ other

-- And the same is said of the end of the game.
abbrev pub EndsAlike : Type 0
EndsAlike = (setting : Setting) (recovers : Bool) (call past : List Moment) (begins : Moment) (before turns others : List Turn) (said other : End)
    → Valid setting.start → begins.what ≡ Cable Begins → Told (cabled past) before
    → let kept : List Moment = with_number begins.at (own_number (told before)) (as_kept past before) in
    Told (cabled (call ++ begins ∷ past)) turns → Told (cabled (call ++ begins ∷ kept)) others
    → IsEndSaid setting recovers (call ++ begins ∷ past) turns said
    → IsEndSaid setting recovers (call ++ begins ∷ kept) others other → said ≡ other
