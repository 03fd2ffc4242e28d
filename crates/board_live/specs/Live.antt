-- What a recorded board stands for, and what it answers. Lists have the latest first.
use Rattle.std.specs.Prelude.{◌≡◌, ◌↔◌, ◌&&◌, not, ℕ, IsTrue, Bool, false, if◌then◌else◌, List, ◌∷◌, length, Option, Some, None}
use Rattle.board_cable.specs.Whose.{own_number}
use Rattle.board_cable.specs.Keeping.{kept}
use Rattle.board_cable.specs.Turns.{Turn, handling_of, request_of, told}
use Rattle.board_events.specs.Settings.{Setting}
use Rattle.board_alarms.specs.declared.look.Look.{Look}
use Rattle.board_game.specs.Alarming.{AlarmsAre, ClockIsStopped}
use Rattle.board_game.specs.Games.{HasBegun as GameHasBegun, StandsFor as GameStands}
use Rattle.board_standing.specs.declared.state.State.{State}
use Rattle.board_live.specs.declared.live.Answer.{Answer}
use Rattle.board_live.specs.declared.live.Live.{Live}
use Rattle.board_live.specs.Attending.{Attends}
use Rattle.board_live.specs.Coming.{HasRoom, came}
use Rattle.board_live.specs.Ending.{SaysEnd, last_at}
use Rattle.board_live.specs.Moments.{Moment, already, begins, is_added, news_of}
use Rattle.board_live.specs.Numbers.{number_news}
use Rattle.board_live.specs.Saying.{HasSaid, IsSaid, is_live}

-- This happened, and the text reports it. A reader needs none of this: the contracts hold for whatever it says.
pub record StandsFor (live : Live) (setting : Setting) (recovers : Bool) (past : List Moment) (text : List ℕ) : Type 0 where
  pub attends : Attends live.attending past
  pub game : GameStands live.game setting recovers (came past attends.cable.turns) text
  pub saying : HasSaid live.saying setting recovers past attends.cable.turns
  pub at_is : live.at ≡ last_at past

-- Something happened, or nothing yet.
abbrev pub HasBegun : Live → Type 0
HasBegun live = GameHasBegun live.game

-- So many of the alarms that are open now aren't said. When a call begins all are said; then each when it is raised; before a call
-- has begun none.
abbrev pub unsaid : Bool → Bool → ℕ → ℕ → ℕ
unsaid live first before now = if live then (if first then 0 else before) else now

-- So many aren't said at the last of these moments.
pub record LeavesUnsaid (setting : Setting) (recovers : Bool) (moment : Moment) (past : List Moment) (turn : Turn) (turns : List Turn) (count : ℕ) : Type 0 where
  pub before : List Look
  pub now : List Look
  pub before_are : AlarmsAre setting recovers (came past turns) before
  pub now_are : AlarmsAre setting recovers (came (moment ∷ past) (turn ∷ turns)) now
  pub count_is : count ≡ unsaid (is_live (moment ∷ past)) (begins moment.what) (length before) (length now)

-- One of these holds, and the other doesn't.
abbrev pub is_change : Bool → Bool → Bool
is_change one other = if one then not other else other

-- What is said of the clock: when a call begins, that it is stopped, if it is; then each time that it is stopped, or runs again. Before a
-- call has begun nothing is said.
abbrev pub clock_news : Bool → Bool → Bool → Bool → Option Bool
clock_news live first before now = if live && is_change (if first then false else before) now then Some now else None

-- This is said of the clock at the last of these moments.
pub record TellsClock (setting : Setting) (recovers : Bool) (moment : Moment) (past : List Moment) (turn : Turn) (turns : List Turn) (news : Option Bool) : Type 0 where
  pub before : Bool
  pub now : Bool
  pub before_is : ClockIsStopped setting recovers (came past turns) before
  pub now_is : ClockIsStopped setting recovers (came (moment ∷ past) (turn ∷ turns)) now
  pub news_is : news ≡ clock_news (is_live (moment ∷ past)) (begins moment.what) before now

-- This is the answer to the last of these moments.
pub record Answers (setting : Setting) (recovers : Bool) (moment : Moment) (past : List Moment) (turn : Turn) (turns : List Turn) (answer : Answer) : Type 0 where
  pub request : answer.request ≡ request_of turn
  pub handling : answer.handling ≡ handling_of turn
  pub number : answer.number ≡ number_news moment.what (own_number (told turns)) (own_number (told (turn ∷ turns)))
  pub alarms : LeavesUnsaid setting recovers moment past turn turns answer.unsaid
  pub clock : TellsClock setting recovers moment past turn turns answer.is_clock_stopped
  pub last : Option State
  pub said : IsSaid setting recovers (moment ∷ past) (turn ∷ turns) answer.state last
  pub end : SaysEnd setting recovers moment past turn turns answer.end
  pub whole : IsTrue answer.is_whole ↔ HasRoom moment.at (news_of moment.what) (is_added moment.what) (already moment.what moment.bytes) (kept (turn ∷ turns)) (came past turns)
