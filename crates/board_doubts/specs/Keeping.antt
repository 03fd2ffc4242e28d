-- What the parts stand for. A reader needs none of it: the contracts hold for whatever this says.
use Rattle.std.specs.Prelude.{◌≡◌, ◌+◌, ◌-◌, min, ℕ, zero, suc, Bool, false, nat_le, nat_lt, List, [], ◌∷◌, Option, Some, None, if◌then◌else◌}
use Rattle.square_runs.specs.Keeping.{StandsFor as RunsStandFor}
use Rattle.board_doubts.specs.declared.after_wrong.AfterWrong.{AfterWrong}
use Rattle.board_doubts.specs.declared.doubts.Doubts.{Doubts}
use Rattle.board_doubts.specs.declared.heard.Event.{Event}
use Rattle.board_doubts.specs.declared.heard.Ply.{Ply}
use Rattle.board_doubts.specs.declared.pace.Pace.{Pace}
use Rattle.board_doubts.specs.declared.plies.Plies.{Plies}
use Rattle.board_doubts.specs.declared.presses.Presses.{Presses}
use Rattle.board_doubts.specs.declared.recent.Recent.{Recent}
use Rattle.board_doubts.specs.declared.since.Since.{Since}
use Rattle.board_doubts.specs.declared.stood.Stood.{Stood}
use Rattle.board_doubts.specs.declared.stopped_clock.StoppedClock.{StoppedClock}
use Rattle.board_doubts.specs.declared.thinking.Thinking.{Thinking}
use Rattle.board_doubts.specs.declared.waited.Waited.{Waited}
use Rattle.board_doubts.specs.Clock.{ago, has_run, stands_since, tried}
use Rattle.board_doubts.specs.Doubts.{has_begun, is_over, passing}
use Rattle.board_doubts.specs.Pace.{pace_of}
use Rattle.board_doubts.specs.Pictures.{Laid, Squares, astray, has_left, has_stood, moved_on, others, own, shown_as, stands, stands_again}
use Rattle.board_doubts.specs.Plies.{pair_left, played}
use Rattle.board_doubts.specs.Presses.{pressed_at, quiet, runs, unpressed}
use Rattle.board_doubts.specs.Recent.{comes_first, day, gap, is_restart, pictures, since_news, touched}
use Rattle.board_doubts.specs.Silent.{has_repeated, pending}
use Rattle.board_doubts.specs.Thinking.{counting, lent}
use Rattle.board_doubts.specs.Unheard.{is_unheard}
use Rattle.board_doubts.specs.Unplayed.{apart_since, odd}
use Rattle.board_doubts.specs.Waiting.{has_moved, ply_times, waited}

-- What is kept of these squares of these pictures.
pub record KeepsStood (kept : Stood) (squares : Squares) (span : ℕ) (past : List Laid) : Type 0 where
  pub runs : RunsStandFor kept.runs (shown_as squares past)
  pub stood : kept.has_stood ≡ has_stood squares span past
  pub left : kept.has_left ≡ has_left squares span past

-- What is kept of these pictures.
pub record KeepsSince (kept : Since) (past : List Laid) : Type 0 where
  pub own_is : KeepsStood kept.own own stands past
  pub others_is : KeepsStood kept.others others stands past
  pub astray_is : KeepsStood kept.astray astray stands past
  pub again : KeepsStood kept.moved_on moved_on stands_again past
  pub drawn : KeepsStood kept.drawn moved_on stands past

-- What is kept of what was heard since the last news.
pub record KeepsRecent (kept : Recent) (past : List Event) : Type 0 where
  pub since : KeepsSince kept.since (pictures past)
  pub first : kept.comes_first ≡ comes_first past
  pub gap_is : kept.gap ≡ gap past
  pub restart : kept.is_restart ≡ is_restart past
  pub touched_is : kept.touched ≡ touched past

-- the time that counts from a mark on
abbrev pub from_mark : Waited → ℕ → ℕ
from_mark kept until = if kept.counts then until - kept.mark else 0

-- What is kept of the time since the last move.
pub record KeepsWaited (kept : Waited) (past : List Event) : Type 0 where
  pub same : (until : ℕ) → min day (kept.counted + from_mark kept until) ≡ waited until past

-- the first n of these times, and `None` where there are fewer
abbrev pub padded : ℕ → List ℕ → List (Option ℕ)
padded zero times = []
padded (suc n) [] = None ∷ padded n []
padded (suc n) (time ∷ times) = Some time ∷ padded n times

-- It is known, and no longer than this.
abbrev pub is_within : ℕ → Option ℕ → Bool
is_within time None = false
is_within time (Some ply) = nat_le ply time

-- It is known, and longer than this.
abbrev pub is_longer : ℕ → Option ℕ → Bool
is_longer time None = false
is_longer time (Some ply) = nat_lt time ply

-- What is kept of the times of plies.
pub record KeepsPace (kept : Pace) (times : List ℕ) : Type 0 where
  pub last : kept.last ≡ padded pace_of times

-- What is kept of plies.
pub record KeepsPlies (kept : Plies) (plies : ℕ → Option Ply) : Type 0 where
  pub last : kept.last ≡ plies 0
  pub second : kept.second ≡ plies 1
  pub third : kept.third ≡ plies 2
  pub fourth : kept.fourth ≡ plies 3

-- What is kept of presses of the clock.
pub record KeepsPresses (kept : Presses) (past : List Event) : Type 0 where
  pub pressed_is : kept.pressed_at ≡ pressed_at past
  pub quiet_is : kept.quiet ≡ quiet past
  pub runs_is : kept.runs ≡ runs past
  pub unpressed_is : kept.unpressed ≡ unpressed past

-- the first n of these, and `false` where there are fewer
abbrev pub filled : ℕ → List Bool → List Bool
filled zero plies = []
filled (suc n) [] = false ∷ filled n []
filled (suc n) (ply ∷ plies) = ply ∷ filled n plies

-- What is kept of the sides on whose time players think.
pub record KeepsThinking (kept : Thinking) (past : List Event) : Type 0 where
  pub counting_is : kept.counting ≡ counting past
  pub lent_is : kept.lent ≡ filled pace_of (lent past)

-- This was heard, the latest first.
pub record StandsFor (doubts : Doubts) (past : List Event) : Type 0 where
  pub recent : KeepsRecent doubts.recent (since_news past)
  pub waited_is : KeepsWaited doubts.waited past
  pub pace : KeepsPace doubts.pace (ply_times past)
  pub plies : KeepsPlies doubts.plies (played past)
  pub presses : KeepsPresses doubts.presses past
  pub thinking : KeepsThinking doubts.thinking past
  pub unheard : doubts.is_unheard ≡ is_unheard past
  pub moved : doubts.has_moved ≡ has_moved past
  pub begun : doubts.has_begun ≡ has_begun past
  pub over : doubts.is_over ≡ is_over past
  pub pair_is : doubts.pair ≡ pair_left past
  pub repeated : doubts.has_repeated ≡ has_repeated past
  pub passing_is : doubts.passing ≡ passing past
  pub pending_is : doubts.pending ≡ pending past

-- The same of moves that were made while the row said WRONG.
pub record AfterWrongStandsFor (kept : AfterWrong) (past : List Event) : Type 0 where
  pub since : kept.apart_since ≡ apart_since past
  pub moves : kept.odd ≡ odd past

-- The same of a clock.
pub record ClockStandsFor (clock : StoppedClock) (past : List Event) : Type 0 where
  pub run : clock.has_run ≡ has_run past
  pub since : clock.stands_since ≡ stands_since past
  pub unheard : clock.is_unheard ≡ is_unheard past
  pub moves : clock.tried ≡ tried past
  pub plies : clock.ago ≡ ago past
