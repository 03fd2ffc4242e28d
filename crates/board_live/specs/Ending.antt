-- What is said of the end of the game. Lists have the latest first.
use Rattle.std.specs.Prelude.{◌≡◌, ◌≢◌, ◌⊎◌, ◌<◌, ◌≤◌, ◌^◌, ℕ, Bool, true, false, List, [], ◌∷◌, Option, None}
use Rattle.chess_rules.specs.Valid.{Valid}
use Rattle.board_cable.specs.Lasting.{IsBefore}
use Rattle.board_cable.specs.Turns.{Turn}
use Rattle.board_endings.specs.declared.news.End.{End}
use Rattle.board_events.specs.Settings.{Setting}
use Rattle.board_game.specs.Ending.{IsEndOf}
use Rattle.board_game.specs.History.{Came}
use Rattle.game_over.specs.declared.said.Over.{Over}
use Rattle.board_live.specs.Coming.{came}
use Rattle.board_live.specs.Moments.{Moment, begins}
use Rattle.board_live.specs.Saying.{is_live}

-- when something happened last
abbrev pub last_at : List Moment → ℕ
last_at [] = 0
last_at (moment ∷ past) = moment.at

-- It is said where it has become another one.
abbrev pub SaysOver : Option Over → Option Over → Option Over → Type 0
SaysOver before now said = ((now ≡ before) × (said ≡ None)) ⊎ ((now ≢ before) × (said ≡ now))

abbrev pub SaysCount : Option ℕ → Option ℕ → Option ℕ → Type 0
SaysCount before now said = ((now ≡ before) × (said ≡ None)) ⊎ ((now ≢ before) × (said ≡ now))

-- what is news of how the game stands with its end
pub record IsNews (before now said : End) : Type 0 where
  pub over : SaysOver before.over now.over said.over
  pub goes_on : SaysCount before.goes_on now.goes_on said.goes_on
  pub begins : SaysCount before.begins now.begins said.begins

-- When a call begins, all is said; then what is news; before a call has begun, nothing.
abbrev pub SaysNews : Bool → Bool → End → End → End → Type 0
SaysNews false first before now said = said ≡ record { over = None; goes_on = None; begins = None }
SaysNews true true before now said = said ≡ now
SaysNews true false before now said = IsNews before now said

-- This is said at the last of these moments.
pub record SaysEnd (setting : Setting) (recovers : Bool) (moment : Moment) (past : List Moment) (turn : Turn) (turns : List Turn) (said : End) : Type 0 where
  pub before : End
  pub now : End
  pub before_is : IsEndOf setting recovers (came past turns) (last_at past) before
  pub now_is : IsEndOf setting recovers (came (moment ∷ past) (turn ∷ turns)) moment.at now
  pub said_is : SaysNews (is_live (moment ∷ past)) (begins moment.what) before now said

abbrev pub IsEndSaid : Setting → Bool → List Moment → List Turn → End → Type 0
IsEndSaid setting recovers [] turns said = ⊥
IsEndSaid setting recovers (moment ∷ past) [] said = ⊥
IsEndSaid setting recovers (moment ∷ past) (turn ∷ turns) said = SaysEnd setting recovers moment past turn turns said

-- From a valid start the game stands so until this time as it does now, if nothing more comes.
abbrev pub EndStays : Setting → Bool → List Came → ℕ → Option ℕ → Type 0
EndStays setting recovers past now due = (later : ℕ) (end : End) → Valid setting.start → now ≤ later → later < 2 ^ 64 → IsBefore later due
    → IsEndOf setting recovers past now end → IsEndOf setting recovers past later end
