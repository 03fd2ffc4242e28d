-- What holds of each history. Events are listed with the latest first.
use Rattle.std.specs.Prelude.{◌≡◌, ◌<◌, ◌≤◌, ◌^◌, ◌↔◌, ℕ, IsTrue, List}
use Rattle.square_runs.specs.Lasting.{IsBefore}
use Rattle.square_runs.specs.Laws.{HoldsThroughout, InOrder}
use Rattle.square_runs.specs.Shown.{Shown, has}
use Rattle.board_standing.specs.declared.heard.Event.{Event}
use Rattle.board_standing.specs.Pictures.{hand, is_no_nearer, is_old, is_overdue, patience, since_set_up}
use Rattle.board_standing.specs.States.{due_at, hint_at, kind_at, names_at, since_at}

-- What is read at both times is the same.
pub record ReadsAlike (now later : ℕ) (past : List Event) : Type 0 where
  pub kind : kind_at later past ≡ kind_at now past
  pub since : since_at later past ≡ since_at now past
  pub squares : (s : ℕ) → s < 64 → names_at later past s ≡ names_at now past s
  pub hint : hint_at later past ≡ hint_at now past

-- If nothing is heard, the state stays as it is until it is due.
abbrev pub StaysUntilDue : Type 0
StaysUntilDue = (now later : ℕ) (past : List Event) → now ≤ later → later < 2 ^ 64 → IsBefore later (due_at now past)
    → ReadsAlike now later past

-- Pictures in order of time: a square is old if, for as long as a hand may take, each picture that stood had it, of those
-- since a set-up left few.
abbrev pub OldIsThroughout : Type 0
OldIsThroughout = (now s : ℕ) (past : List Shown) → InOrder now past
    → (IsTrue (is_old now past s) ↔ HoldsThroughout (has s) hand now (since_set_up past))

-- A game is overdue if, for as long as it gets, no picture that stood had come nearer to it.
abbrev pub OverdueIsThroughout : Type 0
OverdueIsThroughout = (now : ℕ) (past : List Shown) → InOrder now past
    → (IsTrue (is_overdue now past) ↔ HoldsThroughout is_no_nearer patience now past)
