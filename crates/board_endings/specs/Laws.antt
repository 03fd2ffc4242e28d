-- What holds of each history. Items are listed with the latest first.
use Rattle.std.specs.Prelude.{◌≡◌, ◌<◌, ◌≤◌, ◌^◌, ◌∷◌, ℕ, true, List, Option, is_some}
use Rattle.chess_rules.specs.Valid.{Valid}
use Rattle.board_events.specs.Settings.{Setting}
use Rattle.square_runs.specs.Lasting.{IsBefore}
use Rattle.game_over.specs.declared.happened.Event.{Event}
use Rattle.board_endings.specs.declared.news.End.{End}
use Rattle.board_endings.specs.declared.news.News.TheVariants.{Begins, Passes}
use Rattle.board_endings.specs.Items.{Item, Noted}
use Rattle.board_endings.specs.Saying.{IsDueAt, IsEndAt}
use Rattle.board_endings.specs.Telling.{Tells}

-- From a valid start, one thing is told of what came.
abbrev pub TellsOnce : Type 0
TellsOnce = (setting : Setting) (items : List Item) (a b : List Event) → Valid setting.start → Tells setting items a → Tells setting items b → a ≡ b

-- So the end of the game follows from it.
abbrev pub EndsOnce : Type 0
EndsOnce = (setting : Setting) (items : List Item) (now : ℕ) (a b : End) → Valid setting.start → IsEndAt setting items now a → IsEndAt setting items now b → a ≡ b

-- So does the time at which time alone ends it.
abbrev pub DueOnce : Type 0
DueOnce = (setting : Setting) (items : List Item) (now : ℕ) (a b : Option ℕ) → Valid setting.start → IsDueAt setting items now a → IsDueAt setting items now b → a ≡ b

-- Until time is due to end the game, it stands as it does now.
abbrev pub SameUntilDue : Type 0
SameUntilDue = (setting : Setting) (items : List Item) (now later : ℕ) (due : Option ℕ) (end : End) → Valid setting.start → now ≤ later → later < 2 ^ 64
    → IsBefore later due → IsDueAt setting items now due → IsEndAt setting items now end → IsEndAt setting items later end

-- If a game is over at some time, and it was told then that time has passed, the game stays so when a recorder begins.
abbrev pub StaysOver : Type 0
StaysOver = (setting : Setting) (items : List Item) (at later now : ℕ) (end : End) → is_some end.over ≡ true → IsEndAt setting items at end
    → IsEndAt setting (Noted later Begins ∷ Noted at Passes ∷ items) now end
