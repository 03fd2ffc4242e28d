-- What is told and said means what an arbiter takes it for. Lists have the latest first, times are milliseconds.
use Rattle.std.specs.Prelude.{◌≡◌, ◌≢◌, ◌↔◌, ◌<◌, ◌≤◌, ◌+◌, ℕ, Bool, true, false, List, [], ◌∷◌, ◌++◌, Option, Some, None, if◌then◌else◌, ⊤}
use Rattle.std.specs.List.{list_all}
use Rattle.chess_rules.specs.declared.parts.Parts.{Parts}
use Rattle.chess_rules.specs.Valid.{Valid}
use Rattle.dgt_frame.specs.declared.events.Event.{Event as BoardEvent}
use Rattle.settle_core.specs.declared.plies.Outcome.{Outcome as Result}
use Rattle.settle_core.specs.declared.plies.Outcome.TheVariants.{WhiteWins as WhiteWon, BlackWins as BlackWon, Drawn}
use Rattle.settle_core.specs.declared.plies.Ply.{Ply}
use Rattle.board_events.specs.Settings.{Setting}
use Rattle.board_alarms.specs.Plies.{position}
use Rattle.game_over.specs.declared.happened.Event.{Event}
use Rattle.game_over.specs.declared.happened.Happening.{Happening}
use Rattle.game_over.specs.declared.happened.Happening.TheVariants.{Agrees, Differs, Ends, Declares, Hears}
use Rattle.game_over.specs.declared.happened.Move.{Move}
use Rattle.game_over.specs.declared.happened.Outcome.{Outcome}
use Rattle.game_over.specs.declared.happened.Outcome.TheVariants.{WhiteWins, BlackWins, Draw}
use Rattle.game_over.specs.declared.said.Over.{Over}
use Rattle.game_over.specs.declared.said.Why.TheVariants.{Stood}
use Rattle.game_over.specs.Over.{is_over}
use Rattle.game_over.specs.Standing.{GivesIt, leaves_it}
use Rattle.board_endings.specs.declared.news.End.{End}
use Rattle.board_endings.specs.declared.news.News.TheVariants.{Reopens}
use Rattle.board_endings.specs.declared.picture.Told.{Told}
use Rattle.board_endings.specs.Items.{Item, Noted}
use Rattle.board_endings.specs.Saying.{IsEnd, IsEndAt}
use Rattle.board_endings.specs.Telling.{Tells, TellsEvent, TellsPicture, TellsResult, listened}

-- ---- what is told

-- A picture that leaves the plies as they are tells that the board agrees exactly if it is the position, and else that it differs.
abbrev pub PositionAgrees : Type 0
PositionAgrees = (start : Parts) (added : Bool) (plies : List Ply) (before after : Option Result) (seen : List ℕ) (told : Told)
    → TellsPicture start added plies plies before after seen told
    → (seen ≡ position start plies → told.game ≡ Agrees) × (seen ≢ position start plies → told.game ≡ Differs)

-- The outcome is the session's result.
abbrev pub IsSame : Result → Outcome → Type 0
IsSame WhiteWon outcome = outcome ≡ WhiteWins
IsSame BlackWon outcome = outcome ≡ BlackWins
IsSame Drawn outcome = outcome ≡ Draw

-- The result that a game has with a move is mate or stalemate. One that it has without a move is shown by the kings, and counts as declared,
-- if it wasn't there before. Either is told as the session has it.
abbrev pub ResultsAreTold : Type 0
ResultsAreTold = (added : Bool) (move : Move) (before : Option Result) (result : Result) (told : Option Happening)
    → (TellsResult added (Some move) before (Some result) told → (outcome : Outcome) × IsSame result outcome × (told ≡ Some (Ends outcome added)))
    × (before ≢ Some result → TellsResult added None before (Some result) told → (outcome : Outcome) × IsSame result outcome × (told ≡ Some (Declares outcome added)))
    × (TellsResult added None before before told → told ≡ None)

-- The board isn't heard.
abbrev pub NotHeard : List Event → Type 0
NotHeard [] = ⊤
NotHeard (event ∷ past) = (event.what ≢ Hears) × NotHeard past

-- By an event that was added by hand the board isn't heard.
abbrev pub AddedIsNotHeard : Type 0
AddedIsNotHeard = (another : Bool) (setting : Setting) (past : List BoardEvent) (at bytes : ℕ) (event : BoardEvent) (earlier told : List Event)
    → TellsEvent another setting past at true bytes event earlier told → (more : List Event) × (told ≡ more ++ earlier) × NotHeard more

-- ---- what is said

-- Once an arbiter has reopened a game it is neither over, nor does it go on, however much time passes.
abbrev pub ReopenedGameIsOn : Type 0
ReopenedGameIsOn = (setting : Setting) (items : List Item) (at now : ℕ) (end : End) → IsEndAt setting (Noted at Reopens ∷ items) now end
    → (end.over ≡ None) × (end.goes_on ≡ None)

-- It is over since its result has stood.
abbrev pub IsStood : End → Type 0
IsStood end = (over : Over) × (end.over ≡ Some over) × (over.why ≡ Stood)

-- It is so from this time on, and isn't over before.
abbrev pub IsStoodFrom : ℕ → ℕ → End → Type 0
IsStoodFrom from now end = (from ≤ now → IsStood end) × (now < from → end.over ≡ None)

-- A result that was given, and that nothing has touched since, ends the game with the first event that the board sends ten seconds later, and
-- with none before.
abbrev pub HeardResultEnds : Type 0
HeardResultEnds = (added : Bool) (given : Event) (later past : List Event) (at bytes : ℕ) (end : End) → GivesIt added given.what
    → list_all leaves_it later ≡ true → is_over (later ++ given ∷ past) ≡ false → IsEnd (listened false at bytes (later ++ given ∷ past)) end
    → IsStoodFrom (given.at + 10000) at end

-- Time alone ends it 17 seconds later, or ten if an arbiter gave it, and not before, whatever was told of the items before that.
abbrev pub TimeEndsResult : Type 0
TimeEndsResult = (added : Bool) (given : Event) (later past : List Event) (setting : Setting) (items : List Item) (now : ℕ) (end : End)
    → Valid setting.start → Tells setting items (later ++ given ∷ past) → GivesIt added given.what → list_all leaves_it later ≡ true
    → is_over (later ++ given ∷ past) ≡ false → IsEndAt setting items now end → IsStoodFrom (given.at + (if added then 10000 else 17000)) now end
