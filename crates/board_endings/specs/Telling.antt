-- What is told of a game to `game_over`. Lists have the latest first.
use Rattle.std.specs.Prelude.{◌≡◌, ◌≢◌, ◌<◌, ◌^◌, ◌⊎◌, ◌&&◌, not, ℕ, Bool, true, false, List, [], ◌∷◌, Option, Some, None, is_some, if◌then◌else◌}
use Rattle.std.specs.Str.{bytes_eq}
use Rattle.chess_rules.specs.declared.parts.Parts.{Parts}
use Rattle.chess_rules.specs.Picture.{picture}
use Rattle.dgt_frame.specs.declared.events.Event.{Event as BoardEvent}
use Rattle.settle_core.specs.declared.plies.Outcome.{Outcome as Result}
use Rattle.settle_core.specs.declared.plies.Outcome.TheVariants.{WhiteWins as WhiteWon, BlackWins as BlackWon, Drawn}
use Rattle.settle_core.specs.declared.plies.Ply.{Ply}
use Rattle.settle_core.specs.Entries.{deduplicated, repeats}
use Rattle.settle_core.specs.Folding.{Folds, Score}
use Rattle.settle_core.specs.Masks.{IsDiff}
use Rattle.board_events.specs.Entries.{is_entry}
use Rattle.board_events.specs.History.{picture_of}
use Rattle.board_events.specs.Session.{entries_in}
use Rattle.board_events.specs.Settings.{Setting}
use Rattle.board_alarms.specs.Hearing.{HasResult}
use Rattle.board_alarms.specs.Plies.{position}
use Rattle.game_over.specs.declared.happened.Event.{Event}
use Rattle.game_over.specs.declared.happened.Happening.{Happening}
use Rattle.game_over.specs.declared.happened.Happening.TheVariants.{Moves, Agrees, Differs, Shows, Ends, Declares, Reopens as IsReopened, Resumes, GoesBack as HasGoneBack}
use Rattle.game_over.specs.declared.happened.Move.{Move}
use Rattle.game_over.specs.declared.happened.Outcome.{Outcome}
use Rattle.game_over.specs.declared.happened.Outcome.TheVariants.{WhiteWins, BlackWins, Draw}
use Rattle.game_over.specs.Over.{ended_by, hears, passes}
use Rattle.board_endings.specs.declared.news.News.{News}
use Rattle.board_endings.specs.declared.news.News.TheVariants.{Begins, GoesBack, Reopens, Passes}
use Rattle.board_endings.specs.declared.picture.Told.{Told}
use Rattle.board_endings.specs.Items.{Item, Noted, Sent, bytes_of, events_of}
use Rattle.board_endings.specs.Moves.{TellsMove}

-- ---- a picture

-- An event after these shows another picture than the one before it, or the first.
abbrev pub is_new : Setting → List BoardEvent → BoardEvent → Bool
is_new setting past event = is_entry event past && not (repeats (picture_of setting.rotated (event ∷ past)) (entries_in setting past))

-- a move or a correction; else whether the board shows the game's position
abbrev pub game_by : Option Move → Bool → Happening
game_by (Some move) agrees = Moves move
game_by None agrees = if agrees then Agrees else Differs

abbrev pub outcome_of : Result → Outcome
outcome_of WhiteWon = WhiteWins
outcome_of BlackWon = BlackWins
outcome_of Drawn = Draw

abbrev pub ends : Bool → Option Result → Option Happening
ends added None = None
ends added (Some result) = Some (Ends (outcome_of result) added)

abbrev pub declares : Bool → Option Result → Option Happening
declares added None = None
declares added (Some result) = Some (Declares (outcome_of result) added)

-- The result after a move is mate or stalemate, and is told anew after a correction. Else the kings show it; that is told where it has
-- become another one.
abbrev pub TellsResult : Bool → Option Move → Option Result → Option Result → Option Happening → Type 0
TellsResult added (Some move) before after told = told ≡ ends added after
TellsResult added None before after told = ((after ≡ before) × (told ≡ None)) ⊎ ((after ≢ before) × (told ≡ declares added after))

-- What a picture tells with which the plies and the result have become the second ones.
pub record TellsPicture (start : Parts) (added : Bool) (old new : List Ply) (before after : Option Result) (seen : List ℕ) (told : Told) : Type 0 where
  pub moved : Option Move
  pub moves : TellsMove start added old new moved
  pub game : told.game ≡ game_by moved (bytes_eq seen (position start new))
  pub ended : TellsResult added moved before after told.ended
  pub fits : told.shown.off < 2 ^ 64
  pub off : IsDiff told.shown.off (picture start) seen
  pub at_start : told.shown.at_start ≡ bytes_eq (position start new) (picture start)

-- What an event after these tells by its picture.
pub record TellsNew (setting : Setting) (past : List BoardEvent) (added : Bool) (event : BoardEvent) (told : Told) : Type 0 where
  pub before : Score
  pub after : Score
  pub old : Option Result
  pub new : Option Result
  pub folds_before : Folds setting.start (deduplicated (entries_in setting past)) before
  pub folds : Folds setting.start (deduplicated (entries_in setting (event ∷ past))) after
  pub old_is : HasResult setting.start before old
  pub new_is : HasResult setting.start after new
  pub tells : TellsPicture setting.start added before.plies after.plies old new (picture_of setting.rotated (event ∷ past)) told

-- ---- one thing after the other

abbrev pub happens : ℕ → ℕ → Happening → Event
happens at bytes what = record { at = at; bytes = bytes; what = what }

-- Time has ended the game by then, if nothing else has.
abbrev pub timed : ℕ → ℕ → List Event → List Event
timed at bytes past = if is_some (ended_by (passes at bytes) past) then passes at bytes ∷ past else past

-- The board is heard then, and what it shows is told behind this: its result has stood by then, if that ends the game.
abbrev pub heard : ℕ → ℕ → List Event → List Event
heard at bytes past = if is_some (ended_by (hears at bytes) past) then hears at bytes ∷ past else past

-- An event comes. If it was added by hand, the board isn't heard by it.
abbrev pub listened : Bool → ℕ → ℕ → List Event → List Event
listened true at bytes past = timed at bytes past
listened false at bytes past = heard at bytes (timed at bytes past)

abbrev pub with_ended : ℕ → ℕ → Option Happening → List Event → List Event
with_ended at bytes None past = past
with_ended at bytes (Some what) past = happens at bytes what ∷ past

-- First what the picture says of the game; then its result; last the picture.
abbrev pub with_picture : ℕ → ℕ → Told → List Event → List Event
with_picture at bytes told past =
    happens at bytes (Shows told.shown) ∷ with_ended at bytes told.ended (happens at bytes told.game ∷ past)

-- This is told of an event: what the time says at which it comes, and then its picture, if that is another one.
abbrev pub TellsEvent : Bool → Setting → List BoardEvent → ℕ → Bool → ℕ → BoardEvent → List Event → List Event → Type 0
TellsEvent false setting past at added bytes event earlier told = told ≡ listened added at bytes earlier
TellsEvent true setting past at added bytes event earlier told = (picture : Told) × TellsNew setting past added event picture
    × (told ≡ with_picture at bytes picture (listened added at bytes earlier))

-- What news tell, if more than that time has passed. Nobody listened before a recorder begins: no time has ended the game by then.
abbrev pub happening_of : News → Option Happening
happening_of Begins = Some Resumes
happening_of GoesBack = Some HasGoneBack
happening_of Reopens = Some IsReopened
happening_of Passes = None

abbrev pub with_news : ℕ → ℕ → Option Happening → List Event → List Event
with_news at bytes None past = timed at bytes past
with_news at bytes (Some what) past = happens at bytes what ∷ past

-- This is told of these items.
abbrev pub Tells : Setting → List Item → List Event → Type 0
Tells setting [] told = told ≡ []
Tells setting (Sent at added bytes event ∷ items) told = (earlier : List Event) × Tells setting items earlier
    × TellsEvent (is_new setting (events_of items) event) setting (events_of items) at added bytes event earlier told
Tells setting (Noted at news ∷ items) told = (earlier : List Event) × Tells setting items earlier
    × (told ≡ with_news at (bytes_of items) (happening_of news) earlier)
