-- What the parts stand for. A reader needs none of it: the contracts hold for whatever this says.
use Rattle.std.specs.Prelude.{◌≡◌, Bool, true, ℕ, List, ◌∷◌, length}
use Rattle.std.specs.Str.{bytes_eq}
use Rattle.chess_rules.specs.declared.parts.Parts.{Parts}
use Rattle.chess_rules.specs.Picture.{picture}
use Rattle.chess_rules.specs.Valid.{Valid}
use Rattle.dgt_frame.specs.declared.events.Event.{Event as BoardEvent}
use Rattle.settle_core.specs.declared.plies.Ply.{Ply}
use Rattle.settle_core.specs.Entries.{deduplicated}
use Rattle.settle_core.specs.Folding.{Folds, Score}
use Rattle.board_events.specs.History.{picture_of}
use Rattle.board_events.specs.Session.{entries_in}
use Rattle.board_events.specs.Settings.{Setting}
use Rattle.board_alarms.specs.Hearing.{HasResult}
use Rattle.board_alarms.specs.Plies.{position}
use Rattle.game_over.specs.declared.happened.Event.{Event}
use Rattle.game_over.specs.Keeping.{StandsFor as EndingStands}
use Rattle.board_endings.specs.declared.course.Course.{Course}
use Rattle.board_endings.specs.declared.endings.Endings.{Endings}
use Rattle.board_endings.specs.declared.judging.Judging.{Judging}
use Rattle.board_endings.specs.Items.{Item, bytes_of, events_of}
use Rattle.board_endings.specs.Moves.{castles, last_ply}
use Rattle.board_endings.specs.Saying.{IsEnd}
use Rattle.board_endings.specs.Telling.{Tells, is_new}

-- What is kept of a game that has these plies.
pub record KeepsCourse (course : Course) (start : Parts) (plies : List Ply) : Type 0 where
  pub counted : course.count ≡ length plies
  pub last_is : course.last ≡ last_ply plies
  pub castled_is : course.castled ≡ castles start plies
  pub at_start : course.is_at_start ≡ bytes_eq (position start plies) (picture start)
  pub start_is : course.start ≡ picture start
  pub here_is : course.here ≡ position start plies

-- This was told.
pub record HasJudged (judging : Judging) (past : List Event) : Type 0 where
  pub ending : EndingStands judging.ending past
  pub end : IsEnd past judging.end

-- Whether an event after these shows another picture than before, and which it shows then.
pub record IsShown (setting : Setting) (past : List BoardEvent) (event : BoardEvent) (another : Bool) (seen : List ℕ) : Type 0 where
  pub another_is : another ≡ is_new setting past event
  pub seen_is : another ≡ true → seen ≡ picture_of setting.rotated (event ∷ past)

-- These items came.
pub record StandsFor (endings : Endings) (setting : Setting) (items : List Item) : Type 0 where
  pub valid : Valid setting.start
  pub told : List Event
  pub score : Score
  pub tells : Tells setting items told
  pub folds : Folds setting.start (deduplicated (entries_in setting (events_of items))) score
  pub judged : HasJudged endings.judging told
  pub course : KeepsCourse endings.course setting.start score.plies
  pub result_is : HasResult setting.start score endings.result
  pub counted : endings.bytes ≡ bytes_of items
