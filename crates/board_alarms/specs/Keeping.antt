-- What the parts stand for. A reader needs none of it: the contracts hold for whatever this says.
use Rattle.std.specs.Prelude.{◌≡◌, List, length}
use Rattle.chess_rules.specs.declared.parts.Parts.{Parts}
use Rattle.chess_rules.specs.Valid.{Valid}
use Rattle.settle_core.specs.declared.plies.Ply.{Ply}
use Rattle.settle_core.specs.Entries.{deduplicated, last_picture}
use Rattle.settle_core.specs.Folding.{Folds, Score}
use Rattle.board_events.specs.History.{reading_at}
use Rattle.board_events.specs.Session.{entries_in}
use Rattle.board_events.specs.Settings.{Setting}
use Rattle.board_doubts.specs.Keeping.{AfterWrongStandsFor, ClockStandsFor, StandsFor as DoubtsStandFor}
use Rattle.board_alarms.specs.declared.look.Told.{Told}
use Rattle.board_alarms.specs.declared.looks.Looks.{Looks}
use Rattle.board_alarms.specs.declared.alarms.Alarms.{Alarms}
use Rattle.board_alarms.specs.declared.course.Course.{Course}
use Rattle.board_alarms.specs.declared.course.Positions.{Positions}
use Rattle.board_alarms.specs.declared.line.Line.{Line}
use Rattle.board_alarms.specs.Clock.{lever_at}
use Rattle.board_alarms.specs.Gaps.{has_begun, heard_at, is_cut}
use Rattle.board_alarms.specs.Hearing.{HasResult, Tells}
use Rattle.board_alarms.specs.Items.{Item, bytes_of, events_of}
use Rattle.board_alarms.specs.Looks.{alarms, heard}
use Rattle.board_alarms.specs.Plies.{before, black_moves, position}

-- What is kept of the line.
pub record KeepsLine (line : Line) (items : List Item) : Type 0 where
  pub heard : line.heard_at ≡ heard_at items
  pub cut : line.is_cut ≡ is_cut items
  pub begun : line.has_begun ≡ has_begun items
  pub bytes : line.bytes ≡ bytes_of items

-- What is kept of the positions of a game that has these plies.
pub record KeepsPositions (kept : Positions) (start : Parts) (plies : List Ply) : Type 0 where
  pub here_is : kept.here ≡ position start plies
  pub first_is : kept.first ≡ position start (before 1 plies)
  pub second_is : kept.second ≡ position start (before 2 plies)
  pub third_is : kept.third ≡ position start (before 3 plies)
  pub fourth_is : kept.fourth ≡ position start (before 4 plies)
  pub fifth_is : kept.fifth ≡ position start (before 5 plies)
  pub sixth_is : kept.sixth ≡ position start (before 6 plies)
  pub seventh_is : kept.seventh ≡ position start (before 7 plies)
  pub eighth_is : kept.eighth ≡ position start (before 8 plies)

-- What is kept of such a game.
pub record KeepsCourse (course : Course) (start : Parts) (plies : List Ply) : Type 0 where
  pub counted : course.count ≡ length plies
  pub side : course.black ≡ black_moves start plies
  pub keeps : KeepsPositions course.positions start plies

-- This was told, the latest first.
pub record LooksStandFor (looks : Looks) (past : List Told) : Type 0 where
  pub doubts : DoubtsStandFor looks.doubts (heard past)
  pub clock : ClockStandsFor looks.clock (heard past)
  pub after_wrong : AfterWrongStandsFor looks.after_wrong (heard past)
  pub alarms_are : looks.alarms.items ≡ alarms past

-- These items came.
pub record StandsFor (kept : Alarms) (setting : Setting) (items : List Item) : Type 0 where
  pub valid : Valid setting.start
  pub told : List Told
  pub score : Score
  pub tells : Tells setting items told
  pub folds : Folds setting.start (deduplicated (entries_in setting (events_of items))) score
  pub looks : LooksStandFor kept.looks told
  pub course : KeepsCourse kept.course setting.start score.plies
  pub line : KeepsLine kept.line items
  pub shown : kept.shown ≡ last_picture (entries_in setting (events_of items))
  pub result_is : HasResult setting.start score kept.result
  pub reading_is : kept.reading ≡ reading_at setting.first (events_of items)
  pub lever_is : kept.lever ≡ lever_at items
