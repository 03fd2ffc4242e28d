-- What holds of each history.
use Rattle.std.specs.Prelude.{◌≡◌, ◌↔◌, ◌<◌, ◌≤◌, ◌^◌, ℕ, false, Bool, List, ◌∷◌, Option}
use Rattle.chess_rules.specs.Valid.{Valid}
use Rattle.dgt_frame.specs.Streams.{Timed}
use Rattle.board_events.specs.Settings.{Setting}
use Rattle.board_listing.specs.declared.listing.Listing.TheVariants.{Watched}
use Rattle.board_listing.specs.Listings.{HasLines}
use Rattle.board_standing.specs.declared.heard.Event.{Event as Told}
use Rattle.square_runs.specs.Lasting.{IsBefore}
use Rattle.board_alarms.specs.declared.look.Look.{Look}
use Rattle.board_game.specs.Alarming.{AlarmsAre, ClockIsStopped}
use Rattle.board_endings.specs.declared.news.End.{End}
use Rattle.board_game.specs.Ending.{IsEndDueOf, IsEndOf}
use Rattle.board_game.specs.Hearing.{IsHeard}
use Rattle.board_standing.specs.declared.heard.Heard.TheVariants.{Begins as RecorderBegins}
use Rattle.board_game.specs.declared.note.Note.TheVariants.{Line, Resumes}
use Rattle.board_game.specs.History.{AreShown, Came, News, bytes_of}
use Rattle.board_game.specs.Report.{IsReport}

-- Where no pairs are recovered, the report is the lines of `watch` for all bytes.
abbrev pub ReportsAsWatch : Type 0
ReportsAsWatch = (setting : Setting) (past : List Came) (events : List Timed) (text : List ℕ) → AreShown (bytes_of past) events
    → IsReport setting false past text → HasLines (Watched setting.start setting.first setting.rotated) events text

-- From a valid start, what came is heard in one way.
abbrev pub HearsOnce : Type 0
HearsOnce = (setting : Setting) (recovers : Bool) (past : List Came) (a b : List Told) → Valid setting.start
    → IsHeard setting recovers past a → IsHeard setting recovers past b → a ≡ b

-- So the alarms that are open follow from what came.
abbrev pub OpensOnce : Type 0
OpensOnce = (setting : Setting) (recovers : Bool) (past : List Came) (a b : List Look) → Valid setting.start → AlarmsAre setting recovers past a
    → AlarmsAre setting recovers past b → a ≡ b

-- So does whether the clock is stopped.
abbrev pub StopsOnce : Type 0
StopsOnce = (setting : Setting) (recovers : Bool) (past : List Came) (a b : Bool) → Valid setting.start → ClockIsStopped setting recovers past a
    → ClockIsStopped setting recovers past b → a ≡ b

-- So the game's end follows from what came.
abbrev pub EndsOnce : Type 0
EndsOnce = (setting : Setting) (recovers : Bool) (past : List Came) (now : ℕ) (a b : End) → Valid setting.start → IsEndOf setting recovers past now a
    → IsEndOf setting recovers past now b → a ≡ b

-- So does the time at which time alone ends it.
abbrev pub EndDueOnce : Type 0
EndDueOnce = (setting : Setting) (recovers : Bool) (past : List Came) (now : ℕ) (a b : Option ℕ) → Valid setting.start → IsEndDueOf setting recovers past now a
    → IsEndDueOf setting recovers past now b → a ≡ b

-- Until time is due to end the game, it stands as it does now.
abbrev pub EndStaysUntilDue : Type 0
EndStaysUntilDue = (setting : Setting) (recovers : Bool) (past : List Came) (now later : ℕ) (due : Option ℕ) (end : End) → Valid setting.start → now ≤ later
    → later < 2 ^ 64 → IsBefore later due → IsEndDueOf setting recovers past now due → IsEndOf setting recovers past now end
    → IsEndOf setting recovers past later end

-- Where nobody has listened for a time, the game's end is as where a recorder begins: a result counts anew.
abbrev pub ResumesAsBegun : Type 0
ResumesAsBegun = (setting : Setting) (recovers : Bool) (past : List Came) (at now : ℕ) (end : End)
    → IsEndOf setting recovers (News at Resumes ∷ past) now end ↔ IsEndOf setting recovers (News at (Line RecorderBegins) ∷ past) now end
