-- What a capture shows, as `record` reads it, by itself or behind `recover`. Events are listed with the latest first.
use Rattle.std.specs.Prelude.{◌≡◌, ℕ, ◌<◌, ◌≤◌, ◌⊎◌, Bool, true, false, List, length, is_some}
use Rattle.dgt_frame.specs.declared.events.Event.{Event}
use Rattle.dgt_frame.specs.Streams.{Shows, Timed}
use Rattle.board_events.specs.Commands.{past_of}
use Rattle.board_events.specs.History.{is_trusted, reading_at}
use Rattle.board_events.specs.Limits.{limit}
use Rattle.board_events.specs.Session.{HasTakenEvents, entries_in}
use Rattle.board_events.specs.Settings.{Setting}
use Rattle.board_events.specs.View.{Views}
use Rattle.settle_core.specs.Entries.{last_picture}
use Rattle.recovery.specs.Weaving.{Recovers}
use Rattle.board_captures.specs.declared.reading.Captured.{Captured}
use Rattle.board_captures.specs.declared.reading.Method.{Method}

abbrev pub setting_of : Method → Setting
setting_of method = record { start = method.start; first = method.first; rotated = method.rotated }

-- The bytes show these events.
abbrev pub IsOfBytes : List ℕ → List Event → Type 0
IsOfBytes bytes past = (events : List Timed) × (rest : ℕ) × Shows bytes events rest × (past ≡ past_of events)

-- `record` takes these events of the capture, whole and within its limit: those of its bytes; or, behind `recover`,
-- those of the bytes with what is put in.
abbrev pub IsRead : Setting → Bool → List ℕ → List Event → Type 0
IsRead setting false bytes past = IsOfBytes bytes past × (length bytes ≤ limit)
IsRead setting true bytes past = (woven text : List ℕ) × (length bytes ≤ limit) × Recovers setting bytes woven text
    × IsOfBytes woven past × (length woven ≤ limit)

-- The capture is longer than a stream may be; or, behind `recover`, it is with what is put in.
abbrev pub IsTooLong : Setting → Bool → List ℕ → Type 0
IsTooLong setting false bytes = limit < length bytes
IsTooLong setting true bytes = (limit < length bytes)
    ⊎ ((woven text : List ℕ) × Recovers setting bytes woven text × (limit < length woven))

-- These events were taken.
pub record StandsForCapture (captured : Captured) (setting : Setting) (past : List Event) : Type 0 where
  pub session : HasTakenEvents captured.session setting past
  pub view : Views captured.view setting.rotated past
  pub shown : captured.has_shown ≡ is_some (last_picture (entries_in setting past))

-- After both the board stands alike: it was seen to show the same last, updates count or don't, and the clocks show the
-- same.
pub record StandAlike (setting : Setting) (past other : List Event) : Type 0 where
  pub picture : last_picture (entries_in setting past) ≡ last_picture (entries_in setting other)
  pub trust : is_trusted past ≡ is_trusted other
  pub reading : reading_at setting.first past ≡ reading_at setting.first other
