-- What a session knows of the events that it was given. Events and entries are listed with the latest first.
use Rattle.std.specs.Prelude.{◌≡◌, true, List, ◌∷◌, Result, IfSome, IfOk, OnOk, OnErr, IsOk, is_some}
use Rattle.std.specs.declared.alloc.AllocError.{AllocError}
use Rattle.dgt_frame.specs.declared.events.Event.{Event}
use Rattle.settle_core.specs.Entries.{Entry}
use Rattle.settle_core.specs.Settler.{HasSettled, ReturnsSeen, GivesMove}
use Rattle.board_events.specs.declared.session.Taken.{Taken}
use Rattle.board_events.specs.Settings.{Setting}
use Rattle.board_events.specs.States.{State}
use Rattle.board_events.specs.History.{is_fault, is_trusted, picture_of, reading_at}
use Rattle.board_events.specs.Entries.{Idle, is_entry, entries}

-- What the settler is given: the entries of these events, read with the first side and the turning of the setting.
abbrev pub entries_in : Setting → List Event → List Entry
entries_in setting past = entries setting.first setting.rotated past

-- The session, set up so, was given these events.
pub record HasTakenEvents (session : State) (setting : Setting) (past : List Event) : Type 0 where
  pub trust : session.trusted ≡ is_trusted past
  pub reading : session.reading ≡ reading_at setting.first past
  pub first : session.first ≡ setting.first
  pub rotated : session.rotated ≡ setting.rotated
  pub settler : HasSettled session.settler setting.start (entries_in setting past)

-- What is told of an event after these: a fault, and nothing else, asks for a dump, and an entry, and nothing else, has
-- an result of the settler.
pub record TellsTaken (setting : Setting) (past : List Event) (event : Event) (taken : Taken) : Type 0 where
  pub asks : taken.asks_dump ≡ is_fault event
  pub entry : is_some taken.seen ≡ is_entry event past
  pub seen : IfSome taken.seen (ReturnsSeen setting.start (entries_in setting past) (picture_of setting.rotated (event ∷ past)))

-- After these events the next one gives a move, for which memory is taken.
abbrev pub WantsMemory : Setting → List Event → Event → Type 0
WantsMemory setting past event = (is_entry event past ≡ true)
    × GivesMove setting.start (entries_in setting past) (picture_of setting.rotated (event ∷ past))

-- From the one session to the other, this event was taken with this result.
pub record TakesInto (old : State) (event : Event) (answer : Result Taken AllocError) (new : State) : Type 0 where
  pub stands : (setting : Setting) (past : List Event) → HasTakenEvents old setting past → OnOk answer (HasTakenEvents new setting (event ∷ past))
  pub tells : (setting : Setting) (past : List Event) → HasTakenEvents old setting past → IfOk answer (TellsTaken setting past event)
  pub idle : (setting : Setting) (past : List Event) → HasTakenEvents old setting past
      → Idle setting.first setting.rotated past event → (new ≡ old) × IsOk answer
  pub refused : OnErr answer (new ≡ old)
  pub memory : (setting : Setting) (past : List Event) → HasTakenEvents old setting past → OnErr answer (WantsMemory setting past event)
