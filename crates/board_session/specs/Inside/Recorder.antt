-- What stands while a recorder reads, and when it has stopped.
use Rattle.std.specs.Prelude.{◌≡◌, ℕ, ◌+◌, ◌≤◌, true, List, [], ◌∷◌, ◌++◌, length, Option, Result, Ok, Err, MatchResult, ⊤}
use Rattle.std.specs.Io.KnownBytes.{Appends, Consumes, Keeps}
use Rattle.dgt_frame.specs.declared.events.Event.{Event}
use Rattle.dgt_frame.specs.declared.decode.Decoder.{Decoder}
use Rattle.dgt_frame.specs.Decoder.{Decoded}
use Rattle.dgt_frame.specs.Streams.{Shows, Timed}
use Rattle.chess_game.specs.Games.{Content}
use Rattle.pgn_book.specs.Pgn.{Pgn}
use Rattle.chess_game.specs.Values.{TagValues}
use Rattle.board_session.specs.declared.refusal.RecordError.{RecordError}
use Rattle.board_session.specs.declared.refusal.RecordError.TheVariants.{Memory, Read, Board, Write, TooLong}
use Rattle.board_session.specs.declared.report.Report.{Report}
use Rattle.board_session.specs.declared.recorder.Recorder.{Recorder}
use Rattle.board_events.specs.Commands.{asked, commands, faults_in, messages_in, past_of}
use Rattle.board_events.specs.Game.{IsGameOf}
use Rattle.board_events.specs.History.{is_fault}
use Rattle.board_session.specs.Recording.{Returns, Ends, Sends}
use Rattle.board_events.specs.Limits.{limit}
use Rattle.watched_streams.specs.Output.{AppendsPart}
use Rattle.board_events.specs.Settings.{Setting}
use Rattle.board_events.specs.Session.{HasTakenEvents, WantsMemory}

-- The recorder has taken these events.
pub record Kept (recorder : Recorder) (setting : Setting) (taken : List Timed) : Type 0 where
  pub session : HasTakenEvents recorder.session setting (past_of taken)
  pub messages : recorder.messages ≡ messages_in taken
  pub faults : recorder.faults ≡ faults_in taken

-- The recorder was given these bytes, and has taken all their events and sent what they ask for.
pub record Live (recorder : Recorder) (setting : Setting) (sent sent' : Option (List ℕ)) (bytes : List ℕ)
    (taken : List Timed) : Type 0 where
  pub decoded : Decoded recorder.decoder bytes taken
  pub kept : Kept recorder setting taken
  pub sends : Appends sent sent' (commands taken)

-- The last of the events is a fault.
abbrev pub EndsAtFault : List Event → Type 0
EndsAtFault [] = ⊥
EndsAtFault (event ∷ past) = is_fault event ≡ true

-- Why a byte stopped the recorder: the next event was refused, or the board failed at the last one.
abbrev pub Stops : Setting → RecordError → List Timed → List Timed → Type 0
Stops setting Memory taken extra = (refused : Timed) × (extra ≡ refused ∷ []) × WantsMemory setting (past_of taken) refused.event
Stops setting Read taken extra = ⊥
Stops setting Board taken extra = EndsAtFault (past_of taken) × (extra ≡ [])
Stops setting Write taken extra = ⊥
Stops setting TooLong taken extra = ⊥

-- The recorder has stopped within these bytes.
pub record Stopped (error : RecordError) (recorder : Recorder) (setting : Setting) (sent sent' : Option (List ℕ))
    (bytes : List ℕ) : Type 0 where
  pub front : List ℕ
  pub back : List ℕ
  pub taken : List Timed
  pub extra : List Timed
  pub parts : bytes ≡ front ++ back
  pub decoded : Decoded recorder.decoder front (taken ++ extra)
  pub kept : Kept recorder setting taken
  pub stops : Stops setting error taken extra
  pub sends : Sends (Err error) sent sent' taken

-- a cause that a byte can have
abbrev pub IsRefusal : RecordError → Type 0
IsRefusal Memory = ⊤
IsRefusal Read = ⊥
IsRefusal Board = ⊤
IsRefusal Write = ⊥
IsRefusal TooLong = ⊥

-- The decoder was given some bytes.
abbrev pub IsFed : Decoder → Type 0
IsFed decoder = (bytes : List ℕ) × (events : List Timed) × Decoded decoder bytes events

abbrev pub event_count : Recorder → ℕ
event_count recorder = recorder.messages + recorder.faults

-- At this offset the event was taken, and what it asks for sent; or it was refused, or the board failed at it.
abbrev pub TakesEvent : Recorder → Setting → List Timed → ℕ → Event → Result ⊤ RecordError → Option (List ℕ) → Option (List ℕ) → Type 0
TakesEvent recorder setting taken offset event (Ok done) sent sent' =
    Kept recorder setting (taken ++ record { offset = offset; event = event } ∷ []) × Appends sent sent' (asked event)
TakesEvent recorder setting taken offset event (Err Memory) sent sent' =
    Kept recorder setting taken × Keeps sent sent' × WantsMemory setting (past_of taken) event
TakesEvent recorder setting taken offset event (Err Board) sent sent' =
    Kept recorder setting (taken ++ record { offset = offset; event = event } ∷ []) × AppendsPart sent sent' (asked event)
    × (is_fault event ≡ true)
TakesEvent recorder setting taken offset event (Err Read) sent sent' = ⊥
TakesEvent recorder setting taken offset event (Err Write) sent sent' = ⊥
TakesEvent recorder setting taken offset event (Err TooLong) sent sent' = ⊥

-- Whatever the recorder was given, it has now been given this chunk too: it goes on, or has stopped within the chunk.
abbrev pub Hears : Recorder → Recorder → List ℕ → Result ⊤ RecordError → Option (List ℕ) → Option (List ℕ) → Type 0
Hears old new chunk result sent sent' = (setting : Setting) (before : Option (List ℕ)) (bytes : List ℕ) (taken : List Timed)
    → Live old setting before sent bytes taken → MatchResult result
    (λ _. (later : List Timed) × Live new setting before sent' (bytes ++ chunk) (taken ++ later))
    (λ error. Stopped error new setting before sent' (bytes ++ chunk))

-- So many bytes were read, and all their events are taken.
abbrev pub Reads : Recorder → Recorder → ℕ → Option (List ℕ) → Option (List ℕ) → Option (List ℕ) → Option (List ℕ) → Type 0
Reads old new count input input' sent sent' = (setting : Setting) (before : Option (List ℕ)) → Live old setting before sent [] []
    → (bytes : List ℕ) × (taken : List Timed) × (length bytes ≡ count) × Consumes input input' bytes
    × Live new setting before sent' bytes taken

-- Reading has ended so, after these bytes were read.
pub record Listened (ending : Result ⊤ RecordError) (recorder : Recorder) (setting : Setting)
    (input input' sent sent' : Option (List ℕ)) : Type 0 where
  pub read : List ℕ
  pub front : List ℕ
  pub back : List ℕ
  pub taken : List Timed
  pub extra : List Timed
  pub consumes : Consumes input input' read
  pub bounded : length read ≤ limit + 1
  pub parts : read ≡ front ++ back
  pub decoded : Decoded recorder.decoder front (taken ++ extra)
  pub kept : Kept recorder setting taken
  pub ends : Ends setting ending input' front back taken extra
  pub sends : Sends ending sent sent' taken

-- The game of the taken events was written, and this is what was returned.
pub record Finished (answer : Result Report RecordError) (ending : Result ⊤ RecordError) (setting : Setting) (tags : TagValues)
    (front : List ℕ) (events taken : List Timed) (written written' : Option (List ℕ)) : Type 0 where
  pub rest : ℕ
  pub game : Content
  pub text : List ℕ
  pub shows : Shows front events rest
  pub game_is : IsGameOf game setting tags (past_of taken)
  pub text_is : Pgn game text
  pub answers : Returns answer ending taken game rest written written' text
