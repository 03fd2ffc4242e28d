-- What a recording leaves behind. Its streams are `input`, of which bytes are left, `sent`, what the board's stream
-- holds, and `written`, what the output holds; a prime marks what they are afterwards.
use Rattle.std.specs.Prelude.{◌≡◌, ℕ, ◌+◌, ◌≤◌, List, [], ◌∷◌, ◌++◌, length, true, Option, IfSome, Result, Ok, Err, ⊤}
use Rattle.std.specs.Io.KnownBytes.{Appends, Consumes, IsAtEnd}
use Rattle.dgt_frame.specs.declared.events.Event.{Event}
use Rattle.watched_streams.specs.Output.{AppendsPart}
use Rattle.dgt_frame.specs.Streams.{Shows, Timed}
use Rattle.settle_core.specs.Entries.{deduplicated}
use Rattle.chess_game.specs.Games.{Content}
use Rattle.pgn_book.specs.Pgn.{Pgn}
use Rattle.board_session.specs.declared.refusal.RecordError.{RecordError}
use Rattle.board_session.specs.declared.refusal.RecordError.TheVariants.{Memory, Read, Board, Write, TooLong}
use Rattle.board_session.specs.declared.report.Report.{Report}
use Rattle.board_events.specs.declared.setup.Setup.{Setup}
use Rattle.board_events.specs.Commands.{commands, faults_in, messages_in, past_of}
use Rattle.board_events.specs.Game.{GivesOneEach, IsGameOf}
use Rattle.board_events.specs.Limits.{limit}
use Rattle.board_events.specs.History.{is_fault}
use Rattle.board_events.specs.Settings.{Setting, setting_of}
use Rattle.board_events.specs.Session.{WantsMemory, entries_in}

-- The report has the numbers of messages and of faults, of the game's moves, and of the bytes of an unfinished frame.
pub record Reports (report : Report) (events : List Timed) (game : Content) (rest : ℕ) : Type 0 where
  pub messages : report.messages ≡ messages_in events
  pub faults : report.faults ≡ faults_in events
  pub moves : report.moves ≡ length game.plies
  pub rest_is : report.rest ≡ rest

-- The whole of a stream is recorded: what was written is the PGN text of the game of its events, and of no other game;
-- no picture of them gave more than one move; the board was sent what they ask for, and the report has their numbers.
pub record RecordsGame (setup : Setup) (report : Report) (bytes : List ℕ) (sent sent' written written' : Option (List ℕ)) : Type 0 where
  pub events : List Timed
  pub rest : ℕ
  pub game : Content
  pub text : List ℕ
  pub within : length bytes ≤ limit
  pub shows : Shows bytes events rest
  pub game_is : IsGameOf game (setting_of setup) setup.tags (past_of events)
  pub one_each : GivesOneEach setup.start (deduplicated (entries_in (setting_of setup) (past_of events)))
  pub text_is : Pgn game text
  pub of_no_other : (other : Content) → Pgn other text → other ≡ game
  pub writes : Appends written written' text
  pub sends : Appends sent sent' (commands events)
  pub reports : Reports report events game rest

-- Where the input's bytes are known, all of them are recorded.
abbrev pub RecordsAll : Setup → Report → Option (List ℕ) → Option (List ℕ) → Option (List ℕ) → Option (List ℕ) → Option (List ℕ) → Type 0
RecordsAll setup report input sent sent' written written' =
    IfSome input (λ bytes. RecordsGame setup report bytes sent sent' written written')

-- The board failed before any byte was read, or at the last event taken, which is a fault.
abbrev pub FailsAsking : List ℕ → List Event → Type 0
FailsAsking read [] = read ≡ []
FailsAsking read (event ∷ past) = is_fault event ≡ true

-- Why reading ended. Of the bytes read the front was decoded, and the back was not; `taken` are the events taken, and
-- `extra` those that were not.
abbrev pub Ends : Setting → Result ⊤ RecordError → Option (List ℕ) → List ℕ → List ℕ → List Timed → List Timed → Type 0
-- at the end of the input, which is within the limit
Ends setting (Ok done) input' front back taken extra = IsAtEnd input' × (length front ≤ limit) × (back ≡ []) × (extra ≡ [])
-- the event after those taken gives a move, for which memory ran out
Ends setting (Err Memory) input' front back taken extra = (refused : Timed) × (extra ≡ refused ∷ [])
    × WantsMemory setting (past_of taken) refused.event
-- a read failed: all bytes read before it are decoded, and all their events taken
Ends setting (Err Read) input' front back taken extra = (back ≡ []) × (extra ≡ [])
-- the board failed: all events up to the one that asked are taken
Ends setting (Err Board) input' front back taken extra = FailsAsking (front ++ back) (past_of taken) × (extra ≡ [])
-- nothing is written before reading has ended
Ends setting (Err Write) input' front back taken extra = ⊥
-- there is a byte past the limit: all bytes within it are decoded, and all their events taken
Ends setting (Err TooLong) input' front back taken extra = (length front ≡ limit) × (length back ≡ 1) × (extra ≡ [])

-- What the board was sent by then: all that the events taken ask for, or a part of it where the board failed.
abbrev pub Sends : Result ⊤ RecordError → Option (List ℕ) → Option (List ℕ) → List Timed → Type 0
Sends (Ok done) sent sent' taken = Appends sent sent' (commands taken)
Sends (Err Memory) sent sent' taken = Appends sent sent' (commands taken)
Sends (Err Read) sent sent' taken = Appends sent sent' (commands taken)
Sends (Err Board) sent sent' taken = AppendsPart sent sent' (commands taken)
Sends (Err Write) sent sent' taken = ⊥
Sends (Err TooLong) sent sent' taken = Appends sent sent' (commands taken)

-- The text was written, and the result says why reading ended.
abbrev pub TellsEnding : RecordError → Result ⊤ RecordError → Option (List ℕ) → Option (List ℕ) → List ℕ → Type 0
TellsEnding error ending written written' text = (ending ≡ Err error) × Appends written written' text

-- The result, by why reading ended and by what was written of the text: a part of it is Write, else the whole stands.
abbrev pub Returns : Result Report RecordError → Result ⊤ RecordError → List Timed → Content → ℕ → Option (List ℕ) → Option (List ℕ)
    → List ℕ → Type 0
Returns (Ok report) ending taken game rest written written' text =
    (ending ≡ Ok tt) × Appends written written' text × Reports report taken game rest
Returns (Err Memory) ending taken game rest written written' text = TellsEnding Memory ending written written' text
Returns (Err Read) ending taken game rest written written' text = TellsEnding Read ending written written' text
Returns (Err Board) ending taken game rest written written' text = TellsEnding Board ending written written' text
Returns (Err Write) ending taken game rest written written' text = AppendsPart written written' text
Returns (Err TooLong) ending taken game rest written written' text = TellsEnding TooLong ending written written' text

-- What a recording leaves, whatever it returns: these bytes were read, and of the events that their front shows these
-- were taken; the board was sent what they ask for; and the PGN text of their game was written, wholly or as far as it
-- went.
pub record RecordingLeaves (setup : Setup) (answer : Result Report RecordError)
    (input input' sent sent' written written' : Option (List ℕ)) : Type 0 where
  pub ending : Result ⊤ RecordError
  pub read : List ℕ
  pub front : List ℕ
  pub back : List ℕ
  pub taken : List Timed
  pub extra : List Timed
  pub rest : ℕ
  pub game : Content
  pub text : List ℕ
  pub consumes : Consumes input input' read
  pub bounded : length read ≤ limit + 1
  pub parts : read ≡ front ++ back
  pub shows : Shows front (taken ++ extra) rest
  pub ends : Ends (setting_of setup) ending input' front back taken extra
  pub sends : Sends ending sent sent' taken
  pub game_is : IsGameOf game (setting_of setup) setup.tags (past_of taken)
  pub text_is : Pgn game text
  pub answers : Returns answer ending taken game rest written written' text
