-- What holds of all lists of events. Events have the latest first.
use Rattle.std.specs.Prelude.{◌≡◌, ◌↔◌, ◌≤◌, ◌⊎◌, ◌+◌, ℕ, Bool, List, [], ◌∷◌, ◌++◌, Option, Some, None, Result as ResultOf, length, reverse, ⊤}
use Rattle.std.specs.List.{AllByRecursion}
use Rattle.chess_rules.specs.declared.chess_move.Move.{Move}
use Rattle.chess_rules.specs.After.{after}
use Rattle.chess_rules.specs.Legal.{Legal}
use Rattle.chess_rules.specs.Picture.{picture}
use Rattle.chess_rules.specs.Valid.{Valid}
use Rattle.dgt_frame.specs.declared.events.FaultKind.{FaultKind}
use Rattle.dgt_frame.specs.declared.events.Message.TheVariants.{Dump, Update, Time, Other}
use Rattle.dgt_frame.specs.declared.events.Event.{Event}
use Rattle.dgt_frame.specs.declared.events.Event.TheVariants.{Message as MessageEvent, Fault}
use Rattle.dgt_frame.specs.declared.First.{First}
use Rattle.dgt_frame.specs.Streams.{Shows, Timed}
use Rattle.settle_core.specs.Entries.{Entry, deduplicated}
use Rattle.settle_core.specs.Folding.{moves_of}
use Rattle.settle_core.specs.Laws.{joined}
use Rattle.settle_core.specs.Settling.{Line, position_after}
use Rattle.settle_core.specs.HonestPlay.{AllShowNoMoreOrLackKing, AllWithinTurnOrLackKing, HasWhole, IsFront, ShownEach, shown_plies}
use Rattle.settle_core.specs.Sign.{IsSign}
use Rattle.settle_core.specs.declared.plies.Outcome.{Outcome}
use Rattle.settle_core.specs.declared.plies.Ply.{Ply}
use Rattle.chess_game.specs.Games.{Content, Result}
use Rattle.pgn_book.specs.Pgn.{Pgn}
use Rattle.chess_game.specs.Values.{TagValues}
use Rattle.board_session.specs.declared.refusal.RecordError.{RecordError}
use Rattle.board_session.specs.declared.report.Report.{Report}
use Rattle.board_events.specs.declared.setup.Setup.{Setup}
use Rattle.board_events.specs.Commands.{asks, past_of}
use Rattle.board_events.specs.Entries.{Idle}
use Rattle.board_events.specs.Game.{IsGameOf}
use Rattle.board_events.specs.History.{picture_of}
use Rattle.board_session.specs.Recording.{RecordingLeaves, RecordsGame}
use Rattle.board_events.specs.Settings.{setting_of, Setting}
use Rattle.board_events.specs.Session.{entries_in}

-- The text is the PGN text of the game of these events.
abbrev pub IsTextOf : List ℕ → Setting → TagValues → List Event → Type 0
IsTextOf text setting tags past = (game : Content) × IsGameOf game setting tags past × Pgn game text

-- Two lists of events have the same pictures, but for those that equal the one before, the same game and the same text.
pub record TellTheSame (setting : Setting) (one other : List Event) : Type 0 where
  pub pictures : deduplicated (entries_in setting one) ≡ deduplicated (entries_in setting other)
  pub game : (tags : TagValues) (game : Content) → IsGameOf game setting tags one ↔ IsGameOf game setting tags other
  pub text : (tags : TagValues) (text : List ℕ) → IsTextOf text setting tags one ↔ IsTextOf text setting tags other

-- The short list is the other one, with some idle events taken out.
abbrev pub Thins : First → Bool → List Event → List Event → Type 0
Thins first rotated [] short = short ≡ []
Thins first rotated (event ∷ past) short = (Idle first rotated past event × Thins first rotated past short)
    ⊎ ((rest : List Event) × (short ≡ event ∷ rest) × Thins first rotated past rest)

-- Idle events can be taken out.
abbrev pub IdleEventsCanGo : Type 0
IdleEventsCanGo = (setting : Setting) (past short : List Event) → Thins setting.first setting.rotated past short
    → TellTheSame setting past short

-- a time or an `Other` message
abbrev pub IsQuiet : Event → Type 0
IsQuiet (MessageEvent (Dump codes)) = ⊥
IsQuiet (MessageEvent (Update field code)) = ⊥
IsQuiet (MessageEvent (Time times)) = ⊤
IsQuiet (MessageEvent (Other id size)) = ⊤
IsQuiet (Fault kind) = ⊥

-- A fault can be taken out where the next event, times and other messages aside, is a dump.
abbrev pub FaultsBeforeDumpsCanGo : Type 0
FaultsBeforeDumpsCanGo = (setting : Setting) (later between before : List Event) (codes : List ℕ) (kind : FaultKind)
    → AllByRecursion IsQuiet between
    → TellTheSame setting (later ++ MessageEvent (Dump codes) ∷ (between ++ Fault kind ∷ before))
    (later ++ MessageEvent (Dump codes) ∷ (between ++ before))

-- A fault costs one request for a dump.
abbrev pub FaultsAskOnce : Type 0
FaultsAskOnce = (later before : List Event) (kind : FaultKind) → asks (later ++ Fault kind ∷ before) ≡ asks (later ++ before) ++ 0x42 ∷ []

-- From a valid start, events have one game at most.
abbrev pub EventsTellTheGame : Type 0
EventsTellTheGame = (setting : Setting) (tags : TagValues) (past : List Event) (one other : Content)
    → Valid setting.start → IsGameOf one setting tags past → IsGameOf other setting tags past → one ≡ other

-- No event gives more than one move.
abbrev pub NoEventGivesTwo : Type 0
NoEventGivesTwo = (setting : Setting) (tags : TagValues) (past : List Event) (event : Event) (before game : Content)
    → Valid setting.start → IsGameOf before setting tags past → IsGameOf game setting tags (event ∷ past)
    → length game.plies ≤ length before.plies + 1

-- Honest play is recorded: where the entries of the events are, repeated pictures aside, the lists that show a line of
-- moves from a valid start, one list after the other, the game of the events has exactly these moves, each once and in
-- order, and its result is that of its last position, or none.
abbrev pub HonestPlayIsRecorded : Type 0
HonestPlayIsRecorded = (setting : Setting) (tags : TagValues) (past : List Event) (game : Content) (moves : List Move)
    (lists : List (List Entry))
    → Valid setting.start → Line setting.start moves → ShownEach setting.start moves lists
    → deduplicated (entries_in setting past) ≡ deduplicated (reverse (joined lists))
    → IsGameOf game setting tags past
    → (moves_of game.plies ≡ moves) × Result setting.start game.plies None game.result

-- The ply of each move has its mover's time in the reading of the first entry that shows the whole move.
abbrev pub HonestClocksAreRecorded : Type 0
HonestClocksAreRecorded = (setting : Setting) (tags : TagValues) (past : List Event) (game : Content) (moves : List Move)
    (lists : List (List Entry))
    → Valid setting.start → Line setting.start moves → ShownEach setting.start moves lists
    → deduplicated (entries_in setting past) ≡ deduplicated (reverse (joined lists))
    → IsGameOf game setting tags past
    → game.plies ≡ shown_plies setting.start moves lists

-- Where the events end between two moves, with pieces in hand or a king off the board: the game has the plies of the
-- whole moves, or these and one more, of a legal move that takes no piece and that was shown; and its result is that of
-- its last position.
abbrev pub HonestStopIsRecorded : Type 0
HonestStopIsRecorded = (setting : Setting) (tags : TagValues) (past : List Event) (game : Content) (moves : List Move)
    (lists : List (List Entry)) (part : List Entry)
    → Valid setting.start → Line setting.start moves → ShownEach setting.start moves lists
    → AllWithinTurnOrLackKing (position_after setting.start moves) part
    → deduplicated (entries_in setting past) ≡ deduplicated (reverse (joined lists ++ part))
    → IsGameOf game setting tags past
    → HasWhole setting.start moves lists part game.plies × Result setting.start game.plies None game.result

-- The end by the kings: after honest play the pieces are taken off, the kings are put into the centre, and the pieces
-- may be set up again. The game has the plies of the line, and its result is that of its last position, else the
-- sign's.
abbrev pub KingsEndIsRecorded : Type 0
KingsEndIsRecorded = (setting : Setting) (tags : TagValues) (past : List Event) (game : Content) (moves : List Move)
    (lists : List (List Entry))
    (clearing later : List Entry) (kings : Entry) (outcome : Outcome)
    → Valid setting.start → Line setting.start moves → ShownEach setting.start moves lists
    → AllShowNoMoreOrLackKing (position_after setting.start moves) clearing
    → IsSign (position_after setting.start moves) kings.picture outcome
    → AllShowNoMoreOrLackKing (position_after setting.start moves) later
    → deduplicated (entries_in setting past) ≡ deduplicated (reverse (joined lists ++ (clearing ++ kings ∷ later)))
    → IsGameOf game setting tags past
    → (game.plies ≡ shown_plies setting.start moves lists) × Result setting.start game.plies (Some outcome) game.result

-- Nothing is guessed where two plies were not seen: an event whose picture is that after a legal move and a legal
-- reply, of which nothing was seen, leaves the game as it was.
abbrev pub TwoUnseenAreNotRecorded : Type 0
TwoUnseenAreNotRecorded = (setting : Setting) (tags : TagValues) (past : List Event) (event : Event) (before game : Content)
    (m reply : Move)
    → Valid setting.start → IsGameOf before setting tags past
    → Legal (position_after setting.start (moves_of before.plies)) m
    → Legal (after (position_after setting.start (moves_of before.plies)) m) reply
    → picture_of setting.rotated (event ∷ past) ≡ picture (after (after (position_after setting.start (moves_of before.plies)) m) reply)
    → IsGameOf game setting tags (event ∷ past)
    → game ≡ before

-- The plies have another last one, and the same ones before it.
pub record HasAnotherLast (before plies : List Ply) : Type 0 where
  pub earlier : List Ply
  pub old : Ply
  pub new : Ply
  pub was : before ≡ earlier ++ old ∷ []
  pub is : plies ≡ earlier ++ new ∷ []

-- Where three plies were not seen, the event after them adds no move: the game is as it was, or its last move is
-- corrected.
abbrev pub ThreeUnseenAddNoMove : Type 0
ThreeUnseenAddNoMove = (setting : Setting) (tags : TagValues) (past : List Event) (event : Event) (before game : Content)
    (m reply next : Move)
    → Valid setting.start → IsGameOf before setting tags past
    → Legal (position_after setting.start (moves_of before.plies)) m
    → Legal (after (position_after setting.start (moves_of before.plies)) m) reply
    → Legal (after (after (position_after setting.start (moves_of before.plies)) m) reply) next
    → picture_of setting.rotated (event ∷ past) ≡ picture (after
    (after (after (position_after setting.start (moves_of before.plies)) m) reply) next)
    → IsGameOf game setting tags (event ∷ past)
    → (game ≡ before) ⊎ HasAnotherLast before.plies game.plies

-- The bytes of a stream show these entries, in their order, and then perhaps a frame that is not at its end.
pub record ShowsEntries (setting : Setting) (bytes : List ℕ) (shown : List Entry) : Type 0 where
  pub events : List Timed
  pub rest : ℕ
  pub shows : Shows bytes events rest
  pub are : entries_in setting (past_of events) ≡ reverse shown

-- Of `record`: where a whole stream shows a line of moves honestly, the game that was written has exactly their plies,
-- with their clocks, and the result of its last position, or none.
abbrev pub HonestPlayIsWritten : Type 0
HonestPlayIsWritten = (setup : Setup) (report : Report) (bytes : List ℕ) (sent sent' written written' : Option (List ℕ))
    (recording : RecordsGame setup report bytes sent sent' written written') (moves : List Move) (lists : List (List Entry))
    → Line setup.start moves → ShownEach setup.start moves lists
    → ShowsEntries (setting_of setup) bytes (joined lists)
    → (recording.game.plies ≡ shown_plies setup.start moves lists) × Result setup.start recording.game.plies None recording.game.result
    × (report.moves ≡ length moves)

-- What a recording has of honest play where it ended: the entries taken are a front of it, and the game has the plies
-- of the whole moves in this front, or these and one more, of a legal move that takes no piece and that was shown.
pub record HasFront (setup : Setup) (moves : List Move) (lists : List (List Entry)) (taken : List Entry) (game : Content) : Type 0 where
  pub rest : List Entry
  pub parts : joined lists ≡ reverse taken ++ rest
  pub front : IsFront setup.start moves lists (reverse taken)
  pub plies : HasWhole setup.start front.done front.whole front.part game.plies
  pub result : Result setup.start game.plies None game.result

-- Of `record`, whatever ended it: where the bytes that it decoded, with whatever more was to come, show a line of moves
-- honestly, the game whose text it wrote has all moves that were shown whole, and at most one try.
abbrev pub HonestFrontIsWritten : Type 0
HonestFrontIsWritten = (setup : Setup) (answer : ResultOf Report RecordError) (input input' sent sent' written written' : Option (List ℕ))
    (recording : RecordingLeaves setup answer input input' sent sent' written written') (more : List ℕ) (moves : List Move)
    (lists : List (List Entry))
    → Line setup.start moves → ShownEach setup.start moves lists
    → ShowsEntries (setting_of setup) (recording.front ++ more) (joined lists)
    → HasFront setup moves lists (entries_in (setting_of setup) (past_of recording.taken)) recording.game

-- Of `record`: where a whole stream shows a line of moves honestly, then pieces taken off, the kings put into the
-- centre, and pieces set up again, the game that was written has exactly the plies of the line, and the result of its
-- last position, else the sign's.
abbrev pub KingsEndIsWritten : Type 0
KingsEndIsWritten = (setup : Setup) (report : Report) (bytes : List ℕ) (sent sent' written written' : Option (List ℕ))
    (recording : RecordsGame setup report bytes sent sent' written written') (moves : List Move) (lists : List (List Entry))
    (clearing later : List Entry) (kings : Entry) (outcome : Outcome)
    → Line setup.start moves → ShownEach setup.start moves lists
    → AllShowNoMoreOrLackKing (position_after setup.start moves) clearing
    → IsSign (position_after setup.start moves) kings.picture outcome
    → AllShowNoMoreOrLackKing (position_after setup.start moves) later
    → ShowsEntries (setting_of setup) bytes (joined lists ++ (clearing ++ kings ∷ later))
    → (recording.game.plies ≡ shown_plies setup.start moves lists)
    × Result setup.start recording.game.plies (Some outcome) recording.game.result
