-- What holds of what `record` leaves, whatever it returned: of the game whose text it wrote, wholly or as far as it
-- went.
use Rattle.std.specs.Prelude.{◌≡◌, ◌⊎◌, ℕ, List, [], ◌++◌, ◌∷◌, Option, None, Some, Result as ResultOf, reverse}
use Rattle.chess_rules.specs.declared.chess_move.Move.{Move}
use Rattle.chess_rules.specs.Valid.{Valid}
use Rattle.dgt_frame.specs.declared.events.Event.{Event}
use Rattle.dgt_frame.specs.declared.events.Message.TheVariants.{Dump}
use Rattle.dgt_frame.specs.Frames.{Frame}
use Rattle.dgt_frame.specs.Streams.{Shows, Timed}
use Rattle.settle_core.specs.declared.plies.Outcome.{Outcome}
use Rattle.settle_core.specs.declared.plies.Ply.{Ply}
use Rattle.settle_core.specs.AnyHands.{ShownEachInTheEnd}
use Rattle.settle_core.specs.AnyPlay.{AllShowBothKings}
use Rattle.settle_core.specs.Endings.{IsEnd}
use Rattle.settle_core.specs.Entries.{Entry, deduplicated}
use Rattle.settle_core.specs.Folding.{moves_of}
use Rattle.settle_core.specs.HonestPlay.{AllShowNoMoreOrLackKing, AllWithinTurnOrLackKing, HasOneMore, HasWhole, IsFront, ShownEach, shown_plies}
use Rattle.settle_core.specs.Laws.{joined}
use Rattle.settle_core.specs.Settling.{Line, position_after}
use Rattle.settle_core.specs.Sign.{IsSign}
use Rattle.chess_game.specs.Games.{Content, Result}
use Rattle.chess_game.specs.Values.{TagValues}
use Rattle.board_session.specs.declared.refusal.RecordError.{RecordError}
use Rattle.board_session.specs.declared.report.Report.{Report}
use Rattle.board_events.specs.declared.setup.Setup.{Setup}
use Rattle.board_session.specs.AnyStream.{Agrees, GivesOn, HasAllButLast, ShowsOn, WereShownByEvents, end_of}
use Rattle.board_events.specs.Commands.{past_of}
use Rattle.board_events.specs.Game.{IsGameOf}
use Rattle.board_session.specs.Laws.{TellTheSame}
use Rattle.board_session.specs.Recording.{RecordingLeaves}
use Rattle.board_events.specs.Settings.{setting_of, Setting}
use Rattle.board_events.specs.Session.{entries_in}

-- What a recording that was set up so has left, whatever it returned, and whatever its streams held before and after.
pub record Left (setup : Setup) : Type 0 where
  pub answer : ResultOf Report RecordError
  pub input : Option (List ℕ)
  pub input' : Option (List ℕ)
  pub sent : Option (List ℕ)
  pub sent' : Option (List ℕ)
  pub written : Option (List ℕ)
  pub written' : Option (List ℕ)
  pub leaves : RecordingLeaves setup answer input input' sent sent' written written'

-- Nothing is invented: each ply of the game was shown whole by the events taken, in its turn.
abbrev pub NothingWrittenIsInvented : Type 0
NothingWrittenIsInvented = (setup : Setup) (left : Left setup)
    → WereShownByEvents (setting_of setup) (reverse left.leaves.game.plies) (past_of left.leaves.taken)

-- Only the last ply may change: the game of a stream has all plies but the last of the game of its first bytes. `extra`
-- are the events for which memory ran out.
abbrev pub OnlyTheLastPlyIsRewritten : Type 0
OnlyTheLastPlyIsRewritten = (setup : Setup) (left : Left setup) (bytes more : List ℕ) (events : List Timed) (rest : ℕ) (before : Content)
    → left.leaves.front ≡ bytes ++ more → left.leaves.extra ≡ []
    → Shows bytes events rest → IsGameOf before (setting_of setup) setup.tags (past_of events)
    → HasAllButLast before.plies left.leaves.game.plies

-- Honest play resumes: where the board agreed with the game of the first events taken, the moves that the later ones
-- show honestly are added to its plies, and nothing else is; so it is where that play stops, and where the kings end
-- it.
abbrev pub ResumedPlayIsWritten : Type 0
ResumedPlayIsWritten = (setup : Setup) (left : Left setup) (first later : List Timed) (before : Content) (moves : List Move)
    (lists : List (List Entry))
    → left.leaves.taken ≡ first ++ later
    → Agrees before (setting_of setup) setup.tags (past_of first)
    → ShowsOn (end_of before) moves lists
    → GivesOn (setting_of setup) (past_of later) (past_of first) (joined lists)
    → (left.leaves.game.plies ≡ before.plies ++ shown_plies (end_of before) moves lists)
    × Result setup.start left.leaves.game.plies None left.leaves.game.result

abbrev pub ResumedStopIsWritten : Type 0
ResumedStopIsWritten = (setup : Setup) (left : Left setup) (first later : List Timed) (before : Content) (moves : List Move)
    (lists : List (List Entry))
    (part : List Entry)
    → left.leaves.taken ≡ first ++ later
    → Agrees before (setting_of setup) setup.tags (past_of first)
    → ShowsOn (end_of before) moves lists
    → AllWithinTurnOrLackKing (position_after (end_of before) moves) part
    → GivesOn (setting_of setup) (past_of later) (past_of first) (joined lists ++ part)
    → ((made : List Ply) × (left.leaves.game.plies ≡ before.plies ++ made) × HasWhole (end_of before) moves lists part made)
    × Result setup.start left.leaves.game.plies None left.leaves.game.result

abbrev pub ResumedEndIsWritten : Type 0
ResumedEndIsWritten = (setup : Setup) (left : Left setup) (first later : List Timed) (before : Content) (moves : List Move)
    (lists : List (List Entry))
    (clearing rest : List Entry) (kings : Entry) (outcome : Outcome)
    → left.leaves.taken ≡ first ++ later
    → Agrees before (setting_of setup) setup.tags (past_of first)
    → ShowsOn (end_of before) moves lists
    → AllShowNoMoreOrLackKing (position_after (end_of before) moves) clearing
    → IsSign (position_after (end_of before) moves) kings.picture outcome
    → AllShowNoMoreOrLackKing (position_after (end_of before) moves) rest
    → GivesOn (setting_of setup) (past_of later) (past_of first) (joined lists ++ (clearing ++ kings ∷ rest))
    → (left.leaves.game.plies ≡ before.plies ++ shown_plies (end_of before) moves lists)
    × Result setup.start left.leaves.game.plies (Some outcome) left.leaves.game.result

-- While both kings stand in the centre no move is made: where all entries of later events show them there, the plies
-- are those of the first events.
abbrev pub KingsInCentreWriteNoMove : Type 0
KingsInCentreWriteNoMove = (setup : Setup) (left : Left setup) (first later : List Timed) (before : Content) (shown : List Entry)
    → left.leaves.taken ≡ first ++ later
    → IsGameOf before (setting_of setup) setup.tags (past_of first)
    → entries_in (setting_of setup) (past_of left.leaves.taken) ≡ shown ++ entries_in (setting_of setup) (past_of first)
    → AllShowBothKings shown
    → left.leaves.game.plies ≡ before.plies

-- Honest play and its end are recorded: where the entries of the events are, repeated pictures aside, those of lists
-- that show a line of moves, and then pieces taken off and perhaps the kings in the centre, the game has the plies of
-- the line, and the result of its last position, else the sign's.
abbrev pub HonestEndIsRecorded : Type 0
HonestEndIsRecorded = (setting : Setting) (tags : TagValues) (past : List Event) (game : Content) (moves : List Move)
    (lists : List (List Entry))
    (end : List Entry) (sign : Option Outcome)
    → Valid setting.start → Line setting.start moves → ShownEach setting.start moves lists
    → IsEnd (position_after setting.start moves) sign end
    → deduplicated (entries_in setting past) ≡ deduplicated (reverse (joined lists ++ end))
    → IsGameOf game setting tags past
    → (game.plies ≡ shown_plies setting.start moves lists) × Result setting.start game.plies sign game.result

-- The game has the plies of the whole moves of a front of honest play, or these and one more, and no sign.
abbrev pub HasFrontOf : Setting → List Move → List (List Entry) → List Entry → Content → Type 0
HasFrontOf setting moves lists first game = ((front : IsFront setting.start moves lists first)
    × HasWhole setting.start front.done front.whole front.part game.plies)
    × Result setting.start game.plies None game.result

-- The game has the plies of the line, and no sign or this one.
abbrev pub HasLine : Setting → List Move → List (List Entry) → Option Outcome → Content → Type 0
HasLine setting moves lists sign game = (game.plies ≡ shown_plies setting.start moves lists)
    × (Result setting.start game.plies None game.result ⊎ Result setting.start game.plies sign game.result)

-- And where this is broken off anywhere, in a move, between two, or after the last one.
abbrev pub HonestStopAnywhereIsRecorded : Type 0
HonestStopAnywhereIsRecorded = (setting : Setting) (tags : TagValues) (past : List Event) (game : Content) (moves : List Move)
    (lists : List (List Entry))
    (end : List Entry) (sign : Option Outcome) (first rest : List Entry)
    → Valid setting.start → Line setting.start moves → ShownEach setting.start moves lists
    → IsEnd (position_after setting.start moves) sign end
    → joined lists ++ end ≡ first ++ rest
    → deduplicated (entries_in setting past) ≡ deduplicated (reverse first)
    → IsGameOf game setting tags past
    → HasFrontOf setting moves lists first game ⊎ HasLine setting moves lists sign game

-- The bytes show these pictures, in their order, each perhaps several times in a row, and then perhaps a frame that is
-- not at its end.
pub record ShowsPictures (setting : Setting) (bytes : List ℕ) (shown : List Entry) : Type 0 where
  pub events : List Timed
  pub rest : ℕ
  pub shows : Shows bytes events rest
  pub are : deduplicated (entries_in setting (past_of events)) ≡ deduplicated (reverse shown)

-- Of `record`, whatever it returned, where memory didn't run out: where the bytes that it decoded show honest play and
-- its end, the game has exactly the plies of the line, with their clocks, and the result of its last position, else the
-- sign's.
abbrev pub HonestEndIsWritten : Type 0
HonestEndIsWritten = (setup : Setup) (left : Left setup) (moves : List Move) (lists : List (List Entry)) (end : List Entry)
    (sign : Option Outcome)
    → Line setup.start moves → ShownEach setup.start moves lists → IsEnd (position_after setup.start moves) sign end
    → ShowsPictures (setting_of setup) left.leaves.front (joined lists ++ end) → left.leaves.extra ≡ []
    → (left.leaves.game.plies ≡ shown_plies setup.start moves lists)
    × Result setup.start left.leaves.game.plies sign left.leaves.game.result

-- The entries taken are the first of these, repeated pictures aside, and the game is that of a front of honest play, or
-- of the line.
pub record HasStop (setting : Setting) (moves : List Move) (lists : List (List Entry)) (end : List Entry) (sign : Option Outcome)
    (taken : List Entry) (game : Content) : Type 0 where
  pub first : List Entry
  pub rest : List Entry
  pub parts : joined lists ++ end ≡ first ++ rest
  pub taken_are : deduplicated taken ≡ deduplicated (reverse first)
  pub game_is : HasFrontOf setting moves lists first game ⊎ HasLine setting moves lists sign game

-- Of `record`, whatever ended it and wherever: where the bytes that it decoded, with whatever more was to come, show
-- honest play and its end.
abbrev pub HonestStopAnywhereIsWritten : Type 0
HonestStopAnywhereIsWritten = (setup : Setup) (left : Left setup) (more : List ℕ) (moves : List Move) (lists : List (List Entry))
    (end : List Entry) (sign : Option Outcome)
    → Line setup.start moves → ShownEach setup.start moves lists → IsEnd (position_after setup.start moves) sign end
    → ShowsPictures (setting_of setup) (left.leaves.front ++ more) (joined lists ++ end)
    → HasStop (setting_of setup) moves lists end sign (entries_in (setting_of setup) (past_of left.leaves.taken)) left.leaves.game

-- Where a move that takes no piece was made whole, taken back and made again, the moves are those of the line all the
-- same, and where such play stops between two moves, these or one more.
abbrev pub MadeAgainIsRecorded : Type 0
MadeAgainIsRecorded = (setting : Setting) (tags : TagValues) (past : List Event) (game : Content) (moves : List Move)
    (lists : List (List Entry))
    (part : List Entry)
    → Valid setting.start → Line setting.start moves → ShownEachInTheEnd setting.start moves lists
    → AllWithinTurnOrLackKing (position_after setting.start moves) part
    → deduplicated (entries_in setting past) ≡ deduplicated (reverse (joined lists ++ part))
    → IsGameOf game setting tags past
    → ((made : List Ply) × (moves_of made ≡ moves)
    × ((game.plies ≡ made) ⊎ HasOneMore (position_after setting.start moves) made part game.plies))
    × Result setting.start game.plies None game.result

-- Of `record`, whatever it returned, where memory didn't run out.
abbrev pub MadeAgainIsWritten : Type 0
MadeAgainIsWritten = (setup : Setup) (left : Left setup) (moves : List Move) (lists : List (List Entry)) (part : List Entry)
    → Line setup.start moves → ShownEachInTheEnd setup.start moves lists
    → AllWithinTurnOrLackKing (position_after setup.start moves) part
    → ShowsPictures (setting_of setup) left.leaves.front (joined lists ++ part) → left.leaves.extra ≡ []
    → ((made : List Ply) × (moves_of made ≡ moves)
    × ((left.leaves.game.plies ≡ made) ⊎ HasOneMore (position_after setup.start moves) made part left.leaves.game.plies))
    × Result setup.start left.leaves.game.plies None left.leaves.game.result

-- The bytes begin with the frame of a dump.
abbrev pub BeginsWithDump : List ℕ → Type 0
BeginsWithDump bytes = (codes frame more : List ℕ) × Frame (Dump codes) frame × (bytes ≡ frame ++ more)

-- A stream that was broken off anywhere and begun again with a dump has the same pictures, game and text as the events
-- of its two parts.
abbrev pub RestartsAreRecorded : Type 0
RestartsAreRecorded = (setting : Setting) (first again : List ℕ) (events others all : List Timed) (rest last end : ℕ)
    → BeginsWithDump again
    → Shows first events rest → Shows again others last → Shows (first ++ again) all end
    → TellTheSame setting (past_of all) (past_of others ++ past_of events)

-- So the game that `record` writes of it is theirs.
abbrev pub RestartsAreWritten : Type 0
RestartsAreWritten = (setup : Setup) (left : Left setup) (first again : List ℕ) (events others : List Timed) (rest last : ℕ)
    → BeginsWithDump again
    → Shows first events rest → Shows again others last
    → left.leaves.front ≡ first ++ again → left.leaves.extra ≡ []
    → IsGameOf left.leaves.game (setting_of setup) setup.tags (past_of others ++ past_of events)
