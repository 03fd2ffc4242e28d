-- How many bytes a game takes. Events have the latest first.
use Rattle.std.specs.Prelude.{◌≤◌, ◌+◌, ◌*◌, ℕ, List, [], ◌∷◌, length}
use Rattle.chess_rules.specs.Valid.{Valid}
use Rattle.dgt_frame.specs.declared.events.Message.TheVariants.{Dump, Update, Time, Other}
use Rattle.dgt_frame.specs.declared.events.Event.{Event}
use Rattle.dgt_frame.specs.declared.events.Event.TheVariants.{Message as MessageEvent, Fault}
use Rattle.dgt_frame.specs.Streams.{Shows, Timed}
use Rattle.chess_game.specs.Games.{Content}
use Rattle.chess_game.specs.Values.{TagValues}
use Rattle.board_events.specs.declared.setup.Setup.{Setup}
use Rattle.board_session.specs.AnyRecording.{Left}
use Rattle.board_events.specs.Commands.{past_of}
use Rattle.board_events.specs.Game.{IsGameOf}
use Rattle.board_events.specs.Settings.{Setting}

-- the bytes of a message's frame; a fault has none
abbrev pub size_of : Event → ℕ
size_of (MessageEvent (Dump codes)) = 67
size_of (MessageEvent (Update field code)) = 5
size_of (MessageEvent (Time times)) = 10
size_of (MessageEvent (Other id size)) = size
size_of (Fault kind) = 0

abbrev pub sizes : List Event → ℕ
sizes [] = 0
sizes (event ∷ past) = size_of event + sizes past

-- The frames of a stream, and the bytes of one that is left unfinished, are no more than its bytes.
abbrev pub FramesAreWithin : Type 0
FramesAreWithin = (bytes : List ℕ) (events : List Timed) (rest : ℕ) → Shows bytes events rest → sizes (past_of events) + rest ≤ length bytes

-- Each move takes ten bytes at least: it changes two squares, and an update of five bytes changes one.
abbrev pub MovesTakeTenBytes : Type 0
MovesTakeTenBytes = (setting : Setting) (tags : TagValues) (past : List Event) (game : Content)
    → Valid setting.start → IsGameOf game setting tags past → 10 * length game.plies ≤ sizes past

-- So the moves that `record` writes are no more than a tenth of the bytes that it decoded.
abbrev pub WrittenMovesTakeTenBytes : Type 0
WrittenMovesTakeTenBytes = (setup : Setup) (left : Left setup) → 10 * length left.leaves.game.plies ≤ length left.leaves.front
