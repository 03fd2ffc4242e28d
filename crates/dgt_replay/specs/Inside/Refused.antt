-- The messages of refused arguments, and the status of a recording that gave up.
use Rattle.std.specs.Prelude.{List, ℕ}
use Rattle.replay_arguments.specs.declared.setup.Refusal.{Refusal}
use Rattle.replay_arguments.specs.declared.setup.Refusal.TheVariants.{Fen, Tag as OfTag}
use Rattle.text_subcommands.specs.Messages.{fen_message, tag_message}
use Rattle.board_session.specs.declared.refusal.RecordError.{RecordError}
use Rattle.board_session.specs.declared.refusal.RecordError.TheVariants.{Memory, Read, Board, Write, TooLong}

-- the message of a refusal
abbrev pub refusal_message : Refusal → List ℕ
refusal_message (Fen error) = fen_message error
refusal_message (OfTag tag error) = tag_message tag error

-- a stream that has failed is 3, one past its limit 1, and out of memory 4
abbrev pub status_of : RecordError → ℕ
status_of Memory = 4
status_of Read = 3
status_of Board = 3
status_of Write = 3
status_of TooLong = 1
