-- What is said of a recording that gave up.
use Rattle.std.specs.Prelude.{ℕ, List, [], codes}
use Rattle.board_session.specs.declared.refusal.RecordError.{RecordError}
use Rattle.board_session.specs.declared.refusal.RecordError.TheVariants.{Memory, Read, Board, Write, TooLong}

-- the message about it, on a line after the bytes for the board; nothing where their stream has failed
abbrev pub message_of : RecordError → List ℕ
message_of Memory = codes "\nmemory\n"
message_of Read = codes "\nread fault\n"
message_of Board = []
message_of Write = codes "\nwrite fault\n"
message_of TooLong = codes "\ninput: too long\n"
