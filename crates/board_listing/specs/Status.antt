-- What is said of a listing that gave up.
use Rattle.std.specs.Prelude.{ℕ, List, codes}
use Rattle.board_listing.specs.declared.stream.ListError.{ListError}
use Rattle.board_listing.specs.declared.stream.ListError.TheVariants.{Memory, Read, Write, TooLong}

-- a stream that has failed is 3, one past its limit 1, and out of memory 4
abbrev pub status_of : ListError → ℕ
status_of Read = 3
status_of Write = 3
status_of TooLong = 1
status_of Memory = 4

-- the message about it
abbrev pub message_of : ListError → List ℕ
message_of Read = codes "read fault\n"
message_of Write = codes "write fault\n"
message_of TooLong = codes "input: too long\n"
message_of Memory = codes "memory\n"
