-- What the program says where a recorder gave up, and its exit status.
use Rattle.std.specs.Prelude.{ℕ, Bool, true, false, List, codes}
use Rattle.live_lines.specs.declared.stream.AttendError.{AttendError}
use Rattle.live_lines.specs.declared.stream.AttendError.TheVariants.{Read, Write, NoEntry, TooLong, Memory}

abbrev pub message_of : AttendError → List ℕ
message_of Read = codes "read fault\n"
message_of Write = codes "write fault\n"
message_of NoEntry = codes "input: no entry\n"
message_of TooLong = codes "input: too long\n"
message_of Memory = codes "memory\n"

abbrev pub status_of : AttendError → ℕ
status_of Read = 3
status_of Write = 3
status_of NoEntry = 1
status_of TooLong = 1
status_of Memory = 4

-- The reader is blamed; or the output is.
abbrev pub is_read : AttendError → Bool
is_read Read = true
is_read _ = false

abbrev pub is_write : AttendError → Bool
is_write Write = true
is_write _ = false
