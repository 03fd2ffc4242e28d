-- What is said of a stream that was given on only in part.
use Rattle.std.specs.Prelude.{ℕ, List, [], codes}
use Rattle.recovery.specs.declared.refusal.RecoverError.{RecoverError}
use Rattle.recovery.specs.declared.refusal.RecoverError.TheVariants.{Read, Write, Lines, TooLong, Memory}

-- a stream that has failed is 3, one past its limit 1, and out of memory 4
abbrev pub status_of : RecoverError → ℕ
status_of Read = 3
status_of Write = 3
status_of Lines = 3
status_of TooLong = 1
status_of Memory = 4

-- the message about it; none where the stream of the messages has failed
abbrev pub message_of : RecoverError → List ℕ
message_of Read = codes "read fault\n"
message_of Write = codes "write fault\n"
message_of Lines = []
message_of TooLong = codes "input: too long\n"
message_of Memory = codes "memory\n"
