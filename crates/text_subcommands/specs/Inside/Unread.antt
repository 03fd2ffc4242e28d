-- What is said of an input of `check` of which no game was read.
use Rattle.std.specs.Prelude.{ℕ, List, codes}
use Rattle.text_subcommands.specs.declared.checking.GameError.{GameError}
use Rattle.text_subcommands.specs.declared.checking.GameError.TheVariants.{Memory, Read, TooLong, NotExport}

abbrev pub message_of : GameError → List ℕ
message_of Memory = codes "memory\n"
message_of Read = codes "read fault\n"
message_of TooLong = codes "input: too long\n"
message_of NotExport = codes "pgn: not export\n"

abbrev pub status_of : GameError → ℕ
status_of Memory = 4
status_of Read = 3
status_of TooLong = 1
status_of NotExport = 1
