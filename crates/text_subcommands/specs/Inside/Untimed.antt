-- What is said of an input of `times` that is no file of times.
use Rattle.std.specs.Prelude.{ℕ, List, codes}
use Rattle.text_subcommands.specs.declared.timing.TimesError.{TimesError}
use Rattle.text_subcommands.specs.declared.timing.TimesError.TheVariants.{Memory, Read, TooLong, Empty, NoHeading, AnotherVersion}

abbrev pub message_of : TimesError → List ℕ
message_of Memory = codes "memory\n"
message_of Read = codes "read fault\n"
message_of TooLong = codes "input: too long\n"
message_of Empty = codes "times: empty\n"
message_of NoHeading = codes "times: no heading\n"
message_of AnotherVersion = codes "times: another version\n"

abbrev pub status_of : TimesError → ℕ
status_of Memory = 4
status_of Read = 3
status_of TooLong = 1
status_of Empty = 1
status_of NoHeading = 1
status_of AnotherVersion = 1
