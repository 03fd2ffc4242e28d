-- What holds of the texts that `record` makes, under `check`.
use Rattle.std.specs.Prelude.{◌≡◌, ◌≢◌, ◌≤◌, ℕ, Some, length}
use Rattle.board_session.specs.AnyRecording.{Left}
use Rattle.board_events.specs.declared.setup.Setup.{Setup}
use Rattle.text_subcommands.specs.Checked.{text_limit, Checks}
use Rattle.text_subcommands.specs.Streams.{Streams}

-- The text of a recording, whatever ended it, is within the limit of `check`.
abbrev pub WrittenTextsAreWithin : Type 0
WrittenTextsAreWithin = (setup : Setup) (left : Left setup) → length left.leaves.text ≤ text_limit

-- Where the input of `check` is such a text, it isn't refused.
abbrev pub WrittenTextsPass : Type 0
WrittenTextsPass = (setup : Setup) (left : Left setup) (status : ℕ) (s : Streams)
    → Checks status s → s.input ≡ Some left.leaves.text → status ≢ 1
