-- What `back` does.
use Rattle.std.specs.Prelude.{ℕ, Bool, List, Option}
use Rattle.board_captures.specs.Reading.{IsTooLong}
use Rattle.board_events.specs.Settings.{Setting}
use Rattle.going_back.specs.Telling.{IsTold}
use Rattle.text_subcommands.specs.Streams.{Streams}
use Rattle.dgt_replay.specs.Edit.{Edits}

-- The game of a capture goes back as far as the text says, with this new capture, or it doesn't, and this line says so.
abbrev pub AnswersBack : Setting → Bool → List ℕ → List ℕ → Option (List ℕ) → List ℕ → Type 0
AnswersBack setting recovers to capture made line = IsTold setting recovers capture to made line

-- What becomes of a capture whose game is to go back so far.
abbrev pub TakesBack : Setting → Bool → List ℕ → ℕ → Streams → Type 0
TakesBack setting recovers to status s = Edits (AnswersBack setting recovers to) (IsTooLong setting recovers) status s
