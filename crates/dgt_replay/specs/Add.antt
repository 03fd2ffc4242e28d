-- What `add` does.
use Rattle.std.specs.Prelude.{◌≡◌, ℕ, Bool, List, Option, None, Some}
use Rattle.adding.specs.Answers.{IsAnswered}
use Rattle.adding.specs.Lines.{answer_line}
use Rattle.adding.specs.declared.adding.Answer.{Answer}
use Rattle.adding.specs.declared.adding.Answer.TheVariants.{Added, Refused}
use Rattle.board_captures.specs.Reading.{IsTooLong}
use Rattle.board_events.specs.Settings.{Setting}
use Rattle.text_subcommands.specs.Streams.{Streams}
use Rattle.dgt_replay.specs.Edit.{Edits}

-- the bytes that add the line; none where it is refused
abbrev pub added_of : Answer → Option (List ℕ)
added_of (Added said added) = Some added.items
added_of (Refused said reason) = None

-- The game of a capture answers a typed line by these bytes, or none, and by this line.
abbrev pub AnswersLine : Setting → Bool → List ℕ → List ℕ → Option (List ℕ) → List ℕ → Type 0
AnswersLine setting recovers typed capture made line = (answer : Answer) × IsAnswered setting recovers capture typed answer × (made ≡ added_of answer) × (line ≡ answer_line answer)

-- What becomes of a typed line and a capture.
abbrev pub AddsLine : Setting → Bool → List ℕ → ℕ → Streams → Type 0
AddsLine setting recovers typed status s = Edits (AnswersLine setting recovers typed) (IsTooLong setting recovers) status s
