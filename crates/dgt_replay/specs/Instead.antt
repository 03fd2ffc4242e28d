-- What `instead` does.
use Rattle.std.specs.Prelude.{ℕ, Bool, List, Option}
use Rattle.board_captures.specs.Reading.{IsTooLong}
use Rattle.board_events.specs.Settings.{Setting}
use Rattle.going_back.specs.Telling.{IsChangeTold}
use Rattle.text_subcommands.specs.Streams.{Streams}
use Rattle.dgt_replay.specs.Edit.{Edits}

-- The game of a capture gets the moves of the text in place of its last ones, with this new capture, or it doesn't, and this
-- line says so.
abbrev pub AnswersInstead : Setting → Bool → List ℕ → List ℕ → Option (List ℕ) → List ℕ → Type 0
AnswersInstead setting recovers text capture made line = IsChangeTold setting recovers capture text made line

-- What becomes of a capture whose game is to get these moves.
abbrev pub PutsInstead : Setting → Bool → List ℕ → ℕ → Streams → Type 0
PutsInstead setting recovers text status s = Edits (AnswersInstead setting recovers text) (IsTooLong setting recovers) status s
