-- What happens at a board's cable. Lists have the latest first; bytes are in the order in which they came.
use Rattle.std.specs.Prelude.{ℕ, Bool, true, false, if◌then◌else◌, List, [], ◌∷◌, ◌++◌}
use Rattle.board_cable.specs.declared.happened.Happened.{Happened}
use Rattle.board_cable.specs.declared.happened.What.{What}
use Rattle.board_cable.specs.declared.happened.What.TheVariants.{Begins, Opens, Hears, Interrupts}

-- what happens at a time, with the bytes of a read
pub record Moment : Type 0 where
  pub at : ℕ
  pub what : What
  pub bytes : List ℕ

abbrev pub moment_of : Happened → List ℕ → Moment
moment_of happened bytes = record { at = happened.at; what = happened.what; bytes = bytes }

-- The board has sent bytes.
abbrev pub is_heard : What → Bool
is_heard Hears = true
is_heard _ = false

-- Bytes count only if the board has sent them.
abbrev pub sent : Moment → List ℕ
sent moment = if is_heard moment.what then moment.bytes else []

-- From here on frames are read anew: a call begins, the line is opened, or bytes were added by hand, which may have cut a frame.
abbrev pub is_anew : What → Bool
is_anew Begins = true
is_anew Opens = true
is_anew Interrupts = true
is_anew _ = false

-- what the board has sent since its frames are read anew
abbrev pub stream : List Moment → List ℕ
stream [] = []
stream (moment ∷ past) = if is_heard moment.what then stream past ++ moment.bytes else (if is_anew moment.what then [] else stream past)
