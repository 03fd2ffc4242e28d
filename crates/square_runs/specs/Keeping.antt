-- What the runs stand for. A reader needs none of it: the contracts hold for whatever this says.
use Rattle.std.specs.Prelude.{◌≡◌, ◌<◌, ◌==◌, ℕ, List, Option, None, Some, slice_index, if◌then◌else◌}
use Rattle.std.specs.Int.{bit_at}
use Rattle.square_runs.specs.declared.runs.Runs.{Runs}
use Rattle.square_runs.specs.Shown.{Shown, has, since_when}

-- the time of a square, if the mask has it
abbrev pub time_of : ℕ → List ℕ → ℕ → Option ℕ
time_of mask since s = if bit_at mask s == 1 then Some (slice_index since s) else None

-- These masks came, the latest first.
abbrev pub StandsFor : Runs → List Shown → Type 0
StandsFor runs past = (s : ℕ) → s < 64 → time_of runs.last runs.since s ≡ since_when (has s) past
