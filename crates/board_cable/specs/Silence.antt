-- When a board is silent. Events are listed with the latest first, times are milliseconds.
use Rattle.std.specs.Prelude.{◌≡◌, ◌+◌, min, ℕ, ◌&&◌, ◌||◌, ◌==◌, Bool, false, List, [], ◌∷◌, Option, Some, None}
use Rattle.board_cable.specs.Lasting.{has_lasted}
use Rattle.board_cable.specs.declared.line.Event.{Event}
use Rattle.board_cable.specs.declared.line.Happening.{Happening}
use Rattle.board_cable.specs.declared.line.Happening.TheVariants.{Begins, Opens, Closes, Dumps, Asks}
use Rattle.board_cable.specs.declared.silence.Silence.{Silence}

-- how many requests no dump has come after, counted up to three
abbrev pub lost_by : Happening → ℕ → ℕ
lost_by (Asks request) before = min (before + 1) 3
lost_by Begins before = 0
lost_by Opens before = 0
lost_by (Dumps picture) before = 0
lost_by _ before = before

abbrev pub lost : List Event → ℕ
lost [] = 0
lost (event ∷ past) = lost_by event.what (lost past)

-- when the last dump came, or the line was opened
abbrev pub heard_by : Happening → ℕ → Option ℕ → Option ℕ
heard_by Opens at before = Some at
heard_by (Dumps picture) at before = Some at
heard_by Begins at before = None
heard_by _ at before = before

abbrev pub heard_at : List Event → Option ℕ
heard_at [] = None
heard_at (event ∷ past) = heard_by event.what event.at (heard_at past)

-- The board is silent: it was asked, and had sent no dump for 5 s, though it was asked three times; and it has sent none since.
-- It stays so while a serial server is called again.
abbrev pub silent_by : Happening → ℕ → ℕ → Option ℕ → Bool → Bool
silent_by (Asks request) at lost heard before = before || (lost == 3 && has_lasted 5000 at heard)
silent_by Begins at lost heard before = false
silent_by Closes at lost heard before = false
silent_by (Dumps picture) at lost heard before = false
silent_by _ at lost heard before = before

abbrev pub is_silent : List Event → Bool
is_silent [] = false
is_silent (event ∷ past) = silent_by event.what event.at (lost past) (heard_at past) (is_silent past)

-- This happened, the latest first.
pub record HasSilence (silence : Silence) (past : List Event) : Type 0 where
  pub lost_is : silence.lost ≡ lost past
  pub heard_is : silence.heard ≡ heard_at past
  pub silent_is : silence.is_silent ≡ is_silent past
