-- The last plies of a game, and whether they take others back. Events are listed with the latest first.
use Rattle.std.specs.Prelude.{ℕ, zero, suc, ◌-◌, ◌==◌, ◌&&◌, not, Bool, false, List, [], ◌∷◌, Option, Some, None}
use Rattle.board_doubts.specs.declared.heard.Event.{Event}
use Rattle.board_doubts.specs.declared.heard.Heard.{Heard}
use Rattle.board_doubts.specs.declared.heard.Heard.TheVariants.{Reopens, PutsBack, PutsIn, Plays, Replaces}
use Rattle.board_doubts.specs.declared.heard.Ply.{Ply}
use Rattle.board_doubts.specs.Ways.{files, is_line, ranks}

-- the ply that was made so many plies before the last one. The plies begin anew if some are taken off
abbrev pub played_by : Heard → (ℕ → Option Ply) → ℕ → Option Ply
played_by (Plays ply) before zero = Some ply
played_by (Plays ply) before (suc n) = before n
played_by (Replaces ply) before zero = Some ply
played_by (Replaces ply) before (suc n) = before (suc n)
played_by Reopens before n = None
played_by PutsBack before n = None
played_by other before n = before n

abbrev pub played : List Event → ℕ → Option Ply
played [] n = None
played (event ∷ past) n = played_by event.what (played past) n

-- The later ply takes the earlier one back.
abbrev pub is_back : Option Ply → Option Ply → Bool
is_back (Some later) (Some earlier) = (later.from == earlier.to) && (later.to == earlier.from)
is_back later earlier = false

-- The later ply moves the same piece on, and not back; and it could have gone there at once: a line of the board leads there, as queens go.
abbrev pub is_further : Option Ply → Option Ply → Bool
is_further (Some later) (Some earlier) =
    ((later.from == earlier.to) && not (later.to == earlier.from)) && is_line (ranks earlier.from later.to) (files earlier.from later.to)
is_further later earlier = false

-- Both sides have moved on the pieces that they moved before.
abbrev pub both_further : (ℕ → Option Ply) → Bool
both_further plies = is_further (plies 0) (plies 2) && is_further (plies 1) (plies 3)

-- Both sides have taken their last plies back.
abbrev pub both_back : (ℕ → Option Ply) → Bool
both_back plies = is_back (plies 0) (plies 2) && is_back (plies 1) (plies 3)

-- how many plies of a pair that is put in are still to come
abbrev pub pair_by : Heard → ℕ → ℕ
pair_by PutsIn before = 2
pair_by (Plays ply) before = before - 1
pair_by other before = before

abbrev pub pair_left : List Event → ℕ
pair_left [] = 0
pair_left (event ∷ past) = pair_by event.what (pair_left past)

-- The next ply is the second one of such a pair.
abbrev pub ends_pair : List Event → Bool
ends_pair past = pair_left past == 1
