-- How pieces go on an empty board. Squares are numbered from a8 to h1; a piece is of the same kind in both colours.
use Rattle.std.specs.Prelude.{ℕ, ◌-◌, ◌/◌, ◌%◌, ◌==◌, ◌&&◌, ◌||◌, Bool, nat_le, if◌then◌else◌}
use Rattle.std.specs.Int.{abs_diff}

-- so many ranks and files lie between two squares
abbrev pub ranks : ℕ → ℕ → ℕ
ranks from to = abs_diff (from / 8) (to / 8)

abbrev pub files : ℕ → ℕ → ℕ
files from to = abs_diff (from % 8) (to % 8)

-- the kind of a piece, by its code: that of White's
abbrev pub kind_of : ℕ → ℕ
kind_of code = if nat_le 7 code then code - 6 else code

abbrev pub goes_straight : ℕ → Bool
goes_straight kind = (kind == 2) || (kind == 6)

abbrev pub goes_aslant : ℕ → Bool
goes_aslant kind = (kind == 4) || (kind == 6)

-- A line of ranks and files leads so far, or an oblique one.
abbrev pub is_line : ℕ → ℕ → Bool
is_line ranks files = ((ranks == 0) || (files == 0)) || (ranks == files)

abbrev pub is_jump : ℕ → ℕ → Bool
is_jump ranks files = ((ranks == 1) && (files == 2)) || ((ranks == 2) && (files == 1))

abbrev pub is_step : ℕ → ℕ → Bool
is_step ranks files = nat_le ranks 1 && nat_le files 1

-- A piece of this kind goes so far: rook and queen along ranks and files, bishop and queen aslant, a knight jumps, a king goes one
-- step. A pawn isn't counted, since it never goes back.
abbrev pub goes : ℕ → ℕ → ℕ → Bool
goes kind ranks files =
    ((goes_straight kind && ((ranks == 0) || (files == 0))) || (goes_aslant kind && (ranks == files)))
    || (((kind == 3) && is_jump ranks files) || ((kind == 5) && is_step ranks files))

abbrev pub can_go : ℕ → ℕ → ℕ → Bool
can_go code from to = goes (kind_of code) (ranks from to) (files from to)
