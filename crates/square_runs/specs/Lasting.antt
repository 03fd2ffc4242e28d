-- How long something has held without a break. A time that is `None` never comes.
use Rattle.std.specs.Prelude.{◌<◌, ◌+◌, ◌^◌, ◌&&◌, min, ℕ, Bool, true, false, nat_le, nat_lt, Option, Some, None, if◌then◌else◌, ⊤}

-- since when it holds, if it held since that time before, and now, at this time, it holds or doesn't
abbrev pub carry : Bool → ℕ → Option ℕ → Option ℕ
carry false at since = None
carry true at None = Some at
carry true at (Some since) = Some since

-- It has held for this time or longer.
abbrev pub has_lasted : ℕ → ℕ → Option ℕ → Bool
has_lasted span now None = false
has_lasted span now (Some since) = nat_le (since + span) now

-- when it will have held for this time, if that is still to come; a time above 64 bits doesn't come
abbrev pub will_have_lasted : ℕ → ℕ → Option ℕ → Option ℕ
will_have_lasted span now None = None
will_have_lasted span now (Some since) = if nat_lt now (since + span) && nat_lt (since + span) (2 ^ 64) then Some (since + span) else None

-- the earlier of two times
abbrev pub earlier : Option ℕ → Option ℕ → Option ℕ
earlier None other = other
earlier (Some one) None = Some one
earlier (Some one) (Some other) = Some (min one other)

-- A time lies before another one, or that one never comes.
abbrev pub IsBefore : ℕ → Option ℕ → Type 0
IsBefore time None = ⊤
IsBefore time (Some due) = time < due
