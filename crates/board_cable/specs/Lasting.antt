-- How long ago something was. Times are milliseconds.
use Rattle.std.specs.Prelude.{ℕ, ◌≡◌, ◌⊎◌, ◌+◌, ◌<◌, Bool, true, false, nat_le, Option, Some, None}

-- This time has passed since then.
abbrev pub has_lasted : ℕ → ℕ → Option ℕ → Bool
has_lasted span now None = false
has_lasted span now (Some since) = nat_le (since + span) now

-- The same, or there is no such time.
abbrev pub is_past : ℕ → ℕ → Option ℕ → Bool
is_past span now None = true
is_past span now (Some since) = nat_le (since + span) now

-- A time lies before another one, or that one never comes.
abbrev pub IsBefore : ℕ → Option ℕ → Type 0
IsBefore time None = Unit {0}
IsBefore time (Some due) = time < due

-- A time has come, if there is one.
abbrev pub has_come : ℕ → Option ℕ → Bool
has_come now None = false
has_come now (Some time) = nat_le time now

-- one of two
abbrev pub IsOneOf : Option ℕ → Option ℕ → Option ℕ → Type 0
IsOneOf one other time = (time ≡ one) ⊎ (time ≡ other)
