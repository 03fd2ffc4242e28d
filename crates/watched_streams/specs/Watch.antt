-- What a clause reads of a watched stream.
use Rattle.std.specs.Prelude.{◌≡◌, ℕ, Bool, true, false, ◌&&◌, ◌==◌, nat_lt, List, length, Result, Ok, Err}
use Rattle.watched_streams.specs.declared.watched.Watch.{Watch}

-- the stream itself
abbrev pub inner_of : {T : Type 0} → Watch T → T
inner_of w = w.inner

-- a call on it has failed, or a write of at least one byte has taken none
abbrev pub has_failed : {T : Type 0} → Watch T → Bool
has_failed w = w.failed

-- it was written to after the last flush that succeeded, or after the beginning
abbrev pub is_unflushed : {T : Type 0} → Watch T → Bool
is_unflushed w = w.unflushed

-- Nothing that was written waits for a flush, unless a call on it has failed.
abbrev pub IsFlushed : {T : Type 0} → Watch T → Type 0
IsFlushed w = has_failed w ≡ false → is_unflushed w ≡ false

-- this write failed, or took none of at least one byte
abbrev pub took_none : {E : Type 0} → Result ℕ E → List ℕ → Bool
took_none (Ok n) bytes = (n == 0) && nat_lt 0 (length bytes)
took_none (Err e) bytes = true
