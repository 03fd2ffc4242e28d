-- Whether a file of times belongs to a capture. Events stand in their order.
use Rattle.std.specs.Prelude.{◌+◌, ◌-◌, ◌*◌, ◌%◌, ◌^◌, ◌==◌, nat_lt, min, bit_xor, ℕ, List, [], ◌∷◌, length, take, if◌then◌else◌}
use Rattle.board_times.specs.declared.events.What.{What}
use Rattle.board_times.specs.declared.events.What.TheVariants.{Begins, Hears, Adds, Brings}
use Rattle.board_times.specs.declared.events.Event.{Event}
use Rattle.board_times.specs.declared.reading.Kept.{Kept}
use Rattle.board_times.specs.declared.fitting.Fit.{Fit}
use Rattle.board_times.specs.declared.fitting.Fit.TheVariants.{Another, Whole, Short, Long}

-- FNV-1a with 64 bits, by Fowler, Noll and Vo: from this start, each byte is mixed in by exclusive or, and the result is
-- multiplied.
abbrev pub digest_next : ℕ → ℕ → ℕ
digest_next hash byte = (bit_xor hash byte * 1099511628211) % 2 ^ 64

abbrev pub digest_after : ℕ → List ℕ → ℕ
digest_after hash [] = hash
digest_after hash (byte ∷ bytes) = digest_after (digest_next hash byte) bytes

abbrev pub digest : List ℕ → ℕ
digest bytes = digest_after 14695981039346656037 bytes

-- How many bytes of the capture are accounted for: what a call found when it began, and what came and was added since; counted up
-- to 2 ^ 64 - 1.
abbrev pub covered_after : What → ℕ → ℕ
covered_after (Begins size) before = size
covered_after (Hears count) before = min (before + count) 18446744073709551615
covered_after (Adds count) before = min (before + count) 18446744073709551615
covered_after (Brings count) before = min (before + count) 18446744073709551615
covered_after _ before = before

abbrev pub covered : ℕ → List Event → ℕ
covered size [] = size
covered size (event ∷ events) = covered (covered_after event.what size) events

abbrev pub fit_by : ℕ → ℕ → Fit
fit_by told have = if nat_lt told have then Short (have - told) else (if nat_lt have told then Long (told - have) else Whole)

-- The file is of this capture if the first bytes have its digest. The capture may have more bytes than the file tells of, or fewer.
abbrev pub fit_of : Kept → List ℕ → Fit
fit_of kept capture = if nat_lt (length capture) kept.heading.size then Another
    else (if digest (take kept.heading.size capture) == kept.heading.digest then fit_by (covered kept.heading.size kept.events.items) (length capture)
    else Another)
