-- How long a stream of board bytes may be.
use Rattle.std.specs.Prelude.{ℕ}

-- the most bytes of a stream
abbrev pub limit : ℕ
limit = 67108864
