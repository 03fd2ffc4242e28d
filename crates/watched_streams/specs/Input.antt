-- What a read up to a limit leaves.
use Rattle.std.specs.Prelude.{◌≡◌, ℕ, ◌+◌, ◌<◌, ◌≤◌, List, [], ◌++◌, length, take, true, false, Option, Some, None, Result, Ok, Err}
use Rattle.std.specs.Io.KnownBytes.{Consumes, IsAtEnd, Keeps}
use Rattle.watched_streams.specs.declared.chunks.ReadChunk.{ReadChunk}

-- The next bytes of the input are the first of the buffer, at most as many as were left up to the limit; and where the
-- limit is passed, one more was read.
pub record GivesChunk (left : ℕ) (buffer : List ℕ) (chunk : ReadChunk) (input input' : Option (List ℕ)) : Type 0 where
  pub beyond : List ℕ
  pub consumes : Consumes input input' (take chunk.within buffer ++ beyond)
  pub fits : chunk.within ≤ length buffer
  pub bounded : length (take chunk.within buffer ++ beyond) ≤ left + 1
  pub none_past : chunk.past ≡ false → (0 < chunk.within) × (chunk.within ≤ left) × Consumes input input' (take chunk.within buffer)
  pub one_past : chunk.past ≡ true → (chunk.within ≡ left) × (length beyond ≡ 1)

-- A chunk was read, or the input has ended; a read that failed took nothing.
abbrev pub ReadsChunk : {E : Type 0} → ℕ → List ℕ → Result (Option ReadChunk) E → Option (List ℕ) → Option (List ℕ) → Type 0
ReadsChunk left buffer (Ok (Some chunk)) input input' = GivesChunk left buffer chunk input input'
ReadsChunk left buffer (Ok None) input input' = Consumes input input' [] × IsAtEnd input'
ReadsChunk left buffer (Err error) input input' = Keeps input input'

-- At most one byte past the limit was read.
abbrev pub ReadsWithin : ℕ → Option (List ℕ) → Option (List ℕ) → Type 0
ReadsWithin most input input' = (bytes : List ℕ) × Consumes input input' bytes × (length bytes ≤ most + 1)
