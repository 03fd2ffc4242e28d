-- What becomes of a capture that `add`, `back` or `instead` answers: by bytes, or by none, and by a line.
use Rattle.std.specs.Prelude.{◌≡◌, ◌⊎◌, ◌∷◌, [], ℕ, Bool, Contains, IfSome, List, Option, None, Some, codes, false, true}
use Rattle.std.specs.Option.{unwrap_or}
use Rattle.std.specs.Io.KnownBytes.{Appends, Keeps}
use Rattle.board_events.specs.Limits.{limit}
use Rattle.watched_streams.specs.Input.{ReadsWithin}
use Rattle.watched_streams.specs.Output.{AppendsPart}
use Rattle.text_subcommands.specs.Messages.{Says}
use Rattle.text_subcommands.specs.Streams.{Streams}

-- the text of an option; none is an empty one
abbrev pub text_in : Option (List ℕ) → List ℕ
text_in text = unwrap_or text []

-- The input is answered so.
abbrev pub IsAnswered : (List ℕ → Option (List ℕ) → List ℕ → Type 0) → Option (List ℕ) → Option (List ℕ) → List ℕ → Type 0
IsAnswered Answers input made line = (capture : List ℕ) × IfSome input (λ bytes. capture ≡ bytes) × Answers capture made line

-- The bytes of the answer were written, and no other.
abbrev pub Writes : Option (List ℕ) → Option (List ℕ) → Option (List ℕ) → Type 0
Writes (Some bytes) written written' = Appends written written' bytes
Writes None written written' = ⊥

-- The answer has no bytes, and nothing was written.
abbrev pub WritesNothing : Option (List ℕ) → Option (List ℕ) → Option (List ℕ) → Type 0
WritesNothing (Some bytes) written written' = ⊥
WritesNothing None written written' = Keeps written written'

-- What becomes of an input that was read, by the status.
pub record Puts (Answers : List ℕ → Option (List ℕ) → List ℕ → Type 0) (IsLong : List ℕ → Type 0) (input : Option (List ℕ)) (status : ℕ)
    (written written' said said' : Option (List ℕ)) (out_failed err_failed : Bool) : Type 0 where
  -- the bytes were written, and the line was said
  pub done : status ≡ 0 → (made : Option (List ℕ)) × (line : List ℕ) × IsAnswered Answers input made line × Writes made written written' × Appends said said' line
  -- there are no bytes, and the line says why; or the input is past its limit; and nothing was written
  pub refused : status ≡ 1 → ((made : Option (List ℕ)) × (line : List ℕ) × IsAnswered Answers input made line × WritesNothing made written written'
      × Says said said' err_failed line)
      ⊎ (IfSome input IsLong × Keeps written written' × Says said said' err_failed (codes "input: too long\n"))
  -- the output or standard error has failed
  pub fault : status ≡ 3 → ((out_failed ≡ true) × Says said said' err_failed (codes "write fault\n"))
      ⊎ ((err_failed ≡ true) × ((made : Option (List ℕ)) × (line : List ℕ) × IsAnswered Answers input made line × Writes made written written' × AppendsPart said said' line))
  pub memory : status ≡ 4 → Keeps written written' × Says said said' err_failed (codes "memory\n")
  pub known : Contains (0 ∷ 1 ∷ 3 ∷ 4 ∷ []) status

-- What becomes of a capture on a reader.
pub record Edits (Answers : List ℕ → Option (List ℕ) → List ℕ → Type 0) (IsLong : List ℕ → Type 0) (status : ℕ) (s : Streams) : Type 0 where
  pub puts : s.reader_failed ≡ false → Puts Answers IsLong s.input status s.written s.written' s.said s.said' s.out_failed s.err_failed
  -- the reader has failed, and nothing was written
  pub unread : s.reader_failed ≡ true → (status ≡ 3) × Keeps s.written s.written'
      × (Says s.said s.said' s.err_failed (codes "read fault\n") ⊎ ((s.out_failed ≡ true) × Says s.said s.said' s.err_failed (codes "write fault\n")))
  pub bounded : ReadsWithin limit s.input s.input'
