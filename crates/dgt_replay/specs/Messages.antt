-- What is said where the program's arguments are refused, or help is asked for.
use Rattle.std.specs.Prelude.{◌≡◌, ◌≢◌, ◌⊎◌, ℕ, List, [], codes, Bool, true, Option}
use Rattle.std.specs.Io.KnownBytes.{Appends, Keeps}
use Rattle.text_subcommands.specs.Messages.{Says}

-- What becomes of mistaken arguments, by the status: the reason is said, in a text of the parser's that is not empty, or
-- that memory ran out.
abbrev pub RefusesArguments : ℕ → Option (List ℕ) → Option (List ℕ) → Bool → Type 0
RefusesArguments status said said' err_failed = ((status ≡ 2) × ((text : List ℕ) × (text ≢ []) × Says said said' err_failed text))
    ⊎ ((status ≡ 4) × Says said said' err_failed (codes "memory\n"))

-- What becomes of a request for help or for the version, by the status: a text that is not empty is written, and
-- nothing said; or it is said that the output has failed, or that memory ran out.
pub record GivesText (status : ℕ) (written written' said said' : Option (List ℕ)) (out_failed err_failed : Bool) : Type 0 where
  pub done : status ≡ 0 → ((text : List ℕ) × (text ≢ []) × Appends written written' text) × Keeps said said'
  pub fault : status ≡ 3 → (out_failed ≡ true) × Says said said' err_failed (codes "write fault\n")
  pub memory : status ≡ 4 → Keeps written written' × Says said said' err_failed (codes "memory\n")
  pub known : (status ≡ 0) ⊎ ((status ≡ 3) ⊎ (status ≡ 4))
