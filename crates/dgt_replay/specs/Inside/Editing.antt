-- How `add`, `back` and `instead` put their answers.
use Rattle.std.specs.Prelude.{◌≡◌, ◌⊎◌, ◌∷◌, [], ℕ, Bool, Contains, List, Option, codes, true}
use Rattle.std.specs.Io.KnownBytes.{Appends, Keeps}
use Rattle.board_events.specs.Settings.{Setting}
use Rattle.watched_streams.specs.Output.{AppendsPart}
use Rattle.text_subcommands.specs.Messages.{Says}
use Rattle.dgt_replay.specs.declared.edit.EditKind.{EditKind}
use Rattle.dgt_replay.specs.declared.edit.EditKind.TheVariants.{Add, Back, Instead}
use Rattle.dgt_replay.specs.Add.{AnswersLine}
use Rattle.dgt_replay.specs.Back.{AnswersBack}
use Rattle.dgt_replay.specs.Instead.{AnswersInstead}
use Rattle.dgt_replay.specs.Edit.{Writes, WritesNothing}

-- how a subcommand answers a capture, with the text of its option
abbrev pub AnswersOf : EditKind → Setting → Bool → List ℕ → List ℕ → Option (List ℕ) → List ℕ → Type 0
AnswersOf Add = AnswersLine
AnswersOf Back = AnswersBack
AnswersOf Instead = AnswersInstead

-- What becomes of an answer, by the status.
pub record PutsAnswer (made : Option (List ℕ)) (line : List ℕ) (status : ℕ) (written written' said said' : Option (List ℕ)) (out_failed err_failed : Bool) : Type 0 where
  pub done : status ≡ 0 → Writes made written written' × Appends said said' line
  pub refused : status ≡ 1 → WritesNothing made written written' × Says said said' err_failed line
  pub fault : status ≡ 3 → ((out_failed ≡ true) × Says said said' err_failed (codes "write fault\n"))
      ⊎ ((err_failed ≡ true) × Writes made written written' × AppendsPart said said' line)
  pub memory : status ≡ 4 → Keeps written written' × Says said said' err_failed (codes "memory\n")
  pub known : Contains (0 ∷ 1 ∷ 3 ∷ 4 ∷ []) status
