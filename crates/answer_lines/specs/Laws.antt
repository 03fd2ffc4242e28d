-- What holds of each answer.
use Rattle.std.specs.Prelude.{◌≡◌, ◌<◌, ◌^◌, ◌==◌, ◌⊎◌, not, ℕ, Bool, true, List, [], ◌++◌, Option, Some, None, ⊤, codes}
use Rattle.std.specs.List.{list_all}
use Rattle.board_cable.specs.declared.whose.Handling.{Handling}
use Rattle.board_cable.specs.declared.whose.Handling.TheVariants.{Other}
use Rattle.board_standing.specs.declared.state.State.{State}
use Rattle.answer_lines.specs.declared.said.Said.{Said}
use Rattle.answer_lines.specs.Answers.{answer_text, done_line}

-- the text has no byte like this
abbrev pub lacks : ℕ → List ℕ → Bool
lacks c text = list_all (λ d. not (d == c)) text

-- A serial number has no line feed.
abbrev pub HandlingFits : Option Handling → Type 0
HandlingFits (Some (Other number)) = lacks 10 number ≡ true
HandlingFits _ = ⊤

abbrev pub NumberFits : Option (List ℕ) → Type 0
NumberFits None = ⊤
NumberFits (Some number) = lacks 10 number ≡ true

-- Times and masks are below 2 ^ 64.
abbrev pub TimeFits : Option ℕ → Type 0
TimeFits None = ⊤
TimeFits (Some time) = time < 2 ^ 64

abbrev pub StateFits : Option State → Type 0
StateFits None = ⊤
StateFits (Some state) = TimeFits state.since × (state.squares < 2 ^ 64)

abbrev pub IsSaid : Said → Type 0
IsSaid said = HandlingFits said.handling × NumberFits said.number × StateFits said.state × TimeFits said.due

-- Answers that stand one behind the other are read in one way: where one text begins with two answers, they are the same.
abbrev pub IsSaidInOneWay : Type 0
IsSaidInOneWay = (one other : Said) (more rest : List ℕ) → IsSaid one → IsSaid other → answer_text one ++ more ≡ answer_text other ++ rest
    → (one ≡ other) × (more ≡ rest)

-- The text is empty, or it ends with a line feed.
abbrev pub EndsALine : List ℕ → Type 0
EndsALine text = (text ≡ []) ⊎ ((front : List ℕ) × (text ≡ front ++ codes "\n"))

-- Where a line of an answer begins with `done`, that is the last line: all is said.
abbrev pub DoneIsLast : Type 0
DoneIsLast = (said : Said) (front rest : List ℕ) → IsSaid said → EndsALine front → answer_text said ≡ front ++ (codes "done" ++ rest)
    → codes "done" ++ rest ≡ done_line said.due
