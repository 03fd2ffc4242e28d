-- The lines of how a game ends.
use Rattle.std.specs.Prelude.{◌≡◌, ◌<◌, ◌^◌, ℕ, Bool, true, false, List, [], ◌++◌, Option, Some, None, codes, decimal, ⊤}
use Rattle.board_endings.specs.declared.news.End.{End}
use Rattle.game_over.specs.declared.happened.Outcome.{Outcome}
use Rattle.game_over.specs.declared.happened.Outcome.TheVariants.{WhiteWins, BlackWins, Draw}
use Rattle.game_over.specs.declared.said.Over.{Over}
use Rattle.game_over.specs.declared.said.Why.{Why}
use Rattle.game_over.specs.declared.said.Why.TheVariants.{Stood, PlaysOn, Corrected, SetUp, Unfinished}
use Rattle.answer_lines.specs.declared.said.Said.{Said}
use Rattle.answer_lines.specs.Answers.{answer_text}
use Rattle.answer_lines.specs.Laws.{IsSaid}

abbrev pub reason_word : Why → List ℕ
reason_word Stood = codes "STOOD"
reason_word PlaysOn = codes "PLAYS-ON"
reason_word Corrected = codes "CORRECTED"
reason_word SetUp = codes "SET-UP"
reason_word Unfinished = codes "UNFINISHED"

-- as PGN writes it
abbrev pub result_word : Option Outcome → List ℕ
result_word None = codes "*"
result_word (Some WhiteWins) = codes "1-0"
result_word (Some BlackWins) = codes "0-1"
result_word (Some Draw) = codes "1/2-1/2"

-- Nobody need look at its last moves, or somebody must.
abbrev pub sure_word : Bool → List ℕ
sure_word true = codes "sure"
sure_word false = codes "unsure"

-- why the game is over, its result, how many bytes are its own, and whether that is sure
abbrev pub over_words : Over → List ℕ
over_words over = codes "over " ++ (reason_word over.why ++ (codes " " ++ (result_word over.result ++ (codes " " ++ (decimal over.bytes ++ (codes " " ++ sure_word over.is_sure))))))

abbrev pub over_line : Option Over → List ℕ
over_line None = []
over_line (Some over) = over_words over ++ codes "\n"

-- It is over, and so many moves were made since.
abbrev pub goes_on_line : Option ℕ → List ℕ
goes_on_line None = []
goes_on_line (Some count) = (codes "played " ++ decimal count) ++ codes "\n"

-- It began only with so many bytes.
abbrev pub begins_line : Option ℕ → List ℕ
begins_line None = []
begins_line (Some bytes) = (codes "begins " ++ decimal bytes) ++ codes "\n"

abbrev pub end_text : End → List ℕ
end_text end = over_line end.over ++ (goes_on_line end.goes_on ++ begins_line end.begins)

-- Numbers are below 2 ^ 64.
abbrev pub OverFits : Option Over → Type 0
OverFits None = ⊤
OverFits (Some over) = over.bytes < 2 ^ 64

abbrev pub CountFits : Option ℕ → Type 0
CountFits None = ⊤
CountFits (Some count) = count < 2 ^ 64

abbrev pub EndFits : End → Type 0
EndFits end = OverFits end.over × CountFits end.goes_on × CountFits end.begins

-- How a game ends, with what is said behind it, one answer behind the other, is read in one way.
abbrev pub EndsAreReadInOneWay : Type 0
EndsAreReadInOneWay = (end news : End) (one other : Said) (more rest : List ℕ) → EndFits end → EndFits news → IsSaid one → IsSaid other
    → end_text end ++ (answer_text one ++ more) ≡ end_text news ++ (answer_text other ++ rest) → (end ≡ news) × (one ≡ other) × (more ≡ rest)
