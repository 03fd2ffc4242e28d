-- The lines of alarms.
use Rattle.std.specs.Prelude.{◌≡◌, ◌<◌, ◌^◌, ℕ, List, [], ◌∷◌, ◌++◌, codes, decimal, ⊤}
use Rattle.board_doubts.specs.declared.heard.Place.{Place}
use Rattle.board_doubts.specs.declared.heard.Place.TheVariants.{AtLast, AfterLast}
use Rattle.board_doubts.specs.declared.heard.Why.{Why}
use Rattle.board_doubts.specs.declared.heard.Why.TheVariants.{Late, Elsewhere, BothElsewhere, AfterGap, TakenBack, Unpressed, OtherTime, MovedOn, Returned}
use Rattle.board_alarms.specs.declared.look.Look.{Look}
use Rattle.board_alarms.specs.declared.look.Look.TheVariants.{Doubtful, Stopped, Unplayed, Suspected}
use Rattle.answer_lines.specs.declared.said.Said.{Said}
use Rattle.answer_lines.specs.Answers.{answer_text}
use Rattle.answer_lines.specs.Laws.{IsSaid}

-- before or instead of the last ply, or after it
abbrev pub place_word : Place → List ℕ
place_word AtLast = codes "at"
place_word AfterLast = codes "after"

abbrev pub why_word : Why → List ℕ
why_word Late = codes "LATE"
why_word Elsewhere = codes "ELSEWHERE"
why_word BothElsewhere = codes "BOTH-ELSEWHERE"
why_word AfterGap = codes "AFTER-GAP"
why_word TakenBack = codes "TAKEN-BACK"
why_word Unpressed = codes "UNPRESSED"
why_word OtherTime = codes "OTHER-TIME"
why_word MovedOn = codes "MOVED-ON"
why_word Returned = codes "RETURNED"

-- where somebody must look, by how many plies the game has there, and why; after which ply so many moves were made while the clock was
-- stopped, or were made that nobody may have played; or the number of what is suspected
abbrev pub look_words : Look → List ℕ
look_words (Doubtful plies doubt) = codes "look " ++ place_word doubt.place ++ codes " " ++ decimal plies ++ codes " " ++ why_word doubt.why
look_words (Stopped plies moves) = codes "look since " ++ decimal plies ++ codes " STOPPED " ++ decimal moves
look_words (Unplayed plies moves) = codes "look since " ++ decimal plies ++ codes " UNPLAYED " ++ decimal moves
look_words (Suspected n) = codes "look SUSPECT " ++ decimal n

abbrev pub looks_text : List Look → List ℕ
looks_text [] = []
looks_text (look ∷ looks) = look_words look ++ codes "\n" ++ looks_text looks

-- Numbers are below 2 ^ 64.
abbrev pub LookFits : Look → Type 0
LookFits (Doubtful plies doubt) = plies < 2 ^ 64
LookFits (Stopped plies moves) = (plies < 2 ^ 64) × (moves < 2 ^ 64)
LookFits (Unplayed plies moves) = (plies < 2 ^ 64) × (moves < 2 ^ 64)
LookFits (Suspected n) = n < 2 ^ 64

abbrev pub LooksFit : List Look → Type 0
LooksFit [] = ⊤
LooksFit (look ∷ looks) = LookFits look × LooksFit looks

-- Alarms with what is said behind them, one answer behind the other, are read in one way.
abbrev pub LooksAreReadInOneWay : Type 0
LooksAreReadInOneWay = (looks news : List Look) (one other : Said) (more rest : List ℕ) → LooksFit looks → LooksFit news → IsSaid one → IsSaid other
    → looks_text looks ++ (answer_text one ++ more) ≡ looks_text news ++ (answer_text other ++ rest) → (looks ≡ news) × (one ≡ other) × (more ≡ rest)
