-- What is said of a game that goes back: one line, `back: `, a kind, and what a sentence about it needs; or of one that gets
-- other moves, `instead: `. Plies stand in their order.
use Rattle.std.specs.Prelude.{◌≡◌, ◌+◌, ℕ, Bool, List, ◌∷◌, ◌++◌, Option, None, Some, codes, decimal, length, take}
use Rattle.chess_rules.specs.declared.chess_move.Move.{Move}
use Rattle.chess_rules.specs.declared.parts.Parts.{Parts}
use Rattle.chess_text.specs.San.{San}
use Rattle.dgt_frame.specs.declared.events.Event.{Event}
use Rattle.settle_core.specs.declared.plies.Ply.{Ply}
use Rattle.settle_core.specs.Folding.{moves_of}
use Rattle.settle_core.specs.Settler.{SettlerState, HasSettled, plies_of}
use Rattle.settle_core.specs.Settling.{position_after}
use Rattle.pgn_book.specs.Movetext.{number_token, result_text}
use Rattle.board_events.specs.Session.{entries_in}
use Rattle.board_events.specs.Settings.{Setting}
use Rattle.board_captures.specs.Reading.{IsRead}
use Rattle.going_back.specs.declared.answering.Answer.{Answer}
use Rattle.going_back.specs.declared.answering.Answer.TheVariants.{Back, Unnamed, Refused}
use Rattle.going_back.specs.declared.going.BackError.{BackError}
use Rattle.going_back.specs.declared.going.BackError.TheVariants.{Unseen, Ended, Signed, Moved, Board, TooLong, Memory}
use Rattle.going_back.specs.declared.replacing.Change.{Change}
use Rattle.going_back.specs.declared.replacing.Change.TheVariants as change
use Rattle.going_back.specs.Answers.{IsAnswerOf}
use Rattle.going_back.specs.Replacing.{IsChangeOf}

-- A move in this position as movetext has it, with its number: `14. Bxf6`, `14... Qd7`.
abbrev pub IsWrittenSo : Parts → Move → List ℕ → Type 0
IsWrittenSo p m text = (san : List ℕ) × San p m san × (text ≡ number_token p.side p.fullmove ++ codes " " ++ san)

-- The ply with this number, which is 1 for the first, is written so.
abbrev pub IsPlyWritten : Parts → List Ply → ℕ → List ℕ → Type 0
IsPlyWritten start plies k text = (before more : List Ply) × (ply : Ply) × (plies ≡ before ++ ply ∷ more) × (k ≡ length before + 1)
    × IsWrittenSo (position_after start (moves_of before)) ply.mv text

-- Why a game can't get so many of these plies, with how many they are, behind what the line begins with.
abbrev pub IsReason : List ℕ → Parts → List Ply → ℕ → BackError → List ℕ → Type 0
IsReason front start plies stays Unseen line = line ≡ front ++ (codes "unseen " ++ (decimal stays ++ codes "\n"))
IsReason front start plies stays (Ended outcome) line = line ≡ front ++ (codes "ended " ++ (decimal stays ++ (codes " " ++ (result_text (Some outcome) ++ codes "\n"))))
IsReason front start plies stays (Signed outcome) line = line ≡ front ++ (codes "signed " ++ (decimal stays ++ (codes " " ++ (result_text (Some outcome) ++ codes "\n"))))
IsReason front start plies stays (Moved m) line = (text : List ℕ) × IsWrittenSo (position_after start (moves_of (take stays plies))) m text
    × (line ≡ front ++ (codes "moved " ++ (decimal stays ++ (codes " " ++ (text ++ codes "\n")))))
IsReason front start plies stays Board line = line ≡ front ++ (codes "board " ++ (decimal stays ++ codes "\n"))
IsReason front start plies stays TooLong line = line ≡ front ++ (codes "long " ++ (decimal stays ++ codes "\n"))
IsReason front start plies stays Memory line = ⊥

-- the ply that is near, or that there is none
abbrev pub IsNearLine : List ℕ → Parts → List Ply → Option ℕ → List ℕ → Type 0
IsNearLine front start plies None line = line ≡ front ++ codes "none\n"
IsNearLine front start plies (Some k) line = (text : List ℕ) × IsPlyWritten start plies k text × (line ≡ front ++ (codes "nearest " ++ (text ++ codes "\n")))

-- how many plies stay, how many go, and the result that the game had; or the ply that is near; or why it can't go back
abbrev pub IsLineOf : Parts → List Ply → Answer → List ℕ → Type 0
IsLineOf start plies (Back made stays gone result) line =
    line ≡ codes "back: plies " ++ (decimal stays ++ (codes ", gone " ++ (decimal gone ++ (codes ", result " ++ (result_text result ++ codes "\n")))))
IsLineOf start plies (Unnamed nearest) line = IsNearLine (codes "back: ") start plies nearest line
IsLineOf start plies (Refused stays error) line = IsReason (codes "back: ") start plies stays error line

-- the new capture; none where the game doesn't go back
abbrev pub made_by : Answer → Option (List ℕ)
made_by (Back made stays gone result) = Some made.items
made_by (Unnamed nearest) = None
made_by (Refused stays error) = None

-- What becomes of the capture is answered by this new capture, or none, and said by this line.
abbrev pub IsTold : Setting → Bool → List ℕ → List ℕ → Option (List ℕ) → List ℕ → Type 0
IsTold setting recovers capture to made line = (past : List Event) × (game : SettlerState) × IsRead setting recovers capture past
    × HasSettled game setting.start (entries_in setting past)
    × ((answer : Answer) × IsAnswerOf setting recovers past game to answer × (made ≡ made_by answer) × IsLineOf game.start (plies_of game) answer line)

-- How many plies stay, how many go, how many moves come, and the result that the game had; or the ply that is near; or what
-- the line says otherwise; or that the board shows the end of the old line; or why the game can't get them.
abbrev pub IsChangeLine : Parts → List Ply → Change → List ℕ → Type 0
IsChangeLine start plies (change.Replaced made stays gone come result) line =
    line ≡ codes "instead: plies " ++ (decimal stays ++ (codes ", gone " ++ (decimal gone ++ (codes ", come " ++ (decimal come ++ (codes ", result " ++ (result_text result ++ codes "\n")))))))
IsChangeLine start plies (change.Unplaced nearest) line = IsNearLine (codes "instead: ") start plies nearest line
IsChangeLine start plies (change.Unsaid told) line = line ≡ codes "instead: " ++ told.items
IsChangeLine start plies (change.Old stays come) line = line ≡ codes "instead: old " ++ (decimal stays ++ (codes " " ++ (decimal come ++ codes "\n")))
IsChangeLine start plies (change.Refused new stays error) line = IsReason (codes "instead: ") start new.items (length new.items) error line

-- the new capture; none where the game doesn't get them
abbrev pub changed_by : Change → Option (List ℕ)
changed_by (change.Replaced made stays gone come result) = Some made.items
changed_by (change.Unplaced nearest) = None
changed_by (change.Unsaid said) = None
changed_by (change.Old stays come) = None
changed_by (change.Refused new stays error) = None

-- What becomes of the capture by a typed line is answered by this new capture, or none, and said by this line.
abbrev pub IsChangeTold : Setting → Bool → List ℕ → List ℕ → Option (List ℕ) → List ℕ → Type 0
IsChangeTold setting recovers capture text made line = (past : List Event) × (game : SettlerState) × IsRead setting recovers capture past
    × HasSettled game setting.start (entries_in setting past)
    × ((answer : Change) × IsChangeOf setting recovers past game text answer × (made ≡ changed_by answer) × IsChangeLine game.start (plies_of game) answer line)
