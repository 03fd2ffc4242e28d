-- The line that an arbiter types for the change of a game that alone explains its board. Plies stand in their order.
use Rattle.std.specs.Prelude.{◌≡◌, ◌⊎◌, ◌-◌, ℕ, zero, suc, List, [], ◌∷◌, ◌++◌, codes, length, take}
use Rattle.chess_rules.specs.declared.chess_move.Move.{Move}
use Rattle.chess_rules.specs.declared.parts.Parts.{Parts}
use Rattle.chess_rules.specs.declared.pieces.Side.{Side}
use Rattle.chess_rules.specs.declared.pieces.Side.TheVariants.{White, Black}
use Rattle.chess_rules.specs.After.{after}
use Rattle.chess_text.specs.San.{San}
use Rattle.settle_core.specs.declared.plies.Ply.{Ply}
use Rattle.settle_core.specs.Folding.{moves_of}
use Rattle.settle_core.specs.Settling.{position_after}
use Rattle.going_back.specs.declared.fit.Coming.{Coming}
use Rattle.going_back.specs.declared.fit.Coming.TheVariants.{Nothing, One, Two}
use Rattle.going_back.specs.declared.fit.Fit.{Fit}
use Rattle.going_back.specs.Fitting.{IsOnlyFit}
use Rattle.going_back.specs.Telling.{IsPlyWritten, IsWrittenSo}

-- A move behind another one, as movetext has it: White's with its number, Black's without (PGN standard, section 8.2.2.2).
abbrev pub IsReplyWritten : Side → Parts → Move → List ℕ → Type 0
IsReplyWritten White p m text = IsWrittenSo p m text
IsReplyWritten Black p m text = San p m text

-- the moves that come
abbrev pub AreWritten : Parts → Coming → List ℕ → Type 0
AreWritten p Nothing text = text ≡ []
AreWritten p (One m) text = IsWrittenSo p m text
AreWritten p (Two two) text = (first second : List ℕ) × IsWrittenSo p two.first first
    × IsReplyWritten (after p two.first).side (after p two.first) two.second second × (text ≡ first ++ (codes " " ++ second))

-- The last of the plies that stay, as it is written; 0 if none stay.
abbrev pub IsLastWritten : Parts → List Ply → List ℕ → Type 0
IsLastWritten start [] text = text ≡ codes "0"
IsLastWritten start (ply ∷ stay) text = IsPlyWritten start (ply ∷ stay) (length (ply ∷ stay)) text

-- what stands before the moves that come in place of so many
abbrev pub front : ℕ → List ℕ
front zero = []
front (suc gone) = codes "instead "

-- What an arbiter types where these plies stay, so many go, and these moves come: the moves, in place of others behind `instead`;
-- if none come, `back` and the last ply that stays; nothing if nothing changes.
abbrev pub IsTyped : Parts → List Ply → ℕ → Coming → List ℕ → Type 0
IsTyped start stay zero Nothing typed = typed ≡ []
IsTyped start stay (suc gone) Nothing typed = (last : List ℕ) × IsLastWritten start stay last × (typed ≡ codes "back " ++ last)
IsTyped start stay gone (One m) typed = (moves : List ℕ) × AreWritten (position_after start (moves_of stay)) (One m) moves × (typed ≡ front gone ++ moves)
IsTyped start stay gone (Two two) typed = (moves : List ℕ) × AreWritten (position_after start (moves_of stay)) (Two two) moves × (typed ≡ front gone ++ moves)

-- the line, if something is typed
abbrev pub line_of : List ℕ → List ℕ
line_of [] = []
line_of (byte ∷ bytes) = (byte ∷ bytes) ++ codes "\n"

-- The line is what is typed for this change of these plies.
abbrev pub IsFitLine : Parts → List Ply → Fit → List ℕ → Type 0
IsFitLine start plies fit line = (typed : List ℕ) × IsTyped start (take (length plies - fit.gone) plies) fit.gone fit.coming typed × (line ≡ line_of typed)

-- Exactly one change explains the picture, and the line is what is typed for it; or there is none, or more than one, and no line.
abbrev pub SaysFit : Parts → List Ply → List ℕ → List ℕ → Type 0
SaysFit start plies seen line = ((fit : Fit) × IsOnlyFit start (moves_of plies) seen fit × IsFitLine start plies fit line)
    ⊎ (((fit : Fit) → IsOnlyFit start (moves_of plies) seen fit → ⊥) × (line ≡ []))
