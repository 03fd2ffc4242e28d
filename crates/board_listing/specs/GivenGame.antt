-- The game that the lines of `follow` give. Lines, events and plies are listed with the latest first.
use Rattle.std.specs.Prelude.{◌≡◌, ◌<◌, ◌⊎◌, ℕ, List, [], ◌∷◌, ◌++◌, codes, map, reverse, Option, None}
use Rattle.std.specs.List.{AllByRecursion}
use Rattle.chess_rules.specs.declared.parts.Parts.{Parts}
use Rattle.chess_rules.specs.Legal.{Legal}
use Rattle.chess_rules.specs.Picture.{picture}
use Rattle.chess_text.specs.San.{San}
use Rattle.dgt_frame.specs.declared.events.FaultKind.{FaultKind}
use Rattle.dgt_frame.specs.Streams.{Timed}
use Rattle.settle_core.specs.declared.plies.Outcome.{Outcome}
use Rattle.settle_core.specs.declared.plies.Ply.{Ply}
use Rattle.settle_core.specs.GameResult.{IsResult}
use Rattle.settle_core.specs.Folding.{moves_of}
use Rattle.settle_core.specs.Settling.{reached}
use Rattle.chess_game.specs.Games.{Content}
use Rattle.chess_game.specs.Values.{TagValues}
use Rattle.chess_rules.specs.Valid.{Valid}
use Rattle.board_events.specs.Game.{IsGameOf}
use Rattle.board_events.specs.Limits.{limit}
use Rattle.board_events.specs.Settings.{Setting}
use Rattle.board_listing.specs.GameText.{TellsEvents}
use Rattle.watched_streams.specs.Lines.{line}
use Rattle.board_listing.specs.GameLines.{move_words, result_words, squares_text, waiting_words}
use Rattle.board_listing.specs.EventLines.{kind_text, rest_line}

-- A line: the offset of the byte at which its event came, and what is said of it.
pub record GameLine : Type 0 where
  pub offset : ℕ
  pub words : List ℕ

-- The words tell this ply, which is legal where these stand before it: this word, its number, its SAN and its clock.
pub record TellsLegal (start : Parts) (before : List Ply) (word : List ℕ) (ply : Ply) (words : List ℕ) : Type 0 where
  pub san : List ℕ
  pub legal : Legal (reached start (moves_of before)) ply.mv
  pub san_is : San (reached start (moves_of before)) ply.mv san
  pub words_are : words ≡ move_words word (reached start (moves_of before)) san ply.clock

-- A move adds a ply.
abbrev pub AddsPly : Parts → List Ply → List ℕ → List Ply → Type 0
AddsPly start before words after = (ply : Ply) × (after ≡ ply ∷ before) × TellsLegal start before (codes "move") ply words

-- A correction puts a ply in the place of the last one.
abbrev pub CorrectsPly : Parts → List Ply → List ℕ → List Ply → Type 0
CorrectsPly start [] words after = ⊥
CorrectsPly start (last ∷ earlier) words after = (ply : Ply) × (after ≡ ply ∷ earlier) × TellsLegal start earlier (codes "correction") ply words

-- The words tell, in this position, of a picture that waits, the squares on which it differs; or of a fault.
abbrev pub IsOther : Parts → List ℕ → Type 0
IsOther p words = ((shown : List ℕ) × (words ≡ waiting_words (squares_text (picture p) shown))) ⊎ ((kind : FaultKind) × (words ≡ codes "fault " ++ kind_text kind))

-- These words make the second plies and result of the first ones. Of a picture that waits, and of a fault, nothing
-- changes.
abbrev pub ChangesGame : Parts → List ℕ → List Ply → Option Outcome → List Ply → Option Outcome → Type 0
ChangesGame start words before old after new = (AddsPly start before words after × (new ≡ old))
    ⊎ ((CorrectsPly start before words after × (new ≡ old))
    ⊎ (((after ≡ before) × (words ≡ result_words new))
    ⊎ ((after ≡ before) × (new ≡ old) × IsOther (reached start (moves_of before)) words)))

-- The lines, taken in order, give these plies and this result. Before the first one there is no ply, and the result is
-- that of the start: `*`, but where that is checkmate or stalemate.
abbrev pub Gives : Parts → List GameLine → List Ply → Option Outcome → Type 0
Gives start [] plies result = (plies ≡ []) × IsResult start None result
Gives start (told ∷ earlier) plies result = (before : List Ply) × (old : Option Outcome) × Gives start earlier before old
    × ChangesGame start told.words before old plies result

-- the text of lines
abbrev pub text_of : List GameLine → List ℕ
text_of [] = []
text_of (told ∷ earlier) = text_of earlier ++ line told.offset told.words

-- Each of these lines has an offset that a stream within the limit has.
abbrev pub AreInStream : List GameLine → Type 0
AreInStream lines = AllByRecursion (λ told. told.offset < limit) lines

-- What stands behind the lines: the line of the rest, or, where the stream is still read, nothing.
abbrev pub EndsLines : List ℕ → Type 0
EndsLines last = (last ≡ []) ⊎ ((rest : ℕ) × (last ≡ rest_line rest))

-- Lines give one list of plies and one result at most.
abbrev pub LinesGiveOneGame : Type 0
LinesGiveOneGame = (start : Parts) (lines : List GameLine) (plies others : List Ply) (result other : Option Outcome) → Valid start
    → Gives start lines plies result → Gives start lines others other → (plies ≡ others) × (result ≡ other)

-- A text tells its lines: those of two games, whatever their starts, have one text only where they are the same lines.
abbrev pub TextTellsTheLines : Type 0
TextTellsTheLines = (start begin : Parts) (lines others : List GameLine) (plies moves : List Ply) (result other : Option Outcome) (last end : List ℕ)
    → Valid start → Valid begin → Gives start lines plies result → Gives begin others moves other → AreInStream lines → AreInStream others
    → EndsLines last → EndsLines end → text_of lines ++ last ≡ text_of others ++ end → (lines ≡ others) × (last ≡ end)

-- And so it tells the game: from a start, a text gives one list of plies and one result at most.
abbrev pub TextTellsTheGame : Type 0
TextTellsTheGame = (start : Parts) (lines others : List GameLine) (plies moves : List Ply) (result other : Option Outcome) (last end : List ℕ)
    → Valid start → Gives start lines plies result → Gives start others moves other → AreInStream lines → AreInStream others
    → EndsLines last → EndsLines end → text_of lines ++ last ≡ text_of others ++ end → (plies ≡ moves) × (result ≡ other)

-- What is told of events are lines that give their game.
abbrev pub LinesGiveTheGame : Type 0
LinesGiveTheGame = (setting : Setting) (tags : TagValues) (events : List Timed) (text : List ℕ) (game : Content) → Valid setting.start
    → TellsEvents setting events text → IsGameOf game setting tags (map (λ t. t.event) events)
    → (lines : List GameLine) × (text ≡ text_of lines) × Gives setting.start lines (reverse game.plies) game.result
    × (AllByRecursion (λ x. x.offset < limit) events → AreInStream lines)
