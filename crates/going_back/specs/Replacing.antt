-- What becomes of a capture whose game is to get the moves of a typed line in place of its last ones. Events are listed with
-- the latest first, plies stand in their order.
use Rattle.std.specs.Prelude.{◌≡◌, ◌≢◌, ◌+◌, ℕ, Bool, false, List, [], MatchOption, Some, length, take, ⊤}
use Rattle.chess_rules.specs.declared.chess_move.Move.{Move}
use Rattle.chess_rules.specs.declared.parts.Parts.{Parts}
use Rattle.chess_rules.specs.Picture.{picture}
use Rattle.dgt_frame.specs.declared.events.Event.{Event}
use Rattle.settle_core.specs.declared.plies.Ply.{Ply}
use Rattle.settle_core.specs.Entries.{last_picture}
use Rattle.settle_core.specs.Folding.{moves_of}
use Rattle.settle_core.specs.GameResult.{IsResult}
use Rattle.settle_core.specs.Settler.{SettlerState, HasSettled, plies_of, position_of}
use Rattle.settle_core.specs.Settling.{position_after}
use Rattle.typed_lines.specs.Lines.{ReadsLine}
use Rattle.typed_lines.specs.Telling.{said_line}
use Rattle.typed_lines.specs.declared.reading.Typed.{Typed}
use Rattle.typed_lines.specs.declared.reading.Typed.TheVariants as typed
use Rattle.board_events.specs.Session.{entries_in}
use Rattle.board_events.specs.Settings.{Setting}
use Rattle.board_captures.specs.Reading.{IsRead}
use Rattle.going_back.specs.declared.replacing.Change.{Change}
use Rattle.going_back.specs.declared.replacing.Change.TheVariants.{Replaced, Unplaced, Unsaid, Old, Refused}
use Rattle.going_back.specs.Back.{RefusesThese, Replaces}
use Rattle.going_back.specs.Coming.{IsNewLine}
use Rattle.going_back.specs.Nearest.{IsNearest}
use Rattle.going_back.specs.Placing.{IsPlace}

-- the picture of the position that these plies lead to
abbrev pub end_of : Parts → List Ply → List ℕ
end_of start plies = picture (position_after start (moves_of plies))

-- The board shows the position in which the old line ends, and the new line ends in another one.
abbrev pub ShowsOldEnd : Setting → List Event → List Ply → List Ply → Type 0
ShowsOldEnd setting past old plies = (last_picture (entries_in setting past) ≡ Some (end_of setting.start old))
    × (end_of setting.start plies ≢ end_of setting.start old)

-- What the line says is these moves.
abbrev pub SaysMoves : Typed → List Move → Type 0
SaysMoves (typed.Moves found) moves = found.items ≡ moves
SaysMoves other moves = ⊥

-- The line comes in behind so many plies, says these moves there, and so the game is to have these plies.
pub record Wants (start : Parts) (old : List Ply) (text : List ℕ) (stays come : ℕ) (plies : List Ply) : Type 0 where
  pub place : IsPlace start old text stays
  pub said : Typed
  pub reads : ReadsLine (position_after start (moves_of (take stays old))) text said
  pub moves : List Move
  pub says : SaysMoves said moves
  pub count : come ≡ length moves
  pub new : IsNewLine old stays moves plies

-- The line says no moves.
abbrev pub SaysNoMoves : Typed → Type 0
SaysNoMoves (typed.Moves moves) = ⊥
SaysNoMoves other = ⊤

-- Of these events, which gave this game: its last plies go, so many moves come, the result was this, and the new capture is
-- this; it has one ply more, or the board doesn't show the end of the old line. Or no ply has the number with which the line
-- begins, and this one is nearest. Or the line says something else there. Or the board shows the end of the old line. Or the
-- game can't get these moves, for this reason.
abbrev pub IsChangeOf : Setting → Bool → List Event → SettlerState → List ℕ → Change → Type 0
IsChangeOf setting recovers past game text (Replaced made stays gone come result) =
    (plies : List Ply) × Wants game.start (plies_of game) text stays come plies
    × (stays + gone ≡ length (plies_of game)) × IsResult (position_of game) game.score.sign result
    × ((more : Bool) × Replaces setting recovers past (plies_of game) plies more made.items
    × (more ≡ false → ShowsOldEnd setting past (plies_of game) plies → ⊥))
IsChangeOf setting recovers past game text (Unplaced nearest) = ((k : ℕ) → IsPlace game.start (plies_of game) text k → ⊥)
    × MatchOption nearest (plies_of game ≡ []) (IsNearest text game.start (plies_of game))
IsChangeOf setting recovers past game text (Unsaid told) = (k : ℕ) × IsPlace game.start (plies_of game) text k
    × ((said : Typed) × ReadsLine (position_after game.start (moves_of (take k (plies_of game)))) text said × SaysNoMoves said
    × (told.items ≡ said_line said))
IsChangeOf setting recovers past game text (Old stays come) =
    (plies : List Ply) × Wants game.start (plies_of game) text stays come plies × ShowsOldEnd setting past (plies_of game) plies
IsChangeOf setting recovers past game text (Refused plies stays error) =
    (come : ℕ) × Wants game.start (plies_of game) text stays come plies.items
    × RefusesThese setting recovers past (plies_of game) plies.items error

-- So it is of the game of this capture.
abbrev pub IsChange : Setting → Bool → List ℕ → List ℕ → Change → Type 0
IsChange setting recovers capture text change = (past : List Event) × (game : SettlerState) × IsRead setting recovers capture past
    × HasSettled game setting.start (entries_in setting past) × IsChangeOf setting recovers past game text change
