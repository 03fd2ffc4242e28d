-- What becomes of a typed line. Events are listed with the latest first, plies stand in their order.
use Rattle.std.specs.Prelude.{◌≡◌, ℕ, Bool, List, [], ◌∷◌, Option, ⊤}
use Rattle.chess_rules.specs.declared.parts.Parts.{Parts}
use Rattle.chess_rules.specs.Legal.{NoMove}
use Rattle.dgt_frame.specs.declared.events.Event.{Event}
use Rattle.settle_core.specs.declared.plies.Outcome.{Outcome}
use Rattle.settle_core.specs.declared.plies.Ply.{Ply}
use Rattle.settle_core.specs.Folding.{moves_of}
use Rattle.settle_core.specs.Settling.{position_after}
use Rattle.pair_frames.specs.PutIn.{ShowsWhole, dump_of}
use Rattle.board_events.specs.Settings.{Setting}
use Rattle.board_captures.specs.Reading.{IsRead}
use Rattle.typed_lines.specs.declared.reading.Typed.{Typed}
use Rattle.typed_lines.specs.declared.reading.Typed.TheVariants as typed
use Rattle.typed_lines.specs.Lines.{ReadsLine}
use Rattle.adding.specs.declared.adding.Answer.{Answer}
use Rattle.adding.specs.declared.adding.Answer.TheVariants.{Added, Refused}
use Rattle.adding.specs.declared.adding.Reason.TheVariants.{Line, Ended, Board, Long}
use Rattle.adding.specs.Stays.{Changes, HasNoRoom, HasScore, Stays}
use Rattle.adding.specs.Making.{ShowsTyped, plies_with, shown_at, sign_with}

-- The game of a capture, and what else is known of it.
pub record IsGameOf (setting : Setting) (recovers : Bool) (capture : List ℕ) (past : List Event) (plies : List Ply) (sign : Option Outcome) : Type 0 where
  pub read : IsRead setting recovers capture past
  pub score : HasScore setting past plies sign

-- the position that the plies lead to
abbrev pub position_of : Setting → List Ply → Parts
position_of setting plies = position_after setting.start (moves_of plies)

-- A line that says neither moves nor a result.
abbrev pub AddsNothing : Typed → Type 0
AddsNothing (typed.Moves moves) = ⊥
AddsNothing (typed.Result outcome) = ⊥
AddsNothing other = ⊤

-- A result is typed, and the position has no legal move: mate or stalemate is the result.
abbrev pub HasEnded : Parts → Typed → Type 0
HasEnded p (typed.Result outcome) = NoMove p
HasEnded p other = ⊥

-- These are the bytes that show what was typed, and the frame of what the board has shown last.
pub record IsTried (setting : Setting) (past : List Event) (p : Parts) (said : Typed) (added again : List ℕ) : Type 0 where
  pub shows : ShowsTyped setting past p said added
  pub shown : ShowsWhole again (dump_of setting.rotated (shown_at setting past p) ∷ [])

-- What is answered to what a line says, in this position of a game with these plies.
abbrev pub IsAnswerTo : Setting → Bool → List ℕ → List Event → Parts → List Ply → Typed → Answer → Type 0
IsAnswerTo setting recovers capture past p plies said (Added told added) = (told ≡ said) × (HasEnded p said → ⊥)
    × ((again : List ℕ) × IsTried setting past p said added.items again × Stays setting recovers capture added.items again (plies_with plies said) (sign_with said))
IsAnswerTo setting recovers capture past p plies said (Refused told Line) = (told ≡ said) × AddsNothing said
IsAnswerTo setting recovers capture past p plies said (Refused told Ended) = (told ≡ said) × HasEnded p said
IsAnswerTo setting recovers capture past p plies said (Refused told Board) = (told ≡ said)
    × ((added again : List ℕ) × IsTried setting past p said added again × Changes setting recovers capture added again (plies_with plies said) (sign_with said))
IsAnswerTo setting recovers capture past p plies said (Refused told Long) = (told ≡ said)
    × ((added again : List ℕ) × IsTried setting past p said added again × HasNoRoom setting recovers capture added again)

-- The line is answered by the game that the capture has.
abbrev pub IsAnswered : Setting → Bool → List ℕ → List ℕ → Answer → Type 0
IsAnswered setting recovers capture text answer = (past : List Event) × (plies : List Ply) × (sign : Option Outcome)
    × IsGameOf setting recovers capture past plies sign
    × ((said : Typed) × ReadsLine (position_of setting plies) text said × IsAnswerTo setting recovers capture past (position_of setting plies) plies said answer)
