-- What is known of an answer, so that its line can be written. Plies stand in their order.
use Rattle.std.specs.Prelude.{ℕ, ◌≤◌, ◌<◌, List, None, Some, length, take, ⊤}
use Rattle.chess_rules.specs.declared.parts.Parts.{Parts}
use Rattle.chess_rules.specs.Legal.{Legal}
use Rattle.settle_core.specs.declared.plies.Ply.{Ply}
use Rattle.settle_core.specs.Folding.{moves_of}
use Rattle.settle_core.specs.Settling.{Line, position_after}
use Rattle.going_back.specs.declared.answering.Answer.{Answer}
use Rattle.going_back.specs.declared.answering.Answer.TheVariants.{Back, Unnamed, Refused}
use Rattle.going_back.specs.declared.replacing.Change.{Change}
use Rattle.going_back.specs.declared.replacing.Change.TheVariants as change
use Rattle.going_back.specs.declared.going.BackError.{BackError}
use Rattle.going_back.specs.declared.going.BackError.TheVariants.{Moved}

-- the move that the board still shows is legal behind the plies that stay
abbrev pub IsLegalBehind : Parts → List Ply → ℕ → BackError → Type 0
IsLegalBehind start plies stays (Moved m) = Legal (position_after start (moves_of (take stays plies))) m
IsLegalBehind start plies stays other = ⊤

abbrev pub IsTellable : Parts → List Ply → Answer → Type 0
IsTellable start plies (Back made stays gone result) = ⊤
IsTellable start plies (Unnamed None) = ⊤
IsTellable start plies (Unnamed (Some k)) = (0 < k) × (k ≤ length plies)
IsTellable start plies (Refused stays error) = (stays ≤ length plies) × IsLegalBehind start plies stays error

-- the same of other moves that come
abbrev pub IsChangeTellable : Parts → List Ply → Change → Type 0
IsChangeTellable start plies (change.Unplaced (Some k)) = (0 < k) × (k ≤ length plies)
IsChangeTellable start plies (change.Refused new stays error) = Line start (moves_of new.items) × IsLegalBehind start new.items (length new.items) error
IsChangeTellable start plies other = ⊤
