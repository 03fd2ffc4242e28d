-- What becomes of a capture by moves that come in behind so many plies. Plies and moves stand in their order.
use Rattle.std.specs.Prelude.{◌≡◌, ◌+◌, ℕ, Bool, false, List, length}
use Rattle.chess_rules.specs.declared.chess_move.Move.{Move}
use Rattle.dgt_frame.specs.declared.events.Event.{Event}
use Rattle.settle_core.specs.declared.plies.Ply.{Ply}
use Rattle.settle_core.specs.GameResult.{IsResult}
use Rattle.settle_core.specs.Settler.{SettlerState, plies_of, position_of}
use Rattle.board_events.specs.Settings.{Setting}
use Rattle.going_back.specs.declared.replacing.Change.{Change}
use Rattle.going_back.specs.declared.replacing.Change.TheVariants.{Replaced, Old, Refused}
use Rattle.going_back.specs.Back.{RefusesThese, Replaces}
use Rattle.going_back.specs.Coming.{IsNewLine}
use Rattle.going_back.specs.Replacing.{ShowsOldEnd}

abbrev pub IsChangeBy : Setting → Bool → List Event → SettlerState → ℕ → List Move → Change → Type 0
IsChangeBy setting recovers past game place moves (Replaced made stays gone come result) =
    (plies : List Ply) × (stays ≡ place) × (come ≡ length moves) × IsNewLine (plies_of game) place moves plies
    × (stays + gone ≡ length (plies_of game)) × IsResult (position_of game) game.score.sign result
    × ((more : Bool) × Replaces setting recovers past (plies_of game) plies more made.items
    × (more ≡ false → ShowsOldEnd setting past (plies_of game) plies → ⊥))
IsChangeBy setting recovers past game place moves (Old stays come) =
    (plies : List Ply) × (stays ≡ place) × (come ≡ length moves) × IsNewLine (plies_of game) place moves plies × ShowsOldEnd setting past (plies_of game) plies
IsChangeBy setting recovers past game place moves (Refused plies stays error) =
    (stays ≡ place) × IsNewLine (plies_of game) place moves plies.items × RefusesThese setting recovers past (plies_of game) plies.items error
IsChangeBy setting recovers past game place moves other = ⊥
