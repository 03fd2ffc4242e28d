-- The bytes that show what was typed. Events of the past are listed with the latest first; moves, plies and the events
-- that bytes show stand in their order.
use Rattle.std.specs.Prelude.{ℕ, false, List, ◌∷◌, ◌++◌, map, Option, None, Some}
use Rattle.std.specs.Option.{unwrap_or}
use Rattle.chess_rules.specs.declared.chess_move.Move.{Move}
use Rattle.chess_rules.specs.declared.parts.Parts.{Parts}
use Rattle.chess_rules.specs.Picture.{picture}
use Rattle.dgt_frame.specs.declared.events.Event.{Event}
use Rattle.settle_core.specs.declared.plies.Outcome.{Outcome}
use Rattle.settle_core.specs.declared.plies.Ply.{Ply}
use Rattle.settle_core.specs.Entries.{last_picture}
use Rattle.pair_frames.specs.PutIn.{ShowsWhole, dump_of}
use Rattle.board_events.specs.History.{reading_at}
use Rattle.board_events.specs.Session.{entries_in}
use Rattle.board_events.specs.Settings.{Setting}
use Rattle.board_captures.specs.Shown.{board_shown, plies_shown}
use Rattle.typed_lines.specs.declared.reading.Typed.{Typed}
use Rattle.typed_lines.specs.declared.reading.Typed.TheVariants as typed
use Rattle.adding.specs.Signs.{sign_picture}

-- A typed move has no clock.
abbrev pub unclocked : Move → Ply
unclocked m = record { mv = m; clock = None }

-- what the board has shown last, or, where it has shown nothing, the game's position
abbrev pub shown_at : Setting → List Event → Parts → List ℕ
shown_at setting past p = unwrap_or (last_picture (entries_in setting past)) (picture p)

-- What the clocks show, what the board has shown last, and a byte in no frame: until the next dump no update counts.
abbrev pub board_again : Setting → List Event → Parts → List Event
board_again setting past p = board_shown setting.first setting.rotated (reading_at setting.first past) (shown_at setting past p) false

-- The bytes show the moves one after the other, without clocks; or the kings' sign of the result. Then they show the
-- board and the clocks as they stand.
abbrev pub ShowsTyped : Setting → List Event → Parts → Typed → List ℕ → Type 0
ShowsTyped setting past p (typed.Moves moves) bytes =
    ShowsWhole bytes (plies_shown setting.first setting.rotated p None (map unclocked moves.items) ++ board_again setting past p)
ShowsTyped setting past p (typed.Result outcome) bytes =
    ShowsWhole bytes (dump_of setting.rotated (sign_picture outcome (picture p)) ∷ board_again setting past p)
ShowsTyped setting past p other bytes = ⊥

-- the plies that the game is to have
abbrev pub plies_with : List Ply → Typed → List Ply
plies_with plies (typed.Moves moves) = plies ++ map unclocked moves.items
plies_with plies other = plies

-- the sign that is to stand
abbrev pub sign_with : Typed → Option Outcome
sign_with (typed.Result outcome) = Some outcome
sign_with other = None
