-- What a board sends that shows the plies of a game with their clocks, and then stands so. Events and plies stand in
-- their order.
use Rattle.std.specs.Prelude.{ℕ, zero, suc, ◌+◌, ◌*◌, Bool, if◌then◌else◌, List, [], ◌∷◌, ◌++◌, Option, Some, None}
use Rattle.std.specs.Option.{unwrap_or}
use Rattle.chess_clock.specs.declared.times.Hms.{Hms}
use Rattle.chess_clock.specs.declared.Reading.{Reading}
use Rattle.chess_rules.specs.declared.pieces.Side.{Side}
use Rattle.chess_rules.specs.declared.pieces.Side.TheVariants.{White, Black}
use Rattle.chess_rules.specs.declared.parts.Parts.{Parts}
use Rattle.chess_rules.specs.After.{after}
use Rattle.chess_rules.specs.Picture.{picture}
use Rattle.dgt_frame.specs.declared.events.Message.TheVariants.{Time}
use Rattle.dgt_frame.specs.declared.events.Event.{Event}
use Rattle.dgt_frame.specs.declared.events.Event.TheVariants.{Message as MessageEvent, Fault}
use Rattle.dgt_frame.specs.declared.events.FaultKind.TheVariants.{Stray}
use Rattle.dgt_frame.specs.declared.First.{First}
use Rattle.settle_core.specs.declared.plies.Ply.{Ply}
use Rattle.pair_frames.specs.PutIn.{dump_of, times_of}

-- a time message that says this reading
abbrev pub time_shown : First → Option Reading → Event
time_shown first reading = MessageEvent (Time (times_of first reading))

-- The reading in which the mover has the clock of its ply, if it has one. The other side has that of the ply before;
-- where there is none, the same.
abbrev pub reading_with : Side → Option Hms → Option Hms → Option Reading
reading_with side before None = None
reading_with White before (Some own) = Some (record { white = own; black = unwrap_or before own })
reading_with Black before (Some own) = Some (record { white = unwrap_or before own; black = own })

-- A ply in this position, behind one with this clock: its clock, and then the board after it.
abbrev pub ply_shown : First → Bool → Parts → Option Hms → Ply → List Event
ply_shown first rotated p before ply = time_shown first (reading_with p.side before ply.clock)
    ∷ dump_of rotated (picture (after p ply.mv)) ∷ []

-- Each of the plies from this position on.
abbrev pub plies_shown : First → Bool → Parts → Option Hms → List Ply → List Event
plies_shown first rotated p before [] = []
plies_shown first rotated p before (ply ∷ plies) = ply_shown first rotated p before ply
    ++ plies_shown first rotated (after p ply.mv) ply.clock plies

-- The start, and then each ply; nothing, where there is none.
abbrev pub game_shown : First → Bool → Parts → List Ply → List Event
game_shown first rotated start [] = []
game_shown first rotated start (ply ∷ plies) = dump_of rotated (picture start)
    ∷ plies_shown first rotated start None (ply ∷ plies)

-- how many bytes that has, by the number of its plies
abbrev pub size_of_game : ℕ → ℕ
size_of_game zero = 0
size_of_game (suc n) = 144 + 77 * n

-- What the clocks show, what the board shows; and a byte in no frame, where updates are not to count.
abbrev pub board_shown : First → Bool → Option Reading → List ℕ → Bool → List Event
board_shown first rotated reading seen trusted = time_shown first reading ∷ dump_of rotated seen
    ∷ (if trusted then [] else Fault Stray ∷ [])

-- how many bytes that has
abbrev pub size_of_board : Bool → ℕ
size_of_board trusted = if trusted then 77 else 78
