-- What holds of streams in which pairs are recovered.
use Rattle.std.specs.Prelude.{◌≡◌, ℕ, List, [], ◌++◌, reverse}
use Rattle.chess_rules.specs.declared.chess_move.Move.{Move}
use Rattle.chess_rules.specs.Valid.{Valid}
use Rattle.dgt_frame.specs.Streams.{Shows, Timed}
use Rattle.settle_core.specs.Entries.{Entry, deduplicated}
use Rattle.settle_core.specs.Settling.{Line, position_after}
use Rattle.unseen_pairs.specs.HandsAtRest.{AreAtRest, EachTurnShows, Turn, turned_in}
use Rattle.unseen_pairs.specs.Laws.{ConfirmNone}
use Rattle.board_events.specs.Commands.{past_of}
use Rattle.board_events.specs.Settings.{Setting}
use Rattle.board_events.specs.Session.{entries_in}
use Rattle.recovery.specs.Weaving.{Recovers}

-- The bytes in which no entry confirms a pair stay as they are, and no line is told.
abbrev pub LeavesAlone : Type 0
LeavesAlone = (setting : Setting) (bytes woven text : List ℕ) (events : List Timed) (rest : ℕ) → Shows bytes events rest
    → ConfirmNone setting.start (deduplicated (entries_in setting (past_of events)))
    → Recovers setting bytes woven text → (woven ≡ bytes) × (text ≡ [])

-- Honest hands keep their bytes: the bytes stay as they are, and no line is told, where their entries are those of
-- hands that make the moves of a line one by one, and between two of them and after the last one lift pieces and put
-- them back, clear the board or set up the kings; wherever the recording is broken off.
abbrev pub HonestHandsKeepTheirBytes : Type 0
HonestHandsKeepTheirBytes =
    (setting : Setting) (moves : List Move) (turns : List Turn) (rested first rest : List Entry)
    (bytes woven text : List ℕ) (events : List Timed) (left : ℕ)
    → Valid setting.start
    → Line setting.start moves
    → EachTurnShows setting.start moves turns
    → AreAtRest (position_after setting.start moves) rested
    → turned_in turns ++ rested ≡ first ++ rest
    → Shows bytes events left
    → entries_in setting (past_of events) ≡ reverse first
    → Recovers setting bytes woven text → (woven ≡ bytes) × (text ≡ [])
