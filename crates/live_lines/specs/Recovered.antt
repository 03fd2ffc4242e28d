-- The text of a game in which pairs of plies are recovered.
use Rattle.std.specs.Prelude.{ℕ, true, List}
use Rattle.board_events.specs.Commands.{past_of}
use Rattle.board_events.specs.Game.{IsGameOf}
use Rattle.board_events.specs.Settings.{Setting}
use Rattle.board_game.specs.History.{Came, bytes_of}
use Rattle.chess_game.specs.Games.{Content}
use Rattle.chess_game.specs.Values.{TagValues}
use Rattle.chess_rules.specs.Valid.{Valid}
use Rattle.dgt_frame.specs.Streams.{Shows, Timed}
use Rattle.pgn_book.specs.Pgn.{Pgn}
use Rattle.recovery.specs.Weaving.{Recovers}
use Rattle.live_lines.specs.Text.{IsTextOf}

-- Where pairs are recovered, the text is that of the game that the woven bytes show, which `recover` gives of all bytes, with the same
-- tags: so `record` writes it of them.
abbrev pub TextsAreRecovered : Type 0
TextsAreRecovered = (setting : Setting) (tags : TagValues) (past : List Came) (woven lines text : List ℕ) (events : List Timed) (rest : ℕ) → Valid setting.start
    → Recovers setting (bytes_of past) woven lines → Shows woven events rest → IsTextOf setting true tags past text
    → (game : Content) × IsGameOf game setting tags (past_of events) × Pgn game text
