-- What `check` says of a text.
use Rattle.std.specs.Prelude.{◌≡◌, ℕ, ◌<◌, ◌≤◌, ◌⊎◌, List, ◌++◌, codes, decimal, length, Option, IfSome, true}
use Rattle.std.specs.Io.KnownBytes.{Appends, Keeps}
use Rattle.watched_streams.specs.Output.{AppendsPart}
use Rattle.settle_core.specs.declared.plies.Outcome.{Outcome}
use Rattle.chess_game.specs.Games.{Content}
use Rattle.pgn_book.specs.Movetext.{result_text}
use Rattle.pgn_book.specs.Pgn.{Pgn}
use Rattle.text_subcommands.specs.Messages.{IsTooLong, Tells}
use Rattle.watched_streams.specs.Input.{ReadsWithin}
use Rattle.text_subcommands.specs.Streams.{Streams}

-- the number of moves, and the result
abbrev pub summary_line : ℕ → Option Outcome → List ℕ
summary_line moves result = codes "moves " ++ decimal moves ++ codes ", result " ++ result_text result ++ codes "\n"

-- the most bytes of a text
abbrev pub text_limit : ℕ
text_limit = 268435456

-- The input is the export text of a game, within the limit, and what was written says so.
abbrev pub ChecksGame : Option (List ℕ) → Option (List ℕ) → Option (List ℕ) → Type 0
ChecksGame input written written' = IfSome input (λ bytes. (game : Content) × Pgn game bytes × (length bytes ≤ text_limit)
    × Appends written written' (summary_line (length game.plies) game.result))

-- A first part of that line was written, or nothing.
abbrev pub ChecksPart : Option (List ℕ) → Option (List ℕ) → Option (List ℕ) → Type 0
ChecksPart input written written' = Keeps written written' ⊎ IfSome input (λ bytes. (game : Content) × Pgn game bytes × (length bytes ≤ text_limit)
    × AppendsPart written written' (summary_line (length game.plies) game.result))

-- The message about a refused text: it is longer than a text may be; or it is not, and is the export text of no game.
abbrev pub RefusesPgn : Option (List ℕ) → List ℕ → Type 0
RefusesPgn input message = (IfSome input (λ bytes. text_limit < length bytes) × IsTooLong message)
    ⊎ (IfSome input (λ bytes. (length bytes ≤ text_limit) × ((game : Content) → Pgn game bytes → ⊥)) × (message ≡ codes "pgn: not export\n"))

-- The input is the export text of a game, or why not was said.
pub record Checks (status : ℕ) (s : Streams) : Type 0 where
  pub done : status ≡ 0 → ChecksGame s.input s.written s.written'
  pub tells : Tells status (RefusesPgn s.input) s.said s.said' s.reader_failed s.out_failed s.err_failed
  -- at most one byte past the limit was read
  pub bounded : ReadsWithin text_limit s.input s.input'
  -- a stream has failed: a first part of the line stands, and nothing where it is the reader
  pub fault : status ≡ 3 → ChecksPart s.input s.written s.written'
  pub unread : s.reader_failed ≡ true → Keeps s.written s.written'
  pub read : s.reader_failed ≡ true → status ≡ 3
  -- nothing was written of a text that is refused, or where memory ran out
  pub silent : (status ≡ 1) ⊎ (status ≡ 4) → Keeps s.written s.written'
