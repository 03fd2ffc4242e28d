-- What `record` does.
use Rattle.std.specs.Prelude.{◌≡◌, ◌⊎◌, ℕ, List, ◌++◌, codes, decimal, Option, Err, true}
use Rattle.std.specs.Io.KnownBytes.{Appends}
use Rattle.board_session.specs.declared.refusal.RecordError.{RecordError}
use Rattle.board_session.specs.declared.refusal.RecordError.TheVariants.{Read, Board, Write}
use Rattle.board_session.specs.declared.report.Report.{Report}
use Rattle.board_events.specs.declared.setup.Setup.{Setup}
use Rattle.board_session.specs.Recording.{RecordingLeaves, RecordsAll}
use Rattle.watched_streams.specs.Output.{AppendsPart}
use Rattle.text_subcommands.specs.Messages.{Says}
use Rattle.text_subcommands.specs.Streams.{Streams}
use Rattle.dgt_replay.specs.Status.{message_of}

-- the line about a recording, which begins a new line after the bytes for the board
abbrev pub report_line : Report → List ℕ
report_line report = codes "\nmessages " ++ decimal report.messages ++ codes ", faults " ++ decimal report.faults
    ++ codes ", moves " ++ decimal report.moves ++ codes ", rest " ++ decimal report.rest ++ codes "\n"

-- The whole of the stream was recorded so, and the line about it stands after the bytes for the board.
abbrev pub RecordsAndTells : Setup → Streams → Type 0
RecordsAndTells setup s = (report : Report) × (asked : Option (List ℕ))
    × RecordsAll setup report s.input s.said asked s.written s.written' × Appends asked s.said' (report_line report)

-- The recording has ended for this reason, and left what it leaves then: bytes read, bytes for the board and the
-- reason, and a text.
abbrev pub EndsFor : RecordError → Setup → Streams → Type 0
EndsFor reason setup s = (asked : Option (List ℕ))
    × RecordingLeaves setup (Err reason) s.input s.input' s.said asked s.written s.written' × Says asked s.said' s.err_failed (message_of reason)

-- The whole was recorded, and the line about it could not be written to its end.
abbrev pub RecordsUntold : Setup → Streams → Type 0
RecordsUntold setup s = (report : Report) × (asked : Option (List ℕ))
    × RecordsAll setup report s.input s.said asked s.written s.written' × AppendsPart asked s.said' (report_line report)

-- A stream has failed: the reader, the output, or standard error, on which the board is sent its bytes.
abbrev pub Fails : Setup → Streams → Type 0
Fails setup s = ((s.reader_failed ≡ true) × EndsFor Read setup s)
    ⊎ (((s.out_failed ≡ true) × EndsFor Write setup s)
    ⊎ ((s.err_failed ≡ true) × (EndsFor Board setup s ⊎ RecordsUntold setup s)))
