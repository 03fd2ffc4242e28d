-- What the result of a recording says.
use Rattle.std.proofs.Common.{◌≡◌, ℕ, List, [], ◌++◌, Option, Some, None, Result, Ok, Err, IfOk, IfSome, subst, sym, ◌∙◌, ap}
use Rattle.std.proofs.lemmas.List.{append-nil}
use Rattle.std.specs.Prelude.{⊤}
use Rattle.std.specs.Io.KnownBytes.{Appends, Consumes, IsAtEnd}
use Rattle.dgt_frame.specs.Streams.{Shows, Timed}
use Rattle.board_session.specs.declared.refusal.RecordError.{RecordError}
use Rattle.board_session.specs.declared.refusal.RecordError.TheVariants.{Memory, Read, Board, Write, TooLong}
use Rattle.board_session.specs.declared.report.Report.{Report}
use Rattle.board_events.specs.declared.setup.Setup.{Setup}
use Rattle.settle_core.specs.Entries.{deduplicated}
use Rattle.chess_game.specs.Games.{Content}
use Rattle.pgn_book.specs.Laws.{TextsTellGames}
use Rattle.pgn_book.specs.Pgn.{Pgn}
use Rattle.chess_game.specs.Values.{TagValues}
use Rattle.board_events.specs.Game.{IsGameOf}
use Rattle.board_session.specs.Inside.Recorder.{Finished}
use Rattle.board_events.specs.Settings.{Setting, setting_of}
use Rattle.board_events.specs.Commands.{past_of}
use Rattle.board_events.specs.Session.{entries_in}
use Rattle.board_events.proofs.GameLemmas.{one_each}
use Rattle.board_session.specs.Recording.{Ends, RecordingLeaves, RecordsAll, Sends, RecordsGame}
use Rattle.watched_streams.specs.Output.{AppendsPart}

-- the text was written, and reading had ended early
pub ended : (error : RecordError) (ending : Result ⊤ RecordError) (setting : Setting) (tags : TagValues) (front : List ℕ) (events taken : List Timed)
    (written written' : Option (List ℕ)) (rest : ℕ) (game : Content) → ending ≡ Err error → Shows front events rest → IsGameOf game setting tags (past_of taken)
    → (text : List ℕ) × Pgn game text × Appends written written' text → Finished (Err error) ending setting tags front events taken written written'
ended Memory ending setting tags front events taken written written' rest game e shows is w =
    record { rest = rest; game = game; text = w.0; shows = shows; game_is = is; text_is = w.1; answers = (e, w.2) }
ended Read ending setting tags front events taken written written' rest game e shows is w =
    record { rest = rest; game = game; text = w.0; shows = shows; game_is = is; text_is = w.1; answers = (e, w.2) }
ended Board ending setting tags front events taken written written' rest game e shows is w =
    record { rest = rest; game = game; text = w.0; shows = shows; game_is = is; text_is = w.1; answers = (e, w.2) }
ended Write ending setting tags front events taken written written' rest game e shows is w =
    record { rest = rest; game = game; text = w.0; shows = shows; game_is = is; text_is = w.1; answers = (w.0, [], sym (append-nil w.0), w.2) }
ended TooLong ending setting tags front events taken written written' rest game e shows is w =
    record { rest = rest; game = game; text = w.0; shows = shows; game_is = is; text_is = w.1; answers = (e, w.2) }

-- a part of the text was written
pub unwritten : (error : RecordError) (ending : Result ⊤ RecordError) (setting : Setting) (tags : TagValues) (front : List ℕ) (events taken : List Timed)
    (written written' : Option (List ℕ)) (rest : ℕ) (game : Content) → error ≡ Write → Shows front events rest → IsGameOf game setting tags (past_of taken)
    → (text : List ℕ) × Pgn game text × AppendsPart written written' text → Finished (Err error) ending setting tags front events taken written written'
unwritten error ending setting tags front events taken written written' rest game e shows is w =
    subst (λ (x : RecordError). Finished (Err x) ending setting tags front events taken written written') (sym e)
    (record { rest = rest; game = game; text = w.0; shows = shows; game_is = is; text_is = w.1; answers = w.2 })

-- all of the input was read, where reading went to its end
all_read : (input input' : Option (List ℕ)) (read : List ℕ) → Consumes input input' read → IsAtEnd input' → IfSome input (λ bytes. bytes ≡ read)
all_read None input' read consumes end = tt
all_read (Some xs) None read consumes end = absurd consumes
all_read (Some xs) (Some ys) read consumes end = consumes ∙ ap (λ (bs : List ℕ). read ++ bs) end ∙ append-nil read

records_known : (setup : Setup) (report : Report) (input input' sent sent' written written' : Option (List ℕ)) (bytes : List ℕ)
    (h : RecordingLeaves setup (Ok report) input input' sent sent' written written') → TextsTellGames → bytes ≡ h.read
    → Ends (setting_of setup) (Ok tt) input' h.front h.back h.taken h.extra → Sends (Ok tt) sent sent' h.taken
    → RecordsGame setup report bytes sent sent' written written'
records_known setup report input input' sent sent' written written' bytes h tell e ends sends =
    let front : bytes ≡ h.front = e ∙ h.parts ∙ ap (λ (bs : List ℕ). h.front ++ bs) ends.2 ∙ append-nil h.front in
    let events : h.taken ++ h.extra ≡ h.taken = ap (λ (ts : List Timed). h.taken ++ ts) ends.3 ∙ append-nil h.taken in
    record {
      events = h.taken;
      rest = h.rest;
      game = h.game;
      text = h.text;
      within = rw front ends.1;
      shows = rw (front, ← events) h.shows;
      game_is = h.game_is;
      one_each = one_each setup.start (deduplicated (entries_in (setting_of setup) (past_of h.taken))) (rw h.game_is.start_is at h.text_is.is_game.start);
      text_is = h.text_is;
      of_no_other = λ other says. tell other h.game h.text says h.text_is;
      writes = h.answers.1;
      sends = sends;
      reports = h.answers.2;
    }

pub records_all : (setup : Setup) (input input' sent sent' written written' : Option (List ℕ)) (answer : Result Report RecordError) → TextsTellGames
    → RecordingLeaves setup answer input input' sent sent' written written' → IfOk answer (λ report. RecordsAll setup report input sent sent' written written')
records_all setup None input' sent sent' written written' (Ok report) tell h = tt
records_all setup (Some bytes) input' sent sent' written written' (Ok report) tell h =
    let ends = subst (λ (ending : Result ⊤ RecordError). Ends (setting_of setup) ending input' h.front h.back h.taken h.extra) h.answers.0 h.ends in
    let sends = subst (λ (ending : Result ⊤ RecordError). Sends ending sent sent' h.taken) h.answers.0 h.sends in
    records_known setup report (Some bytes) input' sent sent' written written' bytes h tell (all_read (Some bytes) input' h.read h.consumes ends.0) ends sends
records_all setup input input' sent sent' written written' (Err error) tell h = tt
