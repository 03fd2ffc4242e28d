-- A capture that is read behind `recover` has the game that `record` writes of what `recover` gives of it.
use Rattle.std.proofs.Common.{◌≡◌, ◌∙◌, ℕ, List, Option, true, ap, subst}
use Rattle.chess_rules.specs.Valid.{Valid}
use Rattle.dgt_frame.specs.declared.events.Event.{Event}
use Rattle.dgt_frame.specs.Streams.{Timed}
use Rattle.settle_core.specs.Entries.{deduplicated}
use Rattle.settle_core.specs.Folding.{Folds, Score, score_of}
use Rattle.settle_core.specs.Laws.{FoldsOnce}
use Rattle.unseen_pairs.specs.Laws.{RecoversOnce}
use Rattle.unseen_pairs.specs.Recovering.{FoldsRecovering}
use Rattle.board_captures.specs.Reading.{IsOfBytes, IsRead}
use Rattle.board_events.specs.declared.setup.Setup.{Setup}
use Rattle.board_events.specs.Commands.{past_of}
use Rattle.board_events.specs.Session.{entries_in}
use Rattle.board_events.specs.Settings.{Setting, setting_of}
use Rattle.board_session.specs.declared.report.Report.{Report}
use Rattle.board_session.specs.Recording.{RecordsGame}
use Rattle.recovery.specs.Weaving.{Recovers}
use Rattle.dgt_replay.proofs.AgreementLemmas.{ShowsOnce, one_score}

-- However it was recovered, a capture gives one score.
one_recovered : ShowsOnce → RecoversOnce → (setting : Setting) (bytes a b s t : List ℕ) → Valid setting.start → (v : Recovers setting bytes a s) (w : Recovers setting bytes b t) → v.score ≡ w.score
one_recovered shows once setting bytes a b s t valid v w =
    let same : v.events ≡ w.events = (shows bytes v.events w.events v.rest w.rest v.shows w.shows).0 in
    let F : List Timed → Type 0 = λ es. FoldsRecovering setting.start (deduplicated (entries_in setting (past_of es))) v.score v.waiting in
    (once setting.start (deduplicated (entries_in setting (past_of w.events))) v.score w.score v.waiting w.waiting valid (subst F same v.recovers) w.recovers).0

-- It is that of the events that were taken.
read_score : ShowsOnce → FoldsOnce → (setting : Setting) (bytes woven text : List ℕ) (past : List Event) (score : Score) → Valid setting.start → (w : Recovers setting bytes woven text)
    → IsOfBytes woven past → Folds setting.start (deduplicated (entries_in setting past)) score → score ≡ w.score
read_score shows one setting bytes woven text past score valid w (events, rest, shown, is) folds =
    let same : events ≡ w.written = (shows woven events w.written rest w.rest shown w.shown).0 in
    let F : List Event → Type 0 = λ es. Folds setting.start (deduplicated (entries_in setting es)) score in
    one setting.start (deduplicated (entries_in setting (past_of w.written))) score w.score valid (subst F (is ∙ ap past_of same) folds) w.game

pub recovered_score : ShowsOnce → FoldsOnce → RecoversOnce → (setup : Setup) (report : Report) (bytes woven text : List ℕ) (past : List Event) (score : Score) (sent sent' written written' : Option (List ℕ)) → Valid setup.start
    → IsRead (setting_of setup) true bytes past → Folds setup.start (deduplicated (entries_in (setting_of setup) past)) score
    → Recovers (setting_of setup) bytes woven text → (r : RecordsGame setup report woven sent sent' written written') → score ≡ score_of r.game.plies r.game_is.sign
recovered_score shows one once setup report bytes woven text past score sent sent' written written' valid (other, told, within, w, taken, short) folds recovers r =
    let setting = setting_of setup in
    read_score shows one setting bytes other told past score valid w taken folds
    ∙ one_recovered shows once setting bytes other woven told text valid w recovers
    ∙ one_score shows one setup report bytes woven text sent sent' written written' valid recovers r
