-- `follow` and `recover` beside `record`: the same bytes show one list of events, and its entries fold to one score.
use Rattle.std.proofs.Common.{◌≡◌, ◌<◌, ℕ, List, ◌++◌, map, Option, reverse, sym, ap, subst, ◌∙◌}
use Rattle.std.specs.Io.KnownBytes.{Appends}
use Rattle.chess_rules.specs.declared.parts.Parts.{Parts}
use Rattle.chess_rules.specs.Valid.{Valid}
use Rattle.dgt_frame.specs.declared.events.Event.{Event}
use Rattle.dgt_frame.specs.Streams.{Shows, Timed}
use Rattle.settle_core.specs.Entries.{deduplicated}
use Rattle.settle_core.specs.Folding.{Folds, Score, score_of}
use Rattle.settle_core.specs.Laws.{FoldsOnce}
use Rattle.settle_core.proofs.Lines.{map-reverse}
use Rattle.unseen_pairs.specs.Recovering.{FoldsRecovering}
use Rattle.board_events.specs.declared.setup.Setup.{Setup}
use Rattle.board_events.specs.Commands.{past_of}
use Rattle.board_events.specs.Game.{IsGameOf}
use Rattle.board_events.specs.Limits.{limit}
use Rattle.board_events.specs.Session.{entries_in}
use Rattle.board_events.specs.Settings.{Setting, setting_of}
use Rattle.board_listing.specs.EventLines.{rest_line}
use Rattle.board_listing.specs.GivenGame.{LinesGiveTheGame}
use Rattle.board_listing.specs.WatchLaws.{WatchLinesGiveTheGame}
use Rattle.board_listing.proofs.OffsetLemmas.{offsets_inside, reversed}
use Rattle.board_session.specs.declared.report.Report.{Report}
use Rattle.board_session.specs.Recording.{RecordsGame}
use Rattle.recovery.specs.Invented.{AreShownOrTold, PliesAreShownOrTold}
use Rattle.recovery.specs.Weaving.{Recovers}
use Rattle.dgt_replay.specs.Agreement.{FollowTellsTheGame, RecordsRecovered, RecordsShownOrTold, WatchTellsTheGame}

-- A stream shows one list of events.
abbrev pub ShowsOnce : Type 0
ShowsOnce = (bytes : List ℕ) (events others : List Timed) (rest other : ℕ) → Shows bytes events rest → Shows bytes others other → (events ≡ others) × (rest ≡ other)

abbrev events_of : List Timed → List Event
events_of events = map (λ t. t.event) events

pub follow_tells_the_game : ShowsOnce → LinesGiveTheGame → FollowTellsTheGame
follow_tells_the_game once lines setup report bytes sent sent' written written' told told' recorded (events, rest, text, within, shows, tells, appends) =
    let setting : Setting = setting_of setup in
    let same : recorded.events ≡ events = (once bytes recorded.events events recorded.rest rest recorded.shows shows).0 in
    let V : Parts → Type 0 = λ p. Valid p in
    let valid : Valid setup.start = subst V recorded.game_is.start_is recorded.text_is.is_game.start in
    let past : past_of recorded.events ≡ events_of (reverse events) =
    ap past_of same ∙ sym (map-reverse (λ (t : Timed). t.event) events) in
    let G : List Event → Type 0 = λ p. IsGameOf recorded.game setting setup.tags p in
    let given = lines setting setup.tags (reverse events) text recorded.game valid tells (subst G past recorded.game_is) in
    let A : List ℕ → Type 0 = λ t. Appends told told' (t ++ rest_line rest) in
    (given.0, rest, subst A given.1 appends, given.2, given.3 (reversed (λ x. x.offset < limit) events (offsets_inside bytes events rest within shows)))

pub watch_tells_the_game : ShowsOnce → WatchLinesGiveTheGame → WatchTellsTheGame
watch_tells_the_game once gives setup report bytes sent sent' written written' told told' recorded (events, rest, text, within, shows, (lines, watches, text_is), appends) =
    let setting : Setting = setting_of setup in
    let same : recorded.events ≡ events = (once bytes recorded.events events recorded.rest rest recorded.shows shows).0 in
    let V : Parts → Type 0 = λ p. Valid p in
    let valid : Valid setup.start = subst V recorded.game_is.start_is recorded.text_is.is_game.start in
    let past : past_of recorded.events ≡ events_of (reverse events) =
    ap past_of same ∙ sym (map-reverse (λ (t : Timed). t.event) events) in
    let G : List Event → Type 0 = λ p. IsGameOf recorded.game setting setup.tags p in
    let short = reversed (λ x. x.offset < limit) events (offsets_inside bytes events rest within shows) in
    let given = gives setting setup.tags (reverse events) lines recorded.game valid short watches (subst G past recorded.game_is) in
    let A : List ℕ → Type 0 = λ t. Appends told told' (t ++ rest_line rest) in
    (lines, rest, subst A text_is appends, given.0, given.1)

-- The game of the woven bytes has the score that the bytes give with their pairs.
pub one_score : ShowsOnce → FoldsOnce → (setup : Setup) (report : Report) (bytes woven text : List ℕ) (sent sent' written written' : Option (List ℕ)) → Valid setup.start
    → (w : Recovers (setting_of setup) bytes woven text) (r : RecordsGame setup report woven sent sent' written written') → w.score ≡ score_of r.game.plies r.game_is.sign
one_score once one setup report bytes woven text sent sent' written written' valid w r =
    let setting = setting_of setup in
    let same : w.written ≡ r.events = (once woven w.written r.events w.rest r.rest w.shown r.shows).0 in
    one setup.start (deduplicated (entries_in setting (past_of r.events))) w.score (score_of r.game.plies r.game_is.sign) valid
    (subst (λ (es : List Timed). Folds setup.start (deduplicated (entries_in setting (past_of es))) w.score) same w.game) r.game_is.folds

pub records_shown_or_told : ShowsOnce → FoldsOnce → PliesAreShownOrTold → RecordsShownOrTold
records_shown_or_told once one each setup report bytes woven text sent sent' written written' valid w r =
    subst (λ (s : Score). AreShownOrTold (setting_of setup) s.plies (past_of w.events) text)
    (one_score once one setup report bytes woven text sent sent' written written' valid w r) (each (setting_of setup) bytes woven text valid w)

pub records_recovered : ShowsOnce → FoldsOnce → RecordsRecovered
records_recovered once one setup report bytes woven text sent sent' written written' valid r game =
    let setting = setting_of setup in
    record {
      events = r.events;
      rest = r.rest;
      shows = r.shows;
      sign = game.game_is.sign;
      waiting = r.waiting;
      folds = subst (λ (s : Score). FoldsRecovering setup.start (deduplicated (entries_in setting (past_of r.events))) s r.waiting)
          (one_score once one setup report bytes woven text sent sent' written written' valid r game) r.recovers;
      result_is = game.game_is.result_is;
    }
