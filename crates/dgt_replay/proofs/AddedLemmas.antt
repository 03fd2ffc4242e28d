-- What `record` makes of a capture to which a typed line was added.
use Rattle.std.proofs.Common.{◌≡◌, ◌∙◌, ℕ, List, ◌++◌, Option, ap, append-nil, false, true, reverse, subst, sym}
use Rattle.std.proofs.lemmas.List.{reverse-reverse}
use Rattle.adding.specs.Making.{plies_with, sign_with}
use Rattle.adding.specs.Stays.{HasGame}
use Rattle.adding.specs.declared.adding.Answer.TheVariants.{Added, Refused}
use Rattle.board_events.specs.declared.setup.Setup.{Setup}
use Rattle.board_events.specs.Commands.{past_of}
use Rattle.board_events.specs.Session.{entries_in}
use Rattle.board_events.specs.Settings.{setting_of}
use Rattle.board_session.specs.declared.report.Report.{Report}
use Rattle.board_session.specs.Recording.{RecordsGame}
use Rattle.chess_rules.specs.Valid.{Valid}
use Rattle.dgt_frame.specs.declared.events.Event.{Event}
use Rattle.dgt_frame.specs.Streams.{Shows, Timed}
use Rattle.settle_core.specs.declared.plies.Outcome.{Outcome}
use Rattle.settle_core.specs.declared.plies.Ply.{Ply}
use Rattle.settle_core.specs.Entries.{deduplicated}
use Rattle.settle_core.specs.Folding.{Folds, Score, score_of}
use Rattle.settle_core.specs.Laws.{FoldsOnce}
use Rattle.unseen_pairs.specs.Laws.{RecoversOnce}
use Rattle.dgt_replay.specs.Added.{AddedLinesAreRecorded, AddedLinesAreRecovered}
use Rattle.dgt_replay.proofs.RecoveredLemmas.{recovered_score}

abbrev ShowsOnce : Type 0
ShowsOnce = (bytes : List ℕ) (events others : List Timed) (rest other : ℕ) → Shows bytes events rest → Shows bytes others other → (events ≡ others) × (rest ≡ other)

-- The game of bytes is the one that is recorded of them.
one_game : ShowsOnce → FoldsOnce → (setup : Setup) (report : Report) (bytes : List ℕ) (plies : List Ply) (sign : Option Outcome) (sent sent' written written' : Option (List ℕ)) → Valid setup.start
    → HasGame (setting_of setup) false bytes plies sign → (r : RecordsGame setup report bytes sent sent' written written') → score_of plies sign ≡ score_of r.game.plies r.game_is.sign
one_game once one setup report bytes plies sign sent sent' written written' valid game r =
    let setting = setting_of setup in
    let read = game.1.0 in
    let same : read.0 ≡ r.events = (once bytes read.0 r.events read.1 r.rest read.2 r.shows).0 in
    let here : game.0 ≡ past_of r.events = read.3 ∙ ap past_of same in
    let F : List Event → Type 0 = λ past. Folds setup.start (deduplicated (entries_in setting past)) (score_of plies sign) in
    one setup.start (deduplicated (entries_in setting (past_of r.events))) (score_of plies sign) (score_of r.game.plies r.game_is.sign) valid (subst F here game.2) r.game_is.folds

same_plies : (a b : List Ply) (s t : Option Outcome) → score_of a s ≡ score_of b t → b ≡ a
same_plies a b s t same = sym (reverse-reverse b) ∙ ap (λ (x : Score). reverse x.plies) (sym same) ∙ reverse-reverse a

same_sign : (a b : List Ply) (s t : Option Outcome) → score_of a s ≡ score_of b t → t ≡ s
same_sign a b s t same = ap (λ (x : Score). x.sign) (sym same)

pub added_lines : ShowsOnce → FoldsOnce → AddedLinesAreRecorded
added_lines once one setup report capture line (Added told added) sent sent' written written' valid is yes_added r =
    let said = is.4.0 in
    let plies = plies_with is.1 said in
    let sign = sign_with said in
    let stays = is.4.2.2.2 in
    let B : List ℕ → Type 0 = λ bs. HasGame (setting_of setup) false (capture ++ bs) plies sign in
    let same = one_game once one setup report (capture ++ added.items) plies sign sent sent' written written' valid (subst B (append-nil added.items) stays.at_once) r in
    (is.1, is.2, (is.0, is.3.read, is.3.score), (said, is.4.1, same_plies plies r.game.plies sign r.game_is.sign same, same_sign plies r.game.plies sign r.game_is.sign same))
added_lines once one setup report capture line (Refused told reason) sent sent' written written' valid is never r = absurd never

pub recovered_lines : ShowsOnce → FoldsOnce → RecoversOnce → AddedLinesAreRecovered
recovered_lines shows one once setup report capture line woven text (Added told added) sent sent' written written' valid is yes_added recovers r =
    let said = is.4.0 in
    let plies = plies_with is.1 said in
    let sign = sign_with said in
    let stays = is.4.2.2.2 in
    let B : List ℕ → Type 0 = λ bs. HasGame (setting_of setup) true (capture ++ bs) plies sign in
    let game = subst B (append-nil added.items) stays.at_once in
    let same = recovered_score shows one once setup report (capture ++ added.items) woven text game.0 (score_of plies sign) sent sent' written written' valid game.1 game.2 recovers r in
    (is.1, is.2, (is.0, is.3.read, is.3.score), (said, is.4.1, same_plies plies r.game.plies sign r.game_is.sign same, same_sign plies r.game.plies sign r.game_is.sign same))
recovered_lines shows one once setup report capture line woven text (Refused told reason) sent sent' written written' valid is never recovers r = absurd never
