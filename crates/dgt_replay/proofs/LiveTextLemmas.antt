-- `live` beside `record`: the same events have one game, and a game has one text.
use Rattle.std.proofs.Common.{◌≡◌, ℕ, List, Option, reverse, sym, ap, subst, ◌∙◌}
use Rattle.std.specs.Io.KnownBytes.{Appends}
use Rattle.std.proofs.lemmas.List.{reverse-reverse}
use Rattle.chess_rules.specs.Valid.{Valid}
use Rattle.dgt_frame.specs.declared.events.Event.{Event}
use Rattle.settle_core.specs.declared.plies.Outcome.{Outcome}
use Rattle.settle_core.specs.declared.plies.Ply.{Ply}
use Rattle.settle_core.specs.Entries.{deduplicated}
use Rattle.settle_core.specs.Folding.{Score, moves_of, score_of}
use Rattle.settle_core.specs.Laws.{FoldsOnce}
use Rattle.settle_core.specs.Settling.{position_after}
use Rattle.chess_game.specs.Games.{Content, Result}
use Rattle.chess_game.specs.Values.{TagValues}
use Rattle.pgn_book.specs.Laws.{GamesTellTexts}
use Rattle.pgn_book.specs.Pgn.{Pgn}
use Rattle.pgn_book.proofs.OneText.{same_game}
use Rattle.board_events.specs.declared.setup.Setup.{Setup}
use Rattle.board_events.specs.Commands.{past_of}
use Rattle.board_events.specs.Game.{IsGameOf}
use Rattle.board_events.specs.Session.{entries_in}
use Rattle.board_events.specs.Settings.{Setting, setting_of}
use Rattle.board_events.proofs.GameLemmas.{one_result}
use Rattle.board_session.specs.declared.report.Report.{Report}
use Rattle.board_session.specs.Recording.{RecordsGame}
use Rattle.live_lines.specs.Laws.{TextsAreRecorded}
use Rattle.live_lines.specs.Recovered.{TextsAreRecovered}
use Rattle.dgt_replay.specs.LiveTexts.{LiveTextsAreRecorded, LiveTextsAreRecovered}

-- Events have one game.
one_game : FoldsOnce → (setting : Setting) (tags : TagValues) (past : List Event) (g h : Content) → Valid setting.start → IsGameOf g setting tags past → IsGameOf h setting tags past → g ≡ h
one_game once setting tags past g h valid i j =
    let score : score_of g.plies i.sign ≡ score_of h.plies j.sign =
    once setting.start (deduplicated (entries_in setting past)) (score_of g.plies i.sign) (score_of h.plies j.sign) valid i.folds j.folds in
    let plies : g.plies ≡ h.plies =
    sym (reverse-reverse g.plies) ∙ ap (λ (s : Score). reverse s.plies) score ∙ reverse-reverse h.plies in
    let sign : i.sign ≡ j.sign = ap (λ (s : Score). s.sign) score in
    let R : List Ply → Type 0 = λ ps. Result setting.start ps i.sign g.result in
    let S : Option Outcome → Type 0 = λ s. Result setting.start h.plies s g.result in
    let result : g.result ≡ h.result = one_result (position_after setting.start (moves_of h.plies)) j.sign g.result h.result (subst S sign (subst R plies i.result_is)) j.result_is in
    same_game g h (i.tags_are ∙ sym j.tags_are) (i.start_is ∙ sym j.start_is) plies result

-- So `record` writes the text of a game of these events.
one_text : FoldsOnce → GamesTellTexts → (setup : Setup) (report : Report) (bytes text : List ℕ) (game : Content) (sent sent' written written' : Option (List ℕ)) → Valid setup.start
    → (r : RecordsGame setup report bytes sent sent' written written') → IsGameOf game (setting_of setup) setup.tags (past_of r.events) → Pgn game text → Appends written written' text
one_text once texts setup report bytes text game sent sent' written written' valid r is pgn =
    let same : game ≡ r.game = one_game once (setting_of setup) setup.tags (past_of r.events) game r.game valid is r.game_is in
    let told : r.text ≡ text = texts r.game r.text text r.text_is (subst (λ (g : Content). Pgn g text) same pgn) in
    subst (λ ts. Appends written written' ts) told r.writes

pub texts_recorded : FoldsOnce → GamesTellTexts → TextsAreRecorded → LiveTextsAreRecorded
texts_recorded once texts recorded setup report past text sent sent' written written' valid is r =
    let given = recorded (setting_of setup) setup.tags past r.events text (r.rest, r.shows) is in
    one_text once texts setup report _ text given.0 sent sent' written written' valid r given.1 given.2

pub texts_recovered : FoldsOnce → GamesTellTexts → TextsAreRecovered → LiveTextsAreRecovered
texts_recovered once texts recovered setup report past woven lines text sent sent' written written' valid is w r =
    let given = recovered (setting_of setup) setup.tags past woven lines text r.events r.rest valid w r.shows is in
    one_text once texts setup report woven text given.0 sent sent' written written' valid r given.1 given.2
