-- The game of a list of events.
use Rattle.std.proofs.Common.{◌≡◌, ◌+◌, ◌≤◌, Bool, true, false, List, [], ◌∷◌, length, reverse, Option, Some, None, ◌++◌, refl, sym, ap, subst, ◌∙◌, arith}
use Rattle.std.proofs.lemmas.List.{append-nil, length-reverse, reverse-reverse}
use Rattle.chess_rules.specs.declared.parts.Parts.{Parts}
use Rattle.chess_rules.specs.Valid.{Valid}
use Rattle.dgt_frame.specs.declared.events.Event.{Event}
use Rattle.settle_core.specs.declared.plies.Ply.{Ply}
use Rattle.settle_core.specs.declared.plies.Outcome.{Outcome}
use Rattle.settle_core.specs.Entries.{Entry, repeats, deduplicated}
use Rattle.settle_core.specs.Folding.{Folds, Score, moves_of, score_of}
use Rattle.settle_core.specs.Laws.{GivesScore, joined}
use Rattle.settle_core.specs.Settling.{position_after}
use Rattle.settle_core.proofs.Fronts.{honest_stops}
use Rattle.settle_core.proofs.Lines.{honest_clocks, honest_play}
use Rattle.settle_core.proofs.Waiting.{kings_end}
use Rattle.settle_core.specs.HonestPlay.{HasWhole, shown_plies}
use Rattle.settle_core.proofs.Once.{folds_once, no_entry_gives_two}
use Rattle.chess_game.specs.Games.{Result}
use Rattle.board_events.specs.Entries.{entry_at, is_entry}
use Rattle.board_session.specs.Laws.{EventsTellTheGame, HonestClocksAreRecorded, HonestPlayIsRecorded, HonestStopIsRecorded, KingsEndIsRecorded, NoEventGivesTwo}
use Rattle.board_events.specs.Settings.{Setting}
use Rattle.board_events.proofs.GameLemmas.{one_result}
use Rattle.board_events.specs.Session.{entries_in}
use Rattle.pgn_book.proofs.OneText.{same_game}

pub events_tell_the_game : EventsTellTheGame
events_tell_the_game setting tags past one other valid h k =
    let score = folds_once setting.start (deduplicated (entries_in setting past)) (score_of one.plies h.sign) (score_of other.plies k.sign) valid h.folds k.folds in
    let plies : one.plies ≡ other.plies = sym (reverse-reverse one.plies) ∙ ap (λ (s : Score). reverse s.plies) score ∙ reverse-reverse other.plies in
    let sign : h.sign ≡ k.sign = ap (λ (s : Score). s.sign) score in
    let result : Result setting.start one.plies k.sign other.result = rw plies k.result_is in
    same_game one other (h.tags_are ∙ sym k.tags_are) (h.start_is ∙ sym k.start_is) plies
    (one_result (position_after setting.start (moves_of one.plies)) k.sign one.result other.result (rw (← sign) h.result_is) result)

length-score_of : (plies : List Ply) (sign : Option Outcome) → length (score_of plies sign).plies ≡ length plies
length-score_of plies sign = length-reverse plies

-- the entries with one more, deduplicated
added : (start : Parts) (entry : Entry) (past : List Entry) (before score : Score) (again : Bool) → repeats entry.picture past ≡ again → Valid start
    → Folds start (deduplicated past) before → Folds start (deduplicated (entry ∷ past)) score → length score.plies ≤ length before.plies + 1
added start entry past before score true e valid h k =
    let same : deduplicated (entry ∷ past) ≡ deduplicated past = rw e refl in
    let one : score ≡ before = folds_once start (deduplicated past) score before valid (rw same at k) h in
    rw one (omega arith)
added start entry past before score false e valid h k =
    let more : deduplicated (entry ∷ past) ≡ entry ∷ deduplicated past = rw e refl in
    no_entry_gives_two start entry (deduplicated past) before score valid h (rw more at k)

added_event : (setting : Setting) (past : List Event) (event : Event) (before score : Score) (given : Bool) → is_entry event past ≡ given → Valid setting.start
    → Folds setting.start (deduplicated (entries_in setting past)) before → Folds setting.start (deduplicated (entries_in setting (event ∷ past))) score
    → length score.plies ≤ length before.plies + 1
added_event setting past event before score true e valid h k =
    let entry = entry_at setting.first setting.rotated (event ∷ past) in
    let are : entries_in setting (event ∷ past) ≡ entry ∷ entries_in setting past = rw e refl in
    added setting.start entry (entries_in setting past) before score (repeats entry.picture (entries_in setting past)) refl valid h (rw are at k)
added_event setting past event before score false e valid h k =
    let are : entries_in setting (event ∷ past) ≡ entries_in setting past = rw e refl in
    let one : score ≡ before = folds_once setting.start (deduplicated (entries_in setting past)) score before valid (rw are at k) h in
    rw one (omega arith)

pub no_event_gives_two : NoEventGivesTwo
no_event_gives_two setting tags past event before game valid h k =
    omega (
      arith,
      added_event setting past event (score_of before.plies h.sign) (score_of game.plies k.sign) (is_entry event past) refl valid h.folds k.folds,
      length-score_of before.plies h.sign,
      length-score_of game.plies k.sign,
    )

pub honest_play_is_recorded : HonestPlayIsRecorded
honest_play_is_recorded setting tags past game moves lists valid line shown are is =
    let folds : GivesScore setting.start (joined lists) (score_of game.plies is.sign) = rw are at is.folds in
    let honest = honest_play setting.start moves lists valid line shown in
    let none : is.sign ≡ None = honest.1 (joined lists) [] (score_of game.plies is.sign) (sym (append-nil (joined lists))) folds in (
      ap moves_of (sym (reverse-reverse game.plies)) ∙ honest.0 (score_of game.plies is.sign) folds,
      rw (← none) is.result_is,
    )

pub honest_clocks_are_recorded : HonestClocksAreRecorded
honest_clocks_are_recorded setting tags past game moves lists valid line shown are is =
    let plies : List Ply = shown_plies setting.start moves lists in
    let folds : GivesScore setting.start (joined lists) (score_of game.plies is.sign) = rw are at is.folds in
    let one : score_of game.plies is.sign ≡ score_of plies None =
    honest_clocks setting.start moves lists (score_of game.plies is.sign) valid line shown folds in
    sym (reverse-reverse game.plies) ∙ ap (λ (s : Score). reverse s.plies) one ∙ reverse-reverse plies

pub honest_stop_is_recorded : HonestStopIsRecorded
honest_stop_is_recorded setting tags past game moves lists part valid line shown passes are is =
    let folds : GivesScore setting.start (joined lists ++ part) (score_of game.plies is.sign) = rw are at is.folds in
    let stops = honest_stops setting.start moves lists part (score_of game.plies is.sign) valid line shown passes folds in
    let P : List Ply → Type 0 = λ ps. HasWhole setting.start moves lists part ps in
    let R : Option Outcome → Type 0 = λ sign. Result setting.start game.plies sign game.result in
    (subst P (reverse-reverse game.plies) stops.1, subst R stops.0 is.result_is)

pub kings_end_is_recorded : KingsEndIsRecorded
kings_end_is_recorded setting tags past game moves lists clearing later kings outcome valid line shown a k b are is =
    let plies : List Ply = shown_plies setting.start moves lists in
    let folds : GivesScore setting.start (joined lists ++ (clearing ++ kings ∷ later)) (score_of game.plies is.sign) = rw are at is.folds in
    let one : score_of game.plies is.sign ≡ score_of plies (Some outcome) =
    kings_end setting.start moves lists clearing later kings outcome (score_of game.plies is.sign) valid line shown a k b folds in
    let R : Option Outcome → Type 0 = λ sign. Result setting.start game.plies sign game.result in (
      sym (reverse-reverse game.plies) ∙ ap (λ (s : Score). reverse s.plies) one ∙ reverse-reverse plies,
      subst R (ap (λ (s : Score). s.sign) one) is.result_is,
    )
