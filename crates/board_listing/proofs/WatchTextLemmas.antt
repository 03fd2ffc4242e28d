-- The text of `watch` tells its lines, and those give the game.
use Rattle.std.proofs.Common.{◌≡◌, ◌∙◌, ◌<◌, inl, inr, ℕ, Bool, true, false, List, [], ◌∷◌, ◌++◌, codes, reverse, Option, Some, None, ap, refl, sym, subst, arith}
use Rattle.std.specs.List.{AllByRecursion, flat_map}
use Rattle.std.proofs.lemmas.List.{reverse-reverse}
use Rattle.std.proofs.lemmas.List.Elements.{recursion_from_All}
use Rattle.chess_clock.specs.declared.Hms.{Hms}
use Rattle.chess_clock.specs.declared.Reading.{Reading}
use Rattle.chess_rules.specs.declared.parts.Parts.{Parts}
use Rattle.chess_rules.specs.Valid.{Valid}
use Rattle.chess_text.specs.Fen.{fen}
use Rattle.chess_text.specs.Laws.{FensArePlain, IsFenByte, TextsArePlain}
use Rattle.chess_text.specs.Placement.{placement}
use Rattle.chess_text.proofs.FenTexts.{All-append}
use Rattle.chess_text.proofs.PlacementBytes.{IsPlacementByte, placement_bytes}
use Rattle.dgt_frame.specs.declared.events.Event.{Event}
use Rattle.dgt_frame.specs.Streams.{Timed}
use Rattle.settle_core.specs.declared.plies.Outcome.{Outcome}
use Rattle.settle_core.specs.declared.plies.Ply.{Ply}
use Rattle.settle_core.specs.Entries.{deduplicated}
use Rattle.settle_core.specs.Folding.{Score, moves_of, score_of}
use Rattle.settle_core.specs.GameResult.{IsResult}
use Rattle.settle_core.specs.Settling.{position_after, reached}
use Rattle.settle_core.proofs.Lists.{position_in_order}
use Rattle.settle_core.proofs.Once.{folds_once, folds_played}
use Rattle.settle_core.proofs.Stages.{valid_reached}
use Rattle.board_events.specs.Limits.{limit}
use Rattle.board_events.specs.Session.{entries_in}
use Rattle.board_events.specs.Settings.{Setting}
use Rattle.board_listing.specs.GameLines.{time_text}
use Rattle.board_listing.specs.GameText.{HasResult, reached_by}
use Rattle.board_listing.specs.GivenGame.{AreInStream, GameLine, Gives}
use Rattle.board_listing.specs.WatchLaws.{FitInStream, WatchLinesGiveTheGame, WatchTextTellsItsLines, game_lines}
use Rattle.board_listing.specs.WatchLines.{picture_words, position_words, reading_words, tells_change}
use Rattle.board_listing.specs.WatchText.{ShowsPicture, ShowsReading, Watches, WatchesEvent, with_position}
use Rattle.board_listing.proofs.TextLemmas.{IsLine, IsPrinted, Printed, both, clock_printed, fixed, texts_once, weaker}
use Rattle.board_listing.proofs.WatchLawLemmas.{events_of, with_if}
use Rattle.board_listing.proofs.WatchPositionLemmas.{followed_in, named}

-- ---- the words that `watch` adds

position_printed : FensArePlain → (p : Parts) → Valid p → Printed (position_words p)
position_printed plain p valid =
    both (codes "position ") (fen p) (fixed (codes "position ") refl) (weaker IsFenByte IsPrinted (λ byte is. is.0) (fen p) (recursion_from_All IsFenByte (fen p) (plain p valid).bytes))

placement_byte : (byte : ℕ) → IsPlacementByte byte → IsPrinted byte
placement_byte byte is = let low : 41 < byte = is.0 in omega (arith, low)

picture_printed : (picture : List ℕ) → Printed (picture_words picture)
picture_printed picture =
    both (codes "picture ") (placement picture) (fixed (codes "picture ") refl)
    (weaker IsPlacementByte IsPrinted placement_byte (placement picture) (recursion_from_All IsPlacementByte (placement picture) (placement_bytes picture).bytes))

time_printed : (time : Hms) → Printed (time_text time)
time_printed time = let words : Printed (codes " " ++ time_text time) = clock_printed (Some time) in words.1

reading_printed : (reading : Option Reading) → Printed (reading_words reading)
reading_printed None = fixed (codes "clock --:--:-- --:--:--") refl
reading_printed (Some reading) =
    let second : Printed (codes " " ++ time_text reading.black) = clock_printed (Some reading.black) in
    both (codes "clock ") (time_text reading.white ++ codes " " ++ time_text reading.black) (fixed (codes "clock ") refl)
    (both (time_text reading.white) (codes " " ++ time_text reading.black) (time_printed reading.white) second)

-- ---- lines

abbrev Lines : List GameLine → Type 0
Lines lines = AllByRecursion IsLine lines

pictured_lines : (offset : ℕ) (old new : List (List ℕ)) (lines : List GameLine) → offset < limit → ShowsPicture offset old new lines → Lines lines
pictured_lines offset old new lines low (inl (same, none)) = subst Lines (sym none) tt
pictured_lines offset old new lines low (inr (picture, newest, is)) = subst Lines (sym is) ((low, picture_printed picture), tt)

timed_lines : (offset : ℕ) (old new : Option Reading) (lines : List GameLine) → offset < limit → ShowsReading offset old new lines → Lines lines
timed_lines offset old new lines low (inl (same, none)) = subst Lines (sym none) tt
timed_lines offset old new lines low (inr (other, is)) = subst Lines (sym is) ((low, reading_printed new), tt)

lines_placed : (p : Parts) (told : GameLine) (rest : List GameLine) (change : Bool) → Printed (position_words p) → IsLine told → Lines rest → Lines (with_if p told change ++ rest)
lines_placed p told rest true words is h = ((is.0, words), (is, h))
lines_placed p told rest false words is h = (is, h)

followed_lines : (p : Parts) (followed : List GameLine) → Printed (position_words p) → Lines followed → Lines (flat_map (with_position p) followed)
followed_lines p [] words h = tt
followed_lines p (told ∷ earlier) words h = lines_placed p told (flat_map (with_position p) earlier) (tells_change told.words) words h.0 (followed_lines p earlier words h.1)

event_lines : FensArePlain → (setting : Setting) (past : List Event) (x : Timed) (lines : List GameLine) → Valid setting.start → x.offset < limit → WatchesEvent setting past x lines → Lines lines
event_lines plain setting past x lines valid low e =
    let p = reached_by setting.start e.score in
    let placed = flat_map (with_position p) e.followed in
    let here : Valid p = valid_reached setting.start (moves_of e.score.plies) valid (folds_played setting.start (deduplicated (entries_in setting (x.event ∷ past))) e.score e.folds) in
    subst Lines (sym e.lines_are)
    (All-append IsLine e.timed (placed ++ e.pictured) (timed_lines x.offset _ _ e.timed low e.reading_is)
    (All-append IsLine placed e.pictured (followed_lines p e.followed (position_printed plain p here) (followed_in x.offset e.followed low e.each))
    (pictured_lines x.offset _ _ e.pictured low e.picture_is)))

pub watched_lines : FensArePlain → (setting : Setting) (events : List Timed) (lines : List GameLine) → Valid setting.start → FitInStream events → Watches setting events lines → Lines lines
watched_lines plain setting [] lines valid short is = subst Lines (sym is) ((omega arith, position_printed plain setting.start valid), tt)
watched_lines plain setting (x ∷ past) lines valid short (before, more, watches, e, lines_are) =
    subst Lines (sym lines_are)
    (All-append IsLine more before (event_lines plain setting (events_of past) x more valid short.0 e) (watched_lines plain setting past before valid short.1 watches))

pub watch_text_tells_its_lines : FensArePlain → WatchTextTellsItsLines
watch_text_tells_its_lines plain setting begin events others lines told last end valid valid' short short' watches watches' ends ends' e =
    texts_once lines told last end (watched_lines plain setting events lines valid short watches) (watched_lines plain begin others told valid' short' watches') ends ends' e

-- ---- the game

in_stream : (lines : List GameLine) → Lines lines → AreInStream lines
in_stream [] h = tt
in_stream (told ∷ earlier) h = (h.0.0, in_stream earlier h.1)

pub watch_lines_give_the_game : TextsArePlain → FensArePlain → WatchLinesGiveTheGame
watch_lines_give_the_game law plain setting tags events lines game valid short watches is =
    let start = setting.start in
    let g = named law setting valid events lines short watches in
    let wanted = score_of game.plies is.sign in
    let same : g.score ≡ wanted = folds_once start (deduplicated (entries_in setting (events_of events))) g.score wanted valid g.folds is.folds in
    let P : Score → Type 0 = λ s. (outcome : Option Outcome) → HasResult start s outcome → Gives start (game_lines lines) s.plies outcome in
    let at : position_after start (moves_of game.plies) ≡ reached start (moves_of (reverse game.plies)) =
    ap (λ (ps : List Ply). position_after start (moves_of ps)) (sym (reverse-reverse game.plies)) ∙ position_in_order start (reverse game.plies) in
    let R : Parts → Type 0 = λ p. IsResult p is.sign game.result in
    (subst P same g.told game.result (subst R at is.result_is), in_stream lines (watched_lines plain setting events lines valid short watches))
