-- What a report has more consists of its lines.
use Rattle.std.proofs.Common.{◌≡◌, ◌<◌, inl, inr, ℕ, Bool, true, false, List, [], ◌∷◌, ◌++◌, decimal, map, Option, Some, None, refl, sym, ap, ◌∙◌, subst, arith}
use Rattle.std.specs.Prelude.{codes, ⊤}
use Rattle.std.specs.List.{AllByRecursion, flat_map}
use Rattle.std.proofs.lemmas.List.{append_assoc, append-nil}
use Rattle.std.proofs.lemmas.List.Elements.{recursion_from_All}
use Rattle.chess_clock.specs.declared.times.Hms.{Hms}
use Rattle.chess_clock.specs.declared.times.Reading.{Reading}
use Rattle.chess_rules.specs.declared.chess_move.Move.{Move}
use Rattle.chess_rules.specs.declared.parts.Parts.{Parts}
use Rattle.chess_rules.specs.declared.pieces.Side.{Side}
use Rattle.chess_rules.specs.declared.pieces.Side.TheVariants.{White, Black}
use Rattle.chess_rules.specs.Legal.{Legal}
use Rattle.chess_rules.specs.Valid.{Valid}
use Rattle.chess_rules.proofs.LawLemmas.{moves_stay_valid}
use Rattle.chess_text.specs.Fen.{fen}
use Rattle.chess_text.specs.Laws.{FensArePlain, IsFenByte, IsSanByte, TextsArePlain}
use Rattle.chess_text.specs.Placement.{placement}
use Rattle.chess_text.specs.San.{San}
use Rattle.chess_text.proofs.FenTexts.{All-append}
use Rattle.chess_text.proofs.PlacementBytes.{IsPlacementByte, placement_bytes}
use Rattle.dgt_frame.specs.declared.events.Event.{Event}
use Rattle.dgt_frame.specs.Streams.{Timed}
use Rattle.settle_core.specs.Entries.{deduplicated}
use Rattle.settle_core.specs.Folding.{moves_of}
use Rattle.settle_core.specs.Settling.{Played, reached}
use Rattle.settle_core.proofs.Once.{folds_played}
use Rattle.settle_core.proofs.Stages.{valid_reached}
use Rattle.pgn_book.specs.Movetext.{number_token}
use Rattle.unseen_pairs.specs.declared.pair.Recovery.{Recovery}
use Rattle.unseen_pairs.specs.Pairs.{root}
use Rattle.unseen_pairs.proofs.Recovered.{is_written, written_folds}
use Rattle.pair_frames.specs.PutIn.{put_in}
use Rattle.recovery.specs.Keeping.{RecoversAt}
use Rattle.recovery.specs.Weaving.{TellsRecovered, recovered_words}
use Rattle.watched_streams.specs.Lines.{line}
use Rattle.board_events.specs.Commands.{past_of}
use Rattle.board_events.specs.Entries.{entry_at}
use Rattle.board_events.specs.Session.{entries_in}
use Rattle.board_events.specs.Settings.{Setting}
use Rattle.board_listing.specs.GameLines.{time_text}
use Rattle.board_listing.specs.GameText.{reached_by}
use Rattle.board_listing.specs.GivenGame.{GameLine, text_of}
use Rattle.board_listing.specs.WatchLines.{picture_words, position_words, reading_words, tells_change}
use Rattle.board_listing.specs.WatchText.{IsGameLine, ShowsPicture, ShowsReading, WatchesEvent, with_position}
use Rattle.board_listing.proofs.TextLemmas.{IsPrinted, Printed, both, clock_printed, fixed, weaker}
use Rattle.board_listing.proofs.WatchLawLemmas.{with_if}
use Rattle.board_alarms.specs.declared.chunk.Chunk.{Chunk}
use Rattle.board_game.specs.History.{Adds, Bytes, Came, Finds, Item, Makes, News, Noted, Pair, Sent, events_of, put_in_with, with_events, with_found}
use Rattle.board_game.specs.Report.{IsReport, Reports}
use Rattle.live_lines.specs.Laws.{HasLines, IsPrinted as IsOfALine, ReportLine, report_text}
use Rattle.live_lines.proofs.AnswerLemmas.{IsDigit, body, body_lacks_feed, decimal_digits, fed}
use Rattle.answer_lines.proofs.CutLemmas.{cut_once}

-- ---- texts of lines

report_append : (a b : List ReportLine) → report_text (a ++ b) ≡ report_text a ++ report_text b
report_append [] b = refl
report_append (told ∷ a) b =
    ap (λ t. line told.offset told.words ++ t) (report_append a b) ∙ sym (append_assoc (line told.offset told.words) (report_text a) (report_text b))

join : (a b : List ℕ) → HasLines a → HasLines b → HasLines (a ++ b)
join a b h k = (h.0 ++ k.0, ap (λ t. t ++ b) h.1 ∙ ap (λ t. report_text h.0 ++ t) k.1 ∙ sym (report_append h.0 k.0))

stays_printed : (byte : ℕ) → IsPrinted byte → IsOfALine byte
stays_printed byte high = omega (arith, high)

one_line : (offset : ℕ) (words : List ℕ) → Printed words → HasLines (line offset words)
one_line offset words printed =
    let told : ReportLine = record { offset = offset; words = words; one = weaker IsPrinted IsOfALine stays_printed words printed } in
    (told ∷ [], sym (append-nil (line offset words)))

abbrev AreTold : List GameLine → Type 0
AreTold lines = AllByRecursion (λ told. Printed told.words) lines

game_lines : (lines : List GameLine) → AreTold lines → HasLines (text_of lines)
game_lines [] h = ([], refl)
game_lines (told ∷ earlier) h = join (text_of earlier) (line told.offset told.words) (game_lines earlier h.1) (one_line told.offset told.words h.0)

never_nil : (text : List ℕ) (byte : ℕ) (more : List ℕ) → text ++ byte ∷ more ≡ [] → ⊥
never_nil [] byte more e = absurd cc
never_nil (first ∷ text) byte more e = absurd cc

-- What stands behind some lines, and before the end of others, is lines.
rest_lines : (a b : List ReportLine) (more : List ℕ) → report_text a ++ more ≡ report_text b → HasLines more
rest_lines [] b more e = (b, e)
rest_lines (l ∷ a) [] more e = absurd (never_nil (body l) 10 (report_text a ++ more) (sym (fed l (report_text a) more) ∙ e))
rest_lines (l ∷ a) (m ∷ b) more e =
    let cut = cut_once 10 (body l) (report_text a ++ more) (body m) (report_text b) (body_lacks_feed l) (body_lacks_feed m)
    (sym (fed l (report_text a) more) ∙ e ∙ append_assoc (body m) (10 ∷ []) (report_text b)) in
    rest_lines a b more cut.1

-- ---- words

position_printed : FensArePlain → (p : Parts) → Valid p → Printed (position_words p)
position_printed plain p valid =
    both (codes "position ") (fen p) (fixed (codes "position ") refl) (weaker IsFenByte IsPrinted (λ byte is. is.0) (fen p) (recursion_from_All IsFenByte (fen p) (plain p valid).bytes))

placement_byte : (byte : ℕ) → IsPlacementByte byte → IsPrinted byte
placement_byte byte is = let low : 41 < byte = is.0 in omega (arith, low)

picture_printed : (picture : List ℕ) → Printed (picture_words picture)
picture_printed picture =
    both (codes "picture ") (placement picture) (fixed (codes "picture ") refl)
    (weaker IsPlacementByte IsPrinted placement_byte (placement picture) (recursion_from_All IsPlacementByte (placement picture) (placement_bytes picture).bytes))

time_printed : (time : Hms) → Printed (time_text time)
time_printed time = let words : Printed (codes " " ++ time_text time) = clock_printed (Some time) in words.1

reading_printed : (reading : Option Reading) → Printed (reading_words reading)
reading_printed None = fixed (codes "clock --:--:-- --:--:--") refl
reading_printed (Some reading) =
    let second : Printed (codes " " ++ time_text reading.black) = clock_printed (Some reading.black) in
    both (codes "clock ") (time_text reading.white ++ codes " " ++ time_text reading.black) (fixed (codes "clock ") refl)
    (both (time_text reading.white) (codes " " ++ time_text reading.black) (time_printed reading.white) second)

digit_printed : (byte : ℕ) → IsDigit byte → IsPrinted byte
digit_printed byte is = let low : 47 < byte = is.0 in omega (arith, low)

number_printed : (n : ℕ) → Printed (decimal n)
number_printed n = weaker IsDigit IsPrinted digit_printed (decimal n) (decimal_digits n)

token_printed : (side : Side) (n : ℕ) → Printed (number_token side n)
token_printed White n = both (decimal n) (codes ".") (number_printed n) (fixed (codes ".") refl)
token_printed Black n = both (decimal n) (codes "...") (number_printed n) (fixed (codes "...") refl)

san_byte : (byte : ℕ) → IsSanByte byte → IsPrinted byte
san_byte byte is = let low : 32 < byte = is.0 in omega (arith, low)

san_printed : TextsArePlain → (p : Parts) (m : Move) (san : List ℕ) → Valid p → Legal p m → San p m san → Printed san
san_printed plain p m san valid legal is = weaker IsSanByte IsPrinted san_byte san (recursion_from_All IsSanByte san (plain p m san valid legal is).bytes)

-- ---- the lines of an event

pictured_told : (offset : ℕ) (old new : List (List ℕ)) (lines : List GameLine) → ShowsPicture offset old new lines → AreTold lines
pictured_told offset old new lines (inl (same, none)) = subst AreTold (sym none) tt
pictured_told offset old new lines (inr (picture, newest, is)) = subst AreTold (sym is) (picture_printed picture, tt)

timed_told : (offset : ℕ) (old new : Option Reading) (lines : List GameLine) → ShowsReading offset old new lines → AreTold lines
timed_told offset old new lines (inl (same, none)) = subst AreTold (sym none) tt
timed_told offset old new lines (inr (other, is)) = subst AreTold (sym is) (reading_printed new, tt)

placed_told : (p : Parts) (told : GameLine) (rest : List GameLine) (change : Bool) → Printed (position_words p) → Printed told.words → AreTold rest
    → AreTold (with_if p told change ++ rest)
placed_told p told rest true words is h = (words, (is, h))
placed_told p told rest false words is h = (is, h)

followed_told : (p : Parts) (offset : ℕ) (lines : List GameLine) → Printed (position_words p) → AllByRecursion (IsGameLine offset) lines
    → AreTold (flat_map (with_position p) lines)
followed_told p offset [] words h = tt
followed_told p offset (told ∷ earlier) words h =
    placed_told p told (flat_map (with_position p) earlier) (tells_change told.words) words (h.0).one (followed_told p offset earlier words h.1)

event_told : FensArePlain → (setting : Setting) (past : List Event) (x : Timed) (lines : List GameLine) → Valid setting.start
    → WatchesEvent setting past x lines → AreTold lines
event_told plain setting past x lines valid e =
    let p = reached_by setting.start e.score in
    let placed = flat_map (with_position p) e.followed in
    let here : Valid p = valid_reached setting.start (moves_of e.score.plies) valid
    (folds_played setting.start (deduplicated (entries_in setting (x.event ∷ past))) e.score e.folds) in
    subst AreTold (sym e.lines_are)
    (All-append (λ (told : GameLine). Printed told.words) e.timed (placed ++ e.pictured) (timed_told x.offset _ _ e.timed e.reading_is)
    (All-append (λ (told : GameLine). Printed told.words) placed e.pictured (followed_told p x.offset e.followed (position_printed plain p here) e.each)
    (pictured_told x.offset _ _ e.pictured e.picture_is)))

-- ---- the line of a pair

-- Both plies are legal, where they stand, in valid positions.
pub record IsGood (r : Recovery) : Type 0 where
  pub before : Valid r.before
  pub middle : Valid r.middle
  pub first : Legal r.before r.pair.first
  pub second : Legal r.middle r.pair.second

root_played : (start : Parts) (corrects : Bool) (moves : List Move) → Played start moves → Played start (root corrects moves)
root_played start false moves h = h
root_played start true [] h = tt
root_played start true (m ∷ moves) h = h.1

good_found : (setting : Setting) (past : List Event) (event : Event) (r : Recovery) → Valid setting.start → RecoversAt setting past event (Some r) → IsGood r
good_found setting past event r valid finds =
    let start : Parts = setting.start in
    let score = finds.1.1.0 in
    let moves : List Move = moves_of score.plies in
    let c = finds.1.1.3.1 in
    let two = (c.explains).explains.after_two in
    let w = (is_written start (deduplicated (entries_in setting past)) score finds.1.1.1).0 finds.1.1.2 in
    let played : Played start moves = folds_played start w.0 score
    (written_folds start (deduplicated (entries_in setting past)) w.0 score finds.1.1.1 valid w.1) in
    let here = valid_reached start (root r.pair.corrects moves) valid (root_played start r.pair.corrects moves played) in
    record {
      before = subst Valid (sym c.before_is) here;
      middle = subst Valid (sym c.middle_is) (moves_stay_valid (reached start (root r.pair.corrects moves)) r.pair.first here two.first);
      first = subst (λ (p : Parts). Legal p r.pair.first) (sym c.before_is) two.first;
      second = subst (λ (p : Parts). Legal p r.pair.second) (sym c.middle_is) two.second;
    }

eight : (a b c d e f : List ℕ) → Printed a → Printed b → Printed c → Printed d → Printed e → Printed f
    → Printed (a ++ b ++ c ++ d ++ c ++ e ++ c ++ f)
eight a b c d e f ha hb hc hd he hf =
    let s1 = both a b ha hb in
    let s2 = both (a ++ b) c s1 hc in
    let s3 = both (a ++ b ++ c) d s2 hd in
    let s4 = both (a ++ b ++ c ++ d) c s3 hc in
    let s5 = both (a ++ b ++ c ++ d ++ c) e s4 he in
    let s6 = both (a ++ b ++ c ++ d ++ c ++ e) c s5 hc in
    both (a ++ b ++ c ++ d ++ c ++ e ++ c) f s6 hf

pair_lines : TextsArePlain → (offset : ℕ) (r : Recovery) (text : List ℕ) → IsGood r → TellsRecovered offset r text → HasLines text
pair_lines plain offset r text good (san, reply, one, two, is) =
    subst HasLines (sym is)
    (one_line offset (recovered_words r.before san r.middle reply)
    (eight (codes "recovered ") (number_token r.before.side r.before.fullmove) (codes " ") san (number_token r.middle.side r.middle.fullmove) reply
    (fixed (codes "recovered ") refl) (token_printed r.before.side r.before.fullmove) (fixed (codes " ") refl)
    (san_printed plain r.before r.pair.first san good.before good.first one) (token_printed r.middle.side r.middle.fullmove)
    (san_printed plain r.middle r.pair.second reply good.middle good.second two)))

-- ---- all that is told

-- The pairs among the items are such.
abbrev pub AreGood : List Item → Type 0
AreGood [] = ⊤
AreGood (Sent time x ∷ items) = AreGood items
AreGood (Pair time offset r ∷ items) = IsGood r × AreGood items
AreGood (Noted time heard ∷ items) = AreGood items

good_events : (time : Chunk) (offset : ℕ) (events : List Event) (items : List Item) → AreGood items → AreGood (with_events time offset events items)
good_events time offset [] items h = h
good_events time offset (event ∷ events) items h =
    let x : Timed = record { offset = offset; event = event } in good_events time offset events (Sent time x ∷ items) h

abbrev is_some : Option Recovery → Bool
is_some None = false
is_some (Some r) = true

good_here : (setting : Setting) (recovers : Bool) (past : List Event) (time : Chunk) (x : Timed) (found : Option Recovery) (items : List Item) → Valid setting.start
    → AreGood items → Finds setting recovers past x.event found → AreGood (with_found setting past time x found items)
good_here setting recovers past time x None items valid h finds = h
good_here setting false past time x (Some r) items valid h finds = let never : true ≡ false = ap is_some finds in absurd cc
good_here setting true past time x (Some r) items valid h finds =
    good_events (put_in_with time) x.offset (put_in setting.first setting.rotated (entry_at setting.first setting.rotated (x.event ∷ past)) r)
    (Pair time x.offset r ∷ Sent time x ∷ items) (good_found setting past x.event r valid finds, h)

good_added : (setting : Setting) (recovers : Bool) (time : Chunk) (past : List Event) (more : List Timed) (before items : List Item) → Valid setting.start
    → AreGood before → Adds setting recovers time past more before items → AreGood items
good_added setting recovers time past [] before items valid h is = subst AreGood (sym is) h
good_added setting recovers time past (x ∷ more) before items valid h (earlier, found, adds, finds, is) =
    subst AreGood (sym is)
    (good_here setting recovers (map (λ t. t.event) more ++ past) time x found earlier valid
    (good_added setting recovers time past more before earlier valid h adds) finds)

pub good : (setting : Setting) (recovers : Bool) (past : List Came) (items : List Item) → Valid setting.start → Makes setting recovers past items → AreGood items
good setting recovers [] items valid is = subst AreGood (sym is) tt
good setting recovers (Bytes time bytes ∷ past) items valid (before, events, more, makes, shown, all, adds) =
    good_added setting recovers _ (past_of events) more before items valid (good setting recovers past before valid makes) adds
good setting recovers (News time heard ∷ past) items valid (before, makes, is) = subst AreGood (sym is) (good setting recovers past before valid makes)

told_lines : TextsArePlain → FensArePlain → (setting : Setting) (items : List Item) (text : List ℕ) → Valid setting.start → AreGood items
    → Reports setting items text → HasLines text
told_lines plain fens setting [] text valid h is =
    subst HasLines (sym is) (one_line 0 (position_words setting.start) (position_printed fens setting.start valid))
told_lines plain fens setting (Sent time x ∷ items) text valid h (before, lines, reports, watches, is) =
    subst HasLines (sym is)
    (join before (text_of lines) (told_lines plain fens setting items before valid h reports)
    (game_lines lines (event_told fens setting (events_of items) x lines valid watches)))
told_lines plain fens setting (Pair time offset r ∷ items) text valid h (before, more, reports, tells, is) =
    subst HasLines (sym is) (join before more (told_lines plain fens setting items before valid h.1 reports) (pair_lines plain offset r more h.0 tells))
told_lines plain fens setting (Noted time heard ∷ items) text valid h reports = told_lines plain fens setting items text valid h reports

report_lines : TextsArePlain → FensArePlain → (setting : Setting) (recovers : Bool) (past : List Came) (text : List ℕ) → Valid setting.start
    → IsReport setting recovers past text → HasLines text
report_lines plain fens setting recovers past text valid h =
    told_lines plain fens setting h.0 text valid (good setting recovers past h.0 valid h.1) h.2

pub have_lines : TextsArePlain → FensArePlain → (setting : Setting) (recovers : Bool) (past later : List Came) (text more : List ℕ) → Valid setting.start
    → IsReport setting recovers past text → IsReport setting recovers later (text ++ more) → HasLines more
have_lines plain fens setting recovers past later text more valid h k =
    let a = report_lines plain fens setting recovers past text valid h in
    let b = report_lines plain fens setting recovers later (text ++ more) valid k in
    rest_lines a.0 b.0 more (ap (λ t. t ++ more) (sym a.1) ∙ b.1)
