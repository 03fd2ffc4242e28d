-- Two runs that are told the same write the same.
use Rattle.std.proofs.Common.{◌≡◌, ◌<◌, ◌≤◌, ℕ, zero, suc, Bool, false, List, [], ◌∷◌, ◌++◌, length, map, reverse, take, Option, Some, None, sym, ap, subst, ◌∙◌, append_assoc, append-nil, length-append, arith}
use Rattle.std.specs.Prelude.{⊤}
use Rattle.std.specs.List.{AllByRecursion}
use Rattle.std.proofs.lemmas.List.{reverse-reverse}
use Rattle.chess_rules.specs.Valid.{Valid}
use Rattle.chess_text.specs.Laws.{MovesTellTexts}
use Rattle.dgt_frame.specs.declared.events.Event.{Event}
use Rattle.dgt_frame.specs.Streams.{Timed}
use Rattle.unseen_pairs.specs.declared.pair.Recovery.{Recovery}
use Rattle.unseen_pairs.specs.Laws.{RecoversOnce}
use Rattle.pair_frames.specs.PutIn.{put_in}
use Rattle.recovery.specs.Weaving.{TellsRecovered, recovered_words}
use Rattle.watched_streams.specs.Lines.{line}
use Rattle.board_alarms.specs.declared.chunk.When.{When}
use Rattle.board_cable.specs.Silence.{is_silent}
use Rattle.board_cable.specs.Keeping.{kept}
use Rattle.board_cable.specs.Laws.{IsToldOnce}
use Rattle.board_cable.specs.Turns.{Turn, told}
use Rattle.board_events.specs.Commands.{past_of}
use Rattle.board_events.specs.Entries.{entry_at}
use Rattle.board_events.specs.Limits.{limit}
use Rattle.board_events.specs.Settings.{Setting, setting_of}
use Rattle.board_listing.specs.GivenGame.{GameLine, text_of}
use Rattle.board_listing.proofs.OffsetLemmas.{offsets_inside, reversed}
use Rattle.board_alarms.specs.declared.chunk.Chunk.{Chunk}
use Rattle.board_game.specs.declared.note.Note.{Note}
use Rattle.board_game.specs.History.{Adds, Bytes, Came, Item, Makes, News, Noted, Pair, Sent, bytes_of, events_of, put_in_with, room_of, with_events, with_found}
use Rattle.board_game.specs.Report.{IsReport, Reports}
use Rattle.board_game.proofs.OnceLemmas.{makes_once}
use Rattle.board_game.proofs.PlainLemmas.{ShowsOnce}
use Rattle.board_live.specs.Coming.{came, lined, silence, when, with_bytes, with_news}
use Rattle.board_live.specs.Moments.{Moment, already, cabled, is_added, news_of}
use Rattle.live_lines.specs.Meaning.{moments}
use Rattle.live_lines.specs.Once.{HasOneAnswer, HasOneReport, LaterChangesNothing, SaysOneThing}
use Rattle.live_lines.specs.Recorder.{IsAnswered}
use Rattle.live_lines.proofs.ReportLemmas.{AreGood, IsGood, good}
use Rattle.board_listing.proofs.SameTextLemmas.{event_lines_once}

-- ---- the offsets of what is told

abbrev IsLow : Timed → Type 0
IsLow x = x.offset < limit

abbrev AreLow : List Item → Type 0
AreLow [] = ⊤
AreLow (Sent time x ∷ items) = IsLow x × AreLow items
AreLow (Pair time offset r ∷ items) = AreLow items
AreLow (Noted time note ∷ items) = AreLow items

low_events : (time : Chunk) (offset : ℕ) (events : List Event) (items : List Item) → offset < limit → AreLow items → AreLow (with_events time offset events items)
low_events time offset [] items low h = h
low_events time offset (event ∷ events) items low h =
    let x : Timed = record { offset = offset; event = event } in low_events time offset events (Sent time x ∷ items) low (low, h)

low_here : (setting : Setting) (past : List Event) (time : Chunk) (x : Timed) (found : Option Recovery) (items : List Item) → IsLow x → AreLow items
    → AreLow (with_found setting past time x found items)
low_here setting past time x None items low h = (low, h)
low_here setting past time x (Some r) items low h =
    low_events (put_in_with time) x.offset (put_in setting.first setting.rotated (entry_at setting.first setting.rotated (x.event ∷ past)) r)
    (Pair time x.offset r ∷ Sent time x ∷ items) low (low, h)

low_added : (setting : Setting) (recovers : Bool) (time : Chunk) (past : List Event) (more : List Timed) (before items : List Item) → AllByRecursion IsLow more
    → AreLow before → Adds setting recovers time past more before items → AreLow items
low_added setting recovers time past [] before items lows h is = subst AreLow (sym is) h
low_added setting recovers time past (x ∷ more) before items lows h (earlier, found, adds, finds, is) =
    subst AreLow (sym is)
    (low_here setting (map (λ t. t.event) more ++ past) time x found earlier lows.0 (low_added setting recovers time past more before earlier lows.1 h adds))

behind : (xs ys : List Timed) → AllByRecursion IsLow (xs ++ ys) → AllByRecursion IsLow ys
behind [] ys h = h
behind (x ∷ xs) ys h = behind xs ys h.1

lows : (setting : Setting) (recovers : Bool) (past : List Came) (items : List Item) → length (bytes_of past) ≤ limit → Makes setting recovers past items → AreLow items
lows setting recovers [] items within is = subst AreLow (sym is) tt
lows setting recovers (Bytes time bytes ∷ past) items within (before, events, more, makes, shown, all, adds) =
    let inside = behind events (reverse more) (offsets_inside (bytes_of past ++ bytes) (events ++ reverse more) all.0 within all.1) in
    let here : AllByRecursion IsLow more = subst (λ xs. AllByRecursion IsLow xs) (reverse-reverse more) (reversed IsLow (reverse more) inside) in
    let long = length-append (bytes_of past) bytes in
    low_added setting recovers _ (past_of events) more before items here (lows setting recovers past before (omega (arith, long, within)) makes) adds
lows setting recovers (News time note ∷ past) items within (before, makes, is) = subst AreLow (sym is) (lows setting recovers past before within makes)

-- ---- one report

pair_once : MovesTellTexts → (offset : ℕ) (r : Recovery) (one other : List ℕ) → IsGood r → TellsRecovered offset r one → TellsRecovered offset r other → one ≡ other
pair_once law offset r one other good (san, reply, a, b, is) (san', reply', a', b', is') =
    is ∙ ap (λ s. line offset (recovered_words r.before s r.middle reply)) (law r.before r.pair.first san san' good.before good.first a a')
    ∙ ap (λ s. line offset (recovered_words r.before san' r.middle s)) (law r.middle r.pair.second reply reply' good.middle good.second b b') ∙ sym is'

reports_once : MovesTellTexts → (setting : Setting) (items : List Item) (one other : List ℕ) → Valid setting.start → AreLow items → AreGood items
    → Reports setting items one → Reports setting items other → one ≡ other
reports_once law setting [] one other valid low good g h = g ∙ sym h
reports_once law setting (Sent time x ∷ items) one other valid low good (before, lines, reports, watches, is) (before', lines', reports', watches', is') =
    is ∙ ap (λ t. t ++ text_of lines) (reports_once law setting items before before' valid low.1 good reports reports')
    ∙ ap (λ (ls : List GameLine). before' ++ text_of ls) (event_lines_once law setting (events_of items) x lines lines' valid low.0 watches watches') ∙ sym is'
reports_once law setting (Pair time offset r ∷ items) one other valid low good (before, more, reports, tells, is) (before', more', reports', tells', is') =
    is ∙ ap (λ t. t ++ more) (reports_once law setting items before before' valid low good.1 reports reports')
    ∙ ap (λ t. before' ++ t) (pair_once law offset r more more' good.0 tells tells') ∙ sym is'
reports_once law setting (Noted time note ∷ items) one other valid low good g h = reports_once law setting items one other valid low good g h

pub one_report : MovesTellTexts → ShowsOnce → RecoversOnce → HasOneReport
one_report law shows recovers_once setting recovers past one other valid within g h =
    let items : g.0 ≡ h.0 = makes_once shows recovers_once setting recovers past g.0 h.0 valid g.1 h.1 in
    let R : List Item → Type 0 = λ all. Reports setting all one in
    reports_once law setting h.0 one other valid (lows setting recovers past h.0 within h.1) (good setting recovers past h.0 valid h.1) (subst R items g.2) h.2

-- ---- what comes fits into a capture

short : (n : ℕ) (xs : List ℕ) → length (take n xs) ≤ n
short zero xs = omega arith
short (suc n) [] = omega arith
short (suc n) (x ∷ xs) = let h = short n xs in omega (arith, h)

bytes_within : (at : When) (bytes : List ℕ) (before : List Came) → length (bytes_of before) ≤ limit → length (bytes_of (with_bytes at bytes before)) ≤ limit
bytes_within at [] before within = within
bytes_within at (byte ∷ bytes) before within =
    let s = short (room_of before) (byte ∷ bytes) in
    let l = length-append (bytes_of before) (take (room_of before) (byte ∷ bytes)) in
    omega (arith, s, l, within)

news_within : (at : ℕ) (note : Option Note) (before : List Came) → length (bytes_of before) ≤ limit → length (bytes_of (with_news at note before)) ≤ limit
news_within at None before within = within
news_within at (Some note) before within = within

came_within : (past : List Moment) (turns : List Turn) → length (bytes_of (came past turns)) ≤ limit
came_within [] turns = omega arith
came_within (m ∷ past) [] = omega arith
came_within (m ∷ past) (t ∷ ts) =
    let first = with_news m.at (news_of m.what) (came past ts) in
    let second = with_bytes (when m.at (is_added m.what)) (already m.what m.bytes) first in
    news_within m.at (lined (silence m.what (is_silent (told ts)) (is_silent (told (t ∷ ts))))) (with_bytes (when m.at false) (kept (t ∷ ts)) second)
    (bytes_within (when m.at false) (kept (t ∷ ts)) second
    (bytes_within (when m.at (is_added m.what)) (already m.what m.bytes) first
    (news_within m.at (news_of m.what) (came past ts) (came_within past ts))))

-- ---- one thing is said

abbrev tail : List ℕ → List ℕ
tail [] = []
tail (x ∷ xs) = xs

cancel : (xs a b : List ℕ) → xs ++ a ≡ xs ++ b → a ≡ b
cancel [] a b e = e
cancel (x ∷ xs) a b e = cancel xs a b (ap tail e)

pub says_one_thing : IsToldOnce → HasOneReport → HasOneAnswer → SaysOneThing
says_one_thing tells reports once setup recovers [] report news said other valid g h = (g.0 ∙ sym h.0, g.1 ∙ sym h.1)
says_one_thing tells reports once setup recovers (heard ∷ past) report news said other valid (before, earlier, more, last, writes, answered, is, says, reported) (before', earlier', more', last', writes', answered', is', says', reported') =
    let ms : List Moment = moments (heard ∷ past) in
    let turns : List Turn = reported.0 in
    let R : List Turn → Type 0 = λ ts. IsReport (setting_of setup) recovers (came ms ts) news in
    let second = subst R (tells (cabled ms) reported'.0 turns reported'.1 reported.1) reported'.2 in
    let first = says_one_thing tells reports once setup recovers past before before' earlier earlier' valid writes writes' in
    let same : report ≡ news = reports (setting_of setup) recovers (came ms turns) report news valid (came_within ms turns) reported.2 second in
    let lines : more ≡ more' = cancel before more more' (sym is ∙ same ∙ is' ∙ ap (λ t. t ++ more') (sym first.0)) in
    let A : List ℕ → Type 0 = λ x. IsAnswered setup recovers heard past x last in
    let answer : last ≡ last' = once setup recovers heard past more' last last' valid (subst A lines answered) answered' in
    (same, says ∙ ap (λ t. t ++ last) first.1 ∙ ap (λ t. earlier' ++ t) answer ∙ sym says')

pub later_changes_nothing : SaysOneThing → LaterChangesNothing
later_changes_nothing once setup recovers [] past report news said first valid g h =
    ([], (once setup recovers past report news said first valid g h).1 ∙ sym (append-nil first))
later_changes_nothing once setup recovers (heard ∷ later) past report news said first valid (before, earlier, more, last, writes, answered, is, says, reported) h =
    let front = later_changes_nothing once setup recovers later past before news earlier first valid writes h in
    (front.0 ++ last, says ∙ ap (λ t. t ++ last) front.1 ∙ append_assoc first front.0 last)
