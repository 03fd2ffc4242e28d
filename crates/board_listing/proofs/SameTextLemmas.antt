-- Events have one text, and more of them add lines.
use Rattle.std.proofs.Common.{◌≡◌, ◌∙◌, ◌<◌, inl, inr, ℕ, Bool, true, false, List, [], ◌∷◌, ◌++◌, codes, length, map, reverse, Option, ap, refl, sym, subst, append_assoc, append-nil, length-append, arith}
use Rattle.std.specs.List.{flat_map}
use Rattle.std.proofs.lemmas.Grind.{flat_map-append}
use Rattle.std.proofs.lemmas.List.{map-append, reverse-append}
use Rattle.chess_clock.specs.declared.Reading.{Reading}
use Rattle.chess_rules.specs.declared.parts.Parts.{Parts}
use Rattle.chess_rules.specs.Valid.{Valid}
use Rattle.chess_text.specs.Laws.{MovesTellTexts}
use Rattle.chess_text.specs.Placement.{placement}
use Rattle.dgt_frame.specs.declared.time.First.TheVariants.{White}
use Rattle.dgt_frame.specs.declared.events.Event.{Event}
use Rattle.dgt_frame.specs.Streams.{Shows, Timed}
use Rattle.settle_core.specs.declared.plies.Outcome.{Outcome}
use Rattle.settle_core.specs.declared.plies.Ply.{Ply}
use Rattle.settle_core.specs.declared.plies.Seen.{Seen}
use Rattle.settle_core.specs.declared.plies.Seen.TheVariants.{Same, Moved, Sign, Replaced, Waits}
use Rattle.settle_core.specs.Entries.{Entry, deduplicated, repeats}
use Rattle.settle_core.specs.Folding.{Folds, Score, SeenAs, moves_of, score_after}
use Rattle.settle_core.specs.Settling.{Played, reached}
use Rattle.settle_core.proofs.Once.{folds_once, folds_played, shows_once}
use Rattle.settle_core.proofs.Stages.{valid_reached}
use Rattle.board_events.specs.Commands.{past_of}
use Rattle.board_events.specs.Entries.{entries, entry_at, is_entry}
use Rattle.board_events.specs.History.{is_fault, picture_of}
use Rattle.board_events.specs.Limits.{limit}
use Rattle.board_events.specs.Pictures.{pictures}
use Rattle.board_events.specs.Session.{entries_in}
use Rattle.board_events.specs.Settings.{Setting}
use Rattle.board_events.proofs.GameLemmas.{one_result}
use Rattle.board_events.proofs.ViewLemmas.{pictures_more, pictures_none, pictures_same}
use Rattle.board_listing.specs.declared.listing.Listing.{Listing}
use Rattle.board_listing.specs.declared.listing.Listing.TheVariants.{Events, Pictures, Game, Watched}
use Rattle.watched_streams.specs.Lines.{line}
use Rattle.board_listing.specs.EventLines.{line_of}
use Rattle.board_listing.specs.GameLines.{move_words}
use Rattle.board_listing.specs.GameText.{HasResult, TellsEntry, TellsEvent, TellsEvents, TellsPly, TellsResult, TellsSeen, reached_by}
use Rattle.board_listing.specs.GivenGame.{GameLine, text_of}
use Rattle.board_listing.specs.ListingLaws.{BeginsValid, MoreBytesAddLines}
use Rattle.board_listing.specs.Listings.{HasLines}
use Rattle.board_listing.specs.WatchLaws.{FitInStream}
use Rattle.board_listing.specs.WatchText.{ShowsPicture, ShowsReading, Watches, WatchesEvent, with_position}
use Rattle.board_listing.proofs.LineLemmas.{drawn, drawn-append, text_append}
use Rattle.board_listing.proofs.OffsetLemmas.{offsets_inside, reversed}
use Rattle.board_listing.proofs.TextLemmas.{lines_once}
use Rattle.board_listing.proofs.WatchLawLemmas.{events_of}
use Rattle.board_listing.proofs.WatchPositionLemmas.{followed_in}

-- ---- what `follow` tells of an event

ply_text_once : MovesTellTexts → (offset : ℕ) (word : List ℕ) (start : Parts) (plies : List Ply) (a b : List ℕ) → Valid start → Played start (moves_of plies)
    → TellsPly offset word start plies a → TellsPly offset word start plies b → a ≡ b
ply_text_once law offset word start [] a b valid played x y = absurd x
ply_text_once law offset word start (ply ∷ earlier) a b valid played (san, is, text) (other, is', text') =
    let p = reached start (moves_of earlier) in
    let same : san ≡ other = law p ply.mv san other (valid_reached start (moves_of earlier) valid played.1) played.0 is is' in
    text ∙ ap (λ s. line offset (move_words word p s ply.clock)) same ∙ sym text'

seen_text_once : MovesTellTexts → (offset : ℕ) (start : Parts) (score : Score) (shown : List ℕ) (seen : Seen) (a b : List ℕ) → Valid start → Played start (moves_of score.plies)
    → TellsSeen offset start score shown seen a → TellsSeen offset start score shown seen b → a ≡ b
seen_text_once law offset start score shown (Moved m) a b valid played x y = ply_text_once law offset (codes "move") start score.plies a b valid played x y
seen_text_once law offset start score shown (Replaced m) a b valid played x y = ply_text_once law offset (codes "correction") start score.plies a b valid played x y
seen_text_once law offset start score shown (Sign outcome) a b valid played x y = x ∙ sym y
seen_text_once law offset start score shown Waits a b valid played x y = x ∙ sym y
seen_text_once law offset start score shown Same a b valid played x y = absurd x

result_text_once : (offset : ℕ) (old new : Option Outcome) (a b : List ℕ) → TellsResult offset old new a → TellsResult offset old new b → a ≡ b
result_text_once offset old new a b (inl x) (inl y) = x.1 ∙ sym y.1
result_text_once offset old new a b (inl x) (inr y) = absurd (y.0 x.0)
result_text_once offset old new a b (inr x) (inl y) = absurd (x.0 y.0)
result_text_once offset old new a b (inr x) (inr y) = x.1 ∙ sym y.1

-- the score before an entry, and what the entry shows
record Known (offset : ℕ) (start : Parts) (entry : Entry) (before : Score) (seen : Seen) (text : List ℕ) : Type 0 where
  old : Option Outcome
  new : Option Outcome
  first : List ℕ
  second : List ℕ
  old_is : HasResult start before old
  new_is : HasResult start (score_after start before entry.reading seen) new
  first_is : TellsSeen offset start (score_after start before entry.reading seen) entry.picture seen first
  second_is : TellsResult offset old new second
  text_is : text ≡ first ++ second

known : (offset : ℕ) (start : Parts) (past : List Entry) (entry : Entry) (text : List ℕ) (e : TellsEntry offset start past entry text) → Known offset start entry e.before e.seen text
known offset start past entry text e = record {
  old = e.old;
  new = e.new;
  first = e.first;
  second = e.second;
  old_is = e.old_is;
  new_is = e.new_is;
  first_is = e.first_is;
  second_is = e.second_is;
  text_is = e.text_is;
}

known_once : MovesTellTexts → (offset : ℕ) (start : Parts) (entry : Entry) (before : Score) (seen : Seen) (a b : List ℕ) → Valid start
    → Played start (moves_of (score_after start before entry.reading seen).plies) → Known offset start entry before seen a → Known offset start entry before seen b → a ≡ b
known_once law offset start entry before seen a b valid played x y =
    let after = score_after start before entry.reading seen in
    let first : x.first ≡ y.first = seen_text_once law offset start after entry.picture seen x.first y.first valid played x.first_is y.first_is in
    let old : y.old ≡ x.old = one_result (reached_by start before) before.sign y.old x.old y.old_is x.old_is in
    let new : y.new ≡ x.new = one_result (reached_by start after) after.sign y.new x.new y.new_is x.new_is in
    let O : Option Outcome → Type 0 = λ o. TellsResult offset o y.new y.second in
    let N : Option Outcome → Type 0 = λ o. TellsResult offset x.old o y.second in
    let second : x.second ≡ y.second = result_text_once offset x.old x.new x.second y.second x.second_is (subst N new (subst O old y.second_is)) in
    x.text_is ∙ ap (λ t. t ++ x.second) first ∙ ap (λ t. y.first ++ t) second ∙ sym y.text_is

entry_text_once : MovesTellTexts → (offset : ℕ) (start : Parts) (past : List Entry) (entry : Entry) (a b : List ℕ) → Valid start
    → TellsEntry offset start past entry a → TellsEntry offset start past entry b → a ≡ b
entry_text_once law offset start past entry a b valid x y =
    let before : y.before ≡ x.before = folds_once start (deduplicated past) y.before x.before valid y.folds x.folds in
    let S : Score → Type 0 = λ s. SeenAs start (moves_of s.plies) entry.picture y.seen in
    let here : Valid (reached start (moves_of x.before.plies)) = valid_reached start (moves_of x.before.plies) valid (folds_played start (deduplicated past) x.before x.folds) in
    let seen : y.seen ≡ x.seen = shows_once start (moves_of x.before.plies) entry.picture y.seen x.seen here (subst S before y.shows) x.shows in
    let after = score_after start x.before entry.reading x.seen in
    let folded : Folds start (entry ∷ deduplicated past) after = (x.before, x.seen, x.folds, x.shows, refl) in
    let B : Score → Type 0 = λ s. Known offset start entry s y.seen b in
    let K : Seen → Type 0 = λ s. Known offset start entry x.before s b in
    known_once law offset start entry x.before x.seen a b valid (folds_played start (entry ∷ deduplicated past) after folded)
    (known offset start past entry a x) (subst K seen (subst B before (known offset start past entry b y)))

event_text_by : MovesTellTexts → (setting : Setting) (past : List Event) (x : Timed) (a b : List ℕ) → Valid setting.start → TellsEvent setting past x a → TellsEvent setting past x b
    → (fault entry repeated : Bool) → is_fault x.event ≡ fault → is_entry x.event past ≡ entry
    → repeats (entry_at setting.first setting.rotated (x.event ∷ past)).picture (entries_in setting past) ≡ repeated → a ≡ b
event_text_by law setting past x a b valid g h true entry repeated f i r = g.fault f ∙ sym (h.fault f)
event_text_by law setting past x a b valid g h false false repeated f i r = g.other f i ∙ sym (h.other f i)
event_text_by law setting past x a b valid g h false true true f i r = g.repeated i r ∙ sym (h.repeated i r)
event_text_by law setting past x a b valid g h false true false f i r =
    entry_text_once law x.offset setting.start (entries_in setting past) (entry_at setting.first setting.rotated (x.event ∷ past)) a b valid (g.entry i r) (h.entry i r)

event_text_once : MovesTellTexts → (setting : Setting) (past : List Event) (x : Timed) (a b : List ℕ) → Valid setting.start → TellsEvent setting past x a → TellsEvent setting past x b → a ≡ b
event_text_once law setting past x a b valid g h =
    event_text_by law setting past x a b valid g h (is_fault x.event) (is_entry x.event past)
    (repeats (entry_at setting.first setting.rotated (x.event ∷ past)).picture (entries_in setting past)) refl refl refl

events_text_once : MovesTellTexts → (setting : Setting) (events : List Timed) (a b : List ℕ) → Valid setting.start → TellsEvents setting events a → TellsEvents setting events b → a ≡ b
events_text_once law setting [] a b valid x y = x ∙ sym y
events_text_once law setting (x ∷ past) a b valid (before, more, tells, event, is) (before', more', tells', event', is') =
    is ∙ ap (λ t. t ++ more) (events_text_once law setting past before before' valid tells tells')
    ∙ ap (λ t. before' ++ t) (event_text_once law setting (events_of past) x more more' valid event event') ∙ sym is'

-- ---- what `watch` tells of an event

other_picture : (picture : List ℕ) (old new : List (List ℕ)) → new ≡ old → new ≡ picture ∷ old → ⊥
other_picture picture old new same more =
    let short : length new ≡ length old = ap length same in
    let long : length new ≡ length (picture ∷ old) = ap length more in
    omega (arith, short, long)

pictured_once : (offset : ℕ) (old new : List (List ℕ)) (a b : List GameLine) → ShowsPicture offset old new a → ShowsPicture offset old new b → a ≡ b
pictured_once offset old new a b (inl x) (inl y) = x.1 ∙ sym y.1
pictured_once offset old new a b (inl x) (inr (picture, newest, is)) = absurd (other_picture picture old new x.0 newest)
pictured_once offset old new a b (inr (picture, newest, is)) (inl y) = absurd (other_picture picture old new y.0 newest)
pictured_once offset old new a b (inr (picture, newest, is)) (inr (other, newest', is')) =
    let both : picture ∷ old ≡ other ∷ old = sym newest ∙ newest' in
    let same : picture ≡ other = cc in
    is ∙ ap (λ p. record { offset = offset; words = codes "picture " ++ placement p } ∷ []) same ∙ sym is'

timed_once : (offset : ℕ) (old new : Option Reading) (a b : List GameLine) → ShowsReading offset old new a → ShowsReading offset old new b → a ≡ b
timed_once offset old new a b (inl x) (inl y) = x.1 ∙ sym y.1
timed_once offset old new a b (inl x) (inr y) = absurd (y.0 x.0)
timed_once offset old new a b (inr x) (inl y) = absurd (x.0 y.0)
timed_once offset old new a b (inr x) (inr y) = x.1 ∙ sym y.1

pub event_lines_once : MovesTellTexts → (setting : Setting) (past : List Event) (x : Timed) (a b : List GameLine) → Valid setting.start → x.offset < limit
    → WatchesEvent setting past x a → WatchesEvent setting past x b → a ≡ b
event_lines_once law setting past x a b valid low g h =
    let start = setting.start in
    let P : Score → List GameLine → List GameLine = λ s ls. flat_map (with_position (reached_by start s)) ls in
    let score : g.score ≡ h.score = folds_once start (deduplicated (entries_in setting (x.event ∷ past))) g.score h.score valid g.folds h.folds in
    let followed : g.followed ≡ h.followed =
    lines_once g.followed h.followed (followed_in x.offset g.followed low g.each) (followed_in x.offset h.followed low h.each)
    (event_text_once law setting past x (text_of g.followed) (text_of h.followed) valid g.follows h.follows) in
    g.lines_are ∙ ap (λ ls. ls ++ (P g.score g.followed ++ g.pictured)) (timed_once x.offset _ _ g.timed h.timed g.reading_is h.reading_is)
    ∙ ap (λ ls. h.timed ++ (P g.score g.followed ++ ls)) (pictured_once x.offset _ _ g.pictured h.pictured g.picture_is h.picture_is)
    ∙ ap (λ ls. h.timed ++ (P g.score ls ++ h.pictured)) followed ∙ ap (λ s. h.timed ++ (P s h.followed ++ h.pictured)) score ∙ sym h.lines_are

watched_once : MovesTellTexts → (setting : Setting) (events : List Timed) (a b : List GameLine) → Valid setting.start → FitInStream events
    → Watches setting events a → Watches setting events b → a ≡ b
watched_once law setting [] a b valid short x y = x ∙ sym y
watched_once law setting (x ∷ past) a b valid short (before, more, watches, e, is) (before', more', watches', e', is') =
    is ∙ ap (λ ls. ls ++ before) (event_lines_once law setting (events_of past) x more more' valid short.0 e e')
    ∙ ap (λ ls. more' ++ ls) (watched_once law setting past before before' valid short.1 watches watches') ∙ sym is'

-- ---- more events

follow_front : (setting : Setting) (later past : List Timed) (text : List ℕ) → TellsEvents setting (later ++ past) text
    → (before added : List ℕ) × TellsEvents setting past before × (text ≡ before ++ added)
follow_front setting [] past text tells = (text, [], tells, sym (append-nil text))
follow_front setting (x ∷ later) past text (before, more, tells, event, is) =
    let front = follow_front setting later past before tells in
    (front.0, front.1 ++ more, front.2, is ∙ ap (λ t. t ++ more) front.3 ∙ append_assoc front.0 front.1 more)

watch_front : (setting : Setting) (later past : List Timed) (lines : List GameLine) → Watches setting (later ++ past) lines
    → (before added : List GameLine) × Watches setting past before × (lines ≡ added ++ before)
watch_front setting [] past lines watches = (lines, [], watches, refl)
watch_front setting (x ∷ later) past lines (before, more, watches, e, is) =
    let front = watch_front setting later past before watches in
    (front.0, more ++ front.1, front.2, is ∙ ap (λ ls. more ++ ls) front.3 ∙ sym (append_assoc more front.1 front.0))

picture_by : (rotated : Bool) (event : Event) (past : List Event) (entry repeated : Bool) → is_entry event past ≡ entry
    → repeats (picture_of rotated (event ∷ past)) (entries White rotated past) ≡ repeated
    → (added : List (List ℕ)) × (pictures rotated (event ∷ past) ≡ added ++ pictures rotated past)
picture_by rotated event past false repeated i r = ([], pictures_none rotated past event i)
picture_by rotated event past true true i r = ([], pictures_same White rotated past event i r)
picture_by rotated event past true false i r = (picture_of rotated (event ∷ past) ∷ [], pictures_more White rotated past event i r)

pictures_front : (rotated : Bool) (later past : List Event) → (added : List (List ℕ)) × (pictures rotated (later ++ past) ≡ added ++ pictures rotated past)
pictures_front rotated [] past = ([], refl)
pictures_front rotated (event ∷ later) past =
    let front = pictures_front rotated later past in
    let here = picture_by rotated event (later ++ past) (is_entry event (later ++ past)) (repeats (picture_of rotated (event ∷ (later ++ past))) (entries White rotated (later ++ past))) refl refl in
    (here.0 ++ front.0, here.1 ∙ ap (λ ps. here.0 ++ ps) front.1 ∙ sym (append_assoc here.0 front.0 (pictures rotated past)))

past_append : (events later : List Timed) → past_of (events ++ later) ≡ past_of later ++ past_of events
past_append events later = ap reverse (map-append (λ (t : Timed). t.event) events later) ∙ reverse-append (map (λ (t : Timed). t.event) events) (map (λ (t : Timed). t.event) later)

front_lines : MovesTellTexts → (listing : Listing) (events later : List Timed) (text whole : List ℕ) → BeginsValid listing → FitInStream (reverse events)
    → HasLines listing events text → HasLines listing (events ++ later) whole → (added : List ℕ) × (whole ≡ text ++ added)
front_lines law Events events later text whole valid short x y = (flat_map line_of later, y ∙ flat_map-append line_of events later ∙ ap (λ t. t ++ flat_map line_of later) (sym x))
front_lines law (Pictures rotated) events later text whole valid short x y =
    let front = pictures_front rotated (past_of later) (past_of events) in (
      drawn front.0,
      y ∙ ap (λ past. drawn (pictures rotated past)) (past_append events later) ∙ ap drawn front.1 ∙ drawn-append front.0 (pictures rotated (past_of events))
          ∙ ap (λ t. t ++ drawn front.0) (sym x),
    )
front_lines law (Game start first rotated) events later text whole valid short x y =
    let setting : Setting = record { start = start; first = first; rotated = rotated } in
    let T : List Timed → Type 0 = λ es. TellsEvents setting es whole in
    let front = follow_front setting (reverse later) (reverse events) whole (subst T (reverse-append events later) y) in
    (front.1, front.3 ∙ ap (λ t. t ++ front.1) (events_text_once law setting (reverse events) front.0 text valid front.2 x))
front_lines law (Watched start first rotated) events later text whole valid short (lines, watches, is) (lines', watches', is') =
    let setting : Setting = record { start = start; first = first; rotated = rotated } in
    let W : List Timed → Type 0 = λ es. Watches setting es lines' in
    let front = watch_front setting (reverse later) (reverse events) lines' (subst W (reverse-append events later) watches') in (
      text_of front.1,
      is' ∙ ap text_of front.3 ∙ text_append front.1 front.0
          ∙ ap (λ ls. text_of ls ++ text_of front.1) (watched_once law setting (reverse events) front.0 lines valid short front.2 watches) ∙ ap (λ t. t ++ text_of front.1) (sym is),
    )

-- A stream's first bytes show the first of its events.
abbrev FrontsShowFronts : Type 0
FrontsShowFronts = (bytes more : List ℕ) (events all : List Timed) (rest last : ℕ)
    → Shows bytes events rest → Shows (bytes ++ more) all last → (later : List Timed) × (all ≡ events ++ later)

pub more_bytes_add_lines : MovesTellTexts → FrontsShowFronts → MoreBytesAddLines
more_bytes_add_lines law fronts listing front more events all rest last text whole valid within shows shows' x y =
    let later = fronts front more events all rest last shows shows' in
    let L : List Timed → Type 0 = λ es. HasLines listing es whole in
    let short : FitInStream (reverse events) =
    reversed (λ (t : Timed). t.offset < limit) events (offsets_inside front events rest (omega (arith, within, length-append front more)) shows) in
    front_lines law listing events later.0 text whole valid short x (subst L later.1 y)
