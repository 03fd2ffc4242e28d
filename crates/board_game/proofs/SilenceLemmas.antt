-- A silence that is over leaves no trace.
use Rattle.std.proofs.Common.{◌≡◌, ◌==◌, ◌&&◌, ◌||◌, ℕ, not, nat_lt, Bool, true, false, List, [], ◌∷◌, ◌++◌, map, reverse, Option, Some, None, is_some, refl, sym, ap, subst, ◌∙◌}
use Rattle.std.specs.Prelude.{count_ones, if◌then◌else◌, ⊤}
use Rattle.chess_rules.specs.Valid.{Valid}
use Rattle.dgt_frame.specs.declared.events.Event.{Event}
use Rattle.dgt_frame.specs.Streams.{Timed}
use Rattle.settle_core.specs.declared.plies.Outcome.{Outcome}
use Rattle.settle_core.specs.Folding.{Score}
use Rattle.unseen_pairs.specs.declared.pair.Recovery.{Recovery}
use Rattle.unseen_pairs.specs.Laws.{RecoversOnce}
use Rattle.square_runs.specs.Shown.{Shown, since_when}
use Rattle.board_events.specs.Commands.{past_of}
use Rattle.board_events.specs.Entries.{entry_at}
use Rattle.board_events.specs.Settings.{Setting}
use Rattle.board_alarms.specs.Hearing.{AreOpen, ClockIsStopped as IsStopped}
use Rattle.board_alarms.specs.declared.news.News.TheVariants.{PutsIn}
use Rattle.board_alarms.specs.Items.{Item as AlarmItem, Noted as Notes, Sent as Comes}
use Rattle.board_alarms.specs.Laws.{OpensOnce as AlarmsOpenOnce, StopsOnce as ClockStopsOnce}
use Rattle.board_alarms.specs.declared.look.Look.{Look}
use Rattle.board_endings.specs.declared.news.End.{End}
use Rattle.board_endings.specs.Items.{Item as EndItem, Sent as Ends_with}
use Rattle.board_endings.specs.Laws.{DueOnce, EndsOnce as EndingsAreOne}
use Rattle.board_endings.specs.Saying.{IsDueAt, IsEndAt}
use Rattle.board_standing.specs.declared.heard.Event.{Event as Told}
use Rattle.board_standing.specs.declared.heard.Heard.{Heard}
use Rattle.board_standing.specs.declared.heard.Heard.TheVariants.{Shows, Repeats, Moves, Ends, Reopens, Stops, Answers, Unplugs, Plugs, Begins}
use Rattle.board_standing.specs.Hints.{has_pictures, hint_of, is_opened, is_other, lies_turned, one_move, opened_by, other_by, turned_by}
use Rattle.board_standing.specs.Line.{ended_by, ended_since, has_played, pictures, played_by, silent_by, silent_since, unplugged_by, unplugged_since, waits, waits_by, with_picture}
use Rattle.board_standing.specs.Pictures.{differs, due_of, is_named, kind_of, last_time, named_since}
use Rattle.board_standing.specs.States.{is_seen, kind_at, may_change, names_squares, since_by}
use Rattle.board_standing.specs.declared.state.Hint.{Hint}
use Rattle.board_standing.specs.declared.state.Hint.TheVariants.{TurnedRound, OtherBoard}
use Rattle.board_standing.specs.declared.state.Kind.{Kind}
use Rattle.board_standing.specs.declared.state.Kind.TheVariants.{Waits, Agrees, Ended, InHand, Wrong, NoStart, SettingUp, Silent, Unplugged}
use Rattle.pair_frames.specs.PutIn.{put_in}
use Rattle.board_alarms.specs.declared.chunk.Chunk.{Chunk}
use Rattle.board_game.specs.declared.note.Note.{Note}
use Rattle.board_game.specs.declared.note.Note.TheVariants.{Line, Looked, PutsBack, Reopens as IsReopened, Passes, Resumes, Suspects}
use Rattle.board_game.specs.Alarming.{AlarmsAre, ClockIsStopped, alarm_items, news_of, of_line, with_news}
use Rattle.board_game.specs.Ending.{IsEndDueOf, IsEndOf, bytes_with, end_items, end_news, end_of_line, with_end_news}
use Rattle.board_game.specs.Hearing.{Hears, HearsEvent, HearsPicture, HearsResult, IsHeard, heard_of, with_heard}
use Rattle.board_game.specs.History.{Adds, AreShown, Bytes, Came, Item, Makes, News, Noted, Pair, Sent, bytes_of, chunk_of, events_of, put_in_with, with_events, with_found}
use Rattle.board_game.specs.Silences.{ReadAlike, SilenceIsForgotten, but_silence, is_silence, tells_silence}
use Rattle.board_game.proofs.OnceLemmas.{items_heard, makes_once}
use Rattle.board_game.proofs.PlainLemmas.{ShowsOnce}

-- ---- items without it

abbrev quiet : List Item → List Item
quiet [] = []
quiet (Sent time x ∷ items) = Sent time x ∷ quiet items
quiet (Pair time offset r ∷ items) = Pair time offset r ∷ quiet items
quiet (Noted at note ∷ items) = if tells_silence note then quiet items else Noted at note ∷ quiet items

noted_events : (silence : Bool) (at : ℕ) (note : Note) (items : List Item) → events_of (if silence then items else Noted at note ∷ items) ≡ events_of items
noted_events true at note items = refl
noted_events false at note items = refl

quiet_events : (items : List Item) → events_of (quiet items) ≡ events_of items
quiet_events [] = refl
quiet_events (Sent time x ∷ items) = ap (λ (es : List Event). x.event ∷ es) (quiet_events items)
quiet_events (Pair time offset r ∷ items) = quiet_events items
quiet_events (Noted at note ∷ items) = noted_events (tells_silence note) at note (quiet items) ∙ quiet_events items

quiet_with_events : (time : Chunk) (offset : ℕ) (events : List Event) (items : List Item) → quiet (with_events time offset events items) ≡ with_events time offset events (quiet items)
quiet_with_events time offset [] items = refl
quiet_with_events time offset (event ∷ events) items = quiet_with_events time offset events (Sent time (record { offset = offset; event = event }) ∷ items)

quiet_with_found : (setting : Setting) (past : List Event) (time : Chunk) (x : Timed) (found : Option Recovery) (items : List Item)
    → quiet (with_found setting past time x found items) ≡ with_found setting past time x found (quiet items)
quiet_with_found setting past time x None items = refl
quiet_with_found setting past time x (Some r) items = quiet_with_events (put_in_with time) x.offset
    (put_in setting.first setting.rotated (entry_at setting.first setting.rotated (x.event ∷ past)) r) (Pair time x.offset r ∷ Sent time x ∷ items)

adds_quiet : (setting : Setting) (recovers : Bool) (time : Chunk) (past : List Event) (more : List Timed) (before items : List Item)
    → Adds setting recovers time past more before items → Adds setting recovers time past more (quiet before) (quiet items)
adds_quiet setting recovers time past [] before items adds = ap (λ (is : List Item). quiet is) adds
adds_quiet setting recovers time past (x ∷ more) before items adds =
    let here = map (λ (t : Timed). t.event) more ++ past in (
      quiet adds.0,
      adds.1,
      adds_quiet setting recovers time past more before adds.0 adds.2,
      adds.3,
      ap (λ (is : List Item). quiet is) adds.4 ∙ quiet_with_found setting here time x adds.1 adds.0,
    )

quiet_news : (silence : Bool) (at : ℕ) (note : Note) (past : List Came) → bytes_of (if silence then past else News at note ∷ past) ≡ bytes_of past
quiet_news true at note past = refl
quiet_news false at note past = refl

pub quiet_bytes : (past : List Came) → bytes_of (but_silence past) ≡ bytes_of past
quiet_bytes [] = refl
quiet_bytes (Bytes time bytes ∷ past) = ap (λ (bs : List ℕ). bs ++ bytes) (quiet_bytes past)
quiet_bytes (News at note ∷ past) = quiet_news (tells_silence note) at note (but_silence past) ∙ quiet_bytes past

news_made : (silence : Bool) (setting : Setting) (recovers : Bool) (at : ℕ) (note : Note) (past : List Came) (items : List Item) → Makes setting recovers past items
    → Makes setting recovers (if silence then past else News at note ∷ past) (if silence then items else Noted at note ∷ items)
news_made true setting recovers at note past items m = m
news_made false setting recovers at note past items m = (items, m, refl)

makes_quiet : (setting : Setting) (recovers : Bool) (past : List Came) (items : List Item) → Makes setting recovers past items
    → Makes setting recovers (but_silence past) (quiet items)
makes_quiet setting recovers [] items m = ap (λ (is : List Item). quiet is) m
makes_quiet setting recovers (Bytes time bytes ∷ past) items m =
    let same = sym (quiet_bytes past) in
    let S : List ℕ → Type 0 = λ bs. AreShown bs m.1 in
    let T : List ℕ → Type 0 = λ bs. AreShown (bs ++ bytes) (m.1 ++ reverse m.2) in
    let C : List ℕ → Type 0 = λ bs. Adds setting recovers (chunk_of time (bs ++ bytes)) (past_of m.1) m.2 (quiet m.0) (quiet items) in
    (quiet m.0, m.1, m.2, makes_quiet setting recovers past m.0 m.3, subst S same m.4, subst T same m.5, subst C same (adds_quiet setting recovers (chunk_of time (bytes_of past ++ bytes)) (past_of m.1) m.2 m.0 items m.6))
makes_quiet setting recovers (News at note ∷ past) items m =
    let M : List Item → Type 0 = λ is. Makes setting recovers (but_silence (News at note ∷ past)) is in
    subst M (sym (ap (λ (is : List Item). quiet is) m.2))
    (news_made (tells_silence note) setting recovers at note (but_silence past) (quiet m.0) (makes_quiet setting recovers past m.0 m.1))

-- ---- what is heard, without it

abbrev quiet_heard : List Told → List Told
quiet_heard [] = []
quiet_heard (event ∷ past) = if is_silence event.what then quiet_heard past else event ∷ quiet_heard past

-- It is no silence, and changes none.
abbrev pub IsOfTheGame : Option Heard → Type 0
IsOfTheGame None = ⊤
IsOfTheGame (Some what) = (is_silence what ≡ false) × ((at : ℕ) (since : Option ℕ) → silent_by what at since ≡ since)

pub shown_of_game : (setting : Setting) (past : List Event) (event : Event) (old new : Score) (heard : Option Heard) → HearsPicture setting past event old new heard → IsOfTheGame heard
shown_of_game setting past event old new None h = tt
shown_of_game setting past event old new (Some Repeats) h = (refl, λ at since. refl)
shown_of_game setting past event old new (Some Moves) h = (refl, λ at since. refl)
shown_of_game setting past event old new (Some (Shows p)) h = (refl, λ at since. refl)
shown_of_game setting past event old new (Some Ends) h = absurd h
shown_of_game setting past event old new (Some Reopens) h = absurd h
shown_of_game setting past event old new (Some Stops) h = absurd h
shown_of_game setting past event old new (Some Answers) h = absurd h
shown_of_game setting past event old new (Some Unplugs) h = absurd h
shown_of_game setting past event old new (Some Plugs) h = absurd h
shown_of_game setting past event old new (Some Begins) h = absurd h

pub ended_of_game : (old new : Option Outcome) (heard : Option Heard) → HearsResult old new heard → IsOfTheGame heard
ended_of_game old new None h = tt
ended_of_game old new (Some Ends) h = (refl, λ at since. refl)
ended_of_game old new (Some Reopens) h = (refl, λ at since. refl)
ended_of_game old new (Some (Shows p)) h = absurd h
ended_of_game old new (Some Repeats) h = absurd h
ended_of_game old new (Some Moves) h = absurd h
ended_of_game old new (Some Stops) h = absurd h
ended_of_game old new (Some Answers) h = absurd h
ended_of_game old new (Some Unplugs) h = absurd h
ended_of_game old new (Some Plugs) h = absurd h
ended_of_game old new (Some Begins) h = absurd h

heard_with : (at : ℕ) (heard : Option Heard) (past : List Told) → IsOfTheGame heard → quiet_heard (with_heard at heard past) ≡ with_heard at heard (quiet_heard past)
heard_with at None past g = refl
heard_with at (Some what) past g = ap (λ b. if b then quiet_heard past else record { at = at; what = what } ∷ quiet_heard past) g.0

pub silent_with : (at : ℕ) (heard : Option Heard) (past : List Told) → IsOfTheGame heard → silent_since (with_heard at heard past) ≡ silent_since past
silent_with at None past g = refl
silent_with at (Some what) past g = g.1 at (silent_since past)

line_quiet : (silence : Bool) (setting : Setting) (at : ℕ) (what : Heard) (items : List Item) (past : List Told) → Hears setting items past
    → Hears setting (if silence then items else Noted at (Line what) ∷ items) (if silence then past else record { at = at; what = what } ∷ past)
line_quiet true setting at what items past h = h
line_quiet false setting at what items past h = (past, h, refl)

hears_quiet : (setting : Setting) (items : List Item) (heard : List Told) → Hears setting items heard → Hears setting (quiet items) (quiet_heard heard)
hears_quiet setting [] heard h = ap (λ (l : List Told). quiet_heard l) h
hears_quiet setting (Sent time x ∷ items) heard h =
    let shown = shown_of_game setting (events_of items) x.event h.4.before h.4.after h.1 h.4.shown_is in
    let ended = ended_of_game h.4.old h.4.new h.2 h.4.ended_is in
    let E : List Event → Type 0 = λ es. HearsEvent setting es x.event h.1 h.2 in (
      quiet_heard h.0,
      h.1,
      h.2,
      hears_quiet setting items h.0 h.3,
      subst E (sym (quiet_events items)) h.4,
      ap (λ (l : List Told). quiet_heard l) h.5 ∙ heard_with time.when.at h.2 (with_heard time.when.at h.1 h.0) ended
          ∙ ap (λ (l : List Told). with_heard time.when.at h.2 l) (heard_with time.when.at h.1 h.0 shown),
    )
hears_quiet setting (Pair time offset r ∷ items) heard h = hears_quiet setting items heard h
hears_quiet setting (Noted at (Line what) ∷ items) heard h =
    let H : List Told → Type 0 = λ l. Hears setting (quiet (Noted at (Line what) ∷ items)) l in
    subst H (sym (ap (λ (l : List Told). quiet_heard l) h.2))
    (line_quiet (is_silence what) setting at what (quiet items) (quiet_heard h.0) (hears_quiet setting items h.0 h.1))
hears_quiet setting (Noted at Looked ∷ items) heard h = (quiet_heard h.0, hears_quiet setting items h.0 h.1, ap (λ (l : List Told). quiet_heard l) h.2)
hears_quiet setting (Noted at PutsBack ∷ items) heard h = (quiet_heard h.0, hears_quiet setting items h.0 h.1, ap (λ (l : List Told). quiet_heard l) h.2)
hears_quiet setting (Noted at IsReopened ∷ items) heard h = (quiet_heard h.0, hears_quiet setting items h.0 h.1, ap (λ (l : List Told). quiet_heard l) h.2)
hears_quiet setting (Noted at Passes ∷ items) heard h = (quiet_heard h.0, hears_quiet setting items h.0 h.1, ap (λ (l : List Told). quiet_heard l) h.2)
hears_quiet setting (Noted at Resumes ∷ items) heard h = (quiet_heard h.0, hears_quiet setting items h.0 h.1, ap (λ (l : List Told). quiet_heard l) h.2)
hears_quiet setting (Noted at (Suspects n) ∷ items) heard h = (quiet_heard h.0, hears_quiet setting items h.0 h.1, ap (λ (l : List Told). quiet_heard l) h.2)

-- ---- what is read of it

-- all that is read of a board, but the silence
record Stood : Type 0 where
  shown : List Shown
  waiting : Bool
  gone : Option ℕ
  ended : Option ℕ
  played : Bool
  opened : Bool
  other : Bool
  turned : Bool

abbrev stood : List Told → Stood
stood past = record {
  shown = pictures past;
  waiting = waits past;
  gone = unplugged_since past;
  ended = ended_since past;
  played = has_played past;
  opened = is_opened past;
  other = is_other past;
  turned = lies_turned past;
}

abbrev next_other : Heard → Bool → List Shown → Bool → Bool
next_other (Shows picture) opened shown before =
    not (count_ones picture.differs == 0) && ((opened && (has_pictures shown && nat_lt one_move (count_ones picture.changed))) || before)
next_other Moves opened shown before = false
next_other Ends opened shown before = false
next_other Reopens opened shown before = false
next_other same opened shown before = before

abbrev next : Heard → ℕ → Stood → Stood
next what at s = record {
  shown = with_picture what at s.shown;
  waiting = waits_by what s.waiting;
  gone = unplugged_by what at s.gone;
  ended = ended_by what at s.ended;
  played = played_by what s.played;
  opened = opened_by what s.opened;
  other = next_other what s.opened s.shown s.other;
  turned = turned_by what s.turned;
}

other_next : (what : Heard) (past : List Told) → other_by what past (is_other past) ≡ next_other what (is_opened past) (pictures past) (is_other past)
other_next (Shows picture) past = refl
other_next Repeats past = refl
other_next Moves past = refl
other_next Ends past = refl
other_next Reopens past = refl
other_next Stops past = refl
other_next Answers past = refl
other_next Unplugs past = refl
other_next Plugs past = refl
other_next Begins past = refl

stood_next : (event : Told) (past : List Told) → stood (event ∷ past) ≡ next event.what event.at (stood past)
stood_next event past = ap (λ b. record (next event.what event.at (stood past)) { other = b }) (other_next event.what past)

clash : (b : Bool) → b ≡ true → b ≡ false → ⊥
clash true e f = cc
clash false e f = cc

silence_next : (what : Heard) (at : ℕ) (s : Stood) → is_silence what ≡ true → next what at s ≡ s
silence_next Stops at s e = refl
silence_next Answers at s e = refl
silence_next (Shows p) at s e = absurd (clash _ e refl)
silence_next Repeats at s e = absurd (clash _ e refl)
silence_next Moves at s e = absurd (clash _ e refl)
silence_next Ends at s e = absurd (clash _ e refl)
silence_next Reopens at s e = absurd (clash _ e refl)
silence_next Unplugs at s e = absurd (clash _ e refl)
silence_next Plugs at s e = absurd (clash _ e refl)
silence_next Begins at s e = absurd (clash _ e refl)

stood_step : (silence : Bool) (event : Told) (rest past : List Told) → is_silence event.what ≡ silence → stood rest ≡ stood past
    → stood (if silence then rest else event ∷ rest) ≡ stood (event ∷ past)
stood_step true event rest past e same = same ∙ sym (silence_next event.what event.at (stood past) e) ∙ sym (stood_next event past)
stood_step false event rest past e same = stood_next event rest ∙ ap (λ (s : Stood). next event.what event.at s) same ∙ sym (stood_next event past)

stood_quiet : (past : List Told) → stood (quiet_heard past) ≡ stood past
stood_quiet [] = refl
stood_quiet (event ∷ past) = stood_step (is_silence event.what) event (quiet_heard past) past refl (stood_quiet past)

-- ---- since when it has been silent

-- What was heard before more items, with the same silence.
record Before (setting : Setting) (items : List Item) (heard : List Told) : Type 0 where
  told : List Told
  hears : Hears setting items told
  same : silent_since heard ≡ silent_since told

before_event : (setting : Setting) (time : Chunk) (x : Timed) (items : List Item) (heard : List Told) → Hears setting (Sent time x ∷ items) heard → Before setting items heard
before_event setting time x items heard h =
    let shown = shown_of_game setting (events_of items) x.event h.4.before h.4.after h.1 h.4.shown_is in
    let ended = ended_of_game h.4.old h.4.new h.2 h.4.ended_is in
    record {
      told = h.0;
      hears = h.3;
      same = ap (λ (l : List Told). silent_since l) h.5 ∙ silent_with time.when.at h.2 (with_heard time.when.at h.1 h.0) ended ∙ silent_with time.when.at h.1 h.0 shown;
    }

before_events : (setting : Setting) (time : Chunk) (offset : ℕ) (events : List Event) (items : List Item) (heard : List Told) → Hears setting (with_events time offset events items) heard
    → Before setting items heard
before_events setting time offset [] items heard h = record { told = heard; hears = h; same = refl }
before_events setting time offset (event ∷ events) items heard h =
    let x : Timed = record { offset = offset; event = event } in
    let b = before_events setting time offset events (Sent time x ∷ items) heard h in
    let c = before_event setting time x items b.told b.hears in
    record { told = c.told; hears = c.hears; same = b.same ∙ c.same }

before_found : (setting : Setting) (past : List Event) (time : Chunk) (x : Timed) (found : Option Recovery) (items : List Item) (heard : List Told)
    → Hears setting (with_found setting past time x found items) heard → Before setting items heard
before_found setting past time x None items heard h = before_event setting time x items heard h
before_found setting past time x (Some r) items heard h =
    let b = before_events setting (put_in_with time) x.offset (put_in setting.first setting.rotated (entry_at setting.first setting.rotated (x.event ∷ past)) r) (Pair time x.offset r ∷ Sent time x ∷ items) heard h in
    let c = before_event setting time x items b.told b.hears in
    record { told = c.told; hears = c.hears; same = b.same ∙ c.same }

before_added : (setting : Setting) (recovers : Bool) (time : Chunk) (past : List Event) (more : List Timed) (before items : List Item) (heard : List Told)
    → Adds setting recovers time past more before items → Hears setting items heard → Before setting before heard
before_added setting recovers time past [] before items heard adds h =
    record { told = heard; hears = subst (λ (is : List Item). Hears setting is heard) adds h; same = refl }
before_added setting recovers time past (x ∷ more) before items heard adds h =
    let here = map (λ (t : Timed). t.event) more ++ past in
    let b = before_found setting here time x adds.1 adds.0 heard (subst (λ (is : List Item). Hears setting is heard) adds.4 h) in
    let c = before_added setting recovers time past more before adds.0 b.told adds.2 b.hears in
    record { told = c.told; hears = c.hears; same = b.same ∙ c.same }

news_silent : (at : ℕ) (heard : Option Heard) (a b : List Told) → silent_since a ≡ silent_since b → silent_since (with_heard at heard a) ≡ silent_since (with_heard at heard b)
news_silent at None a b same = same
news_silent at (Some what) a b same = ap (λ since. silent_by what at since) same

answered : (setting : Setting) (recovers : Bool) (at : ℕ) (past : List Came) (heard : List Told) → IsHeard setting recovers (News at (Line Answers) ∷ past) heard → silent_since heard ≡ None
answered setting recovers at past heard h =
    let told = subst (λ (is : List Item). Hears setting is heard) h.1.2 h.2 in ap (λ (l : List Told). silent_since l) told.2

silent_alike : (setting : Setting) (recovers : Bool) (at : ℕ) (since first second : List Came) (a b : List Told)
    → IsHeard setting recovers (since ++ News at (Line Answers) ∷ first) a → IsHeard setting recovers (since ++ News at (Line Answers) ∷ second) b
    → silent_since a ≡ silent_since b
silent_alike setting recovers at [] first second a b g h = answered setting recovers at first a g ∙ sym (answered setting recovers at second b h)
silent_alike setting recovers at (News time note ∷ since) first second a b g h =
    let one = subst (λ (is : List Item). Hears setting is a) g.1.2 g.2 in
    let two = subst (λ (is : List Item). Hears setting is b) h.1.2 h.2 in
    let same = silent_alike setting recovers at since first second one.0 two.0 (g.1.0, g.1.1, one.1) (h.1.0, h.1.1, two.1) in
    ap (λ (l : List Told). silent_since l) one.2 ∙ news_silent time (heard_of note) one.0 two.0 same ∙ sym (ap (λ (l : List Told). silent_since l) two.2)
silent_alike setting recovers at (Bytes time bytes ∷ since) first second a b g h =
    let one = before_added setting recovers _ (past_of g.1.1) g.1.2 g.1.0 g.0 a g.1.6 g.2 in
    let two = before_added setting recovers _ (past_of h.1.1) h.1.2 h.1.0 h.0 b h.1.6 h.2 in
    one.same ∙ silent_alike setting recovers at since first second one.told two.told (g.1.0, g.1.3, one.hears) (h.1.0, h.1.3, two.hears) ∙ sym two.same

-- ---- both

pub since_quiet : (at : ℕ) (since first second : List Came) → but_silence first ≡ but_silence second
    → but_silence (since ++ News at (Line Answers) ∷ first) ≡ but_silence (since ++ News at (Line Answers) ∷ second)
since_quiet at [] first second same = same
since_quiet at (Bytes time bytes ∷ since) first second same = ap (λ (c : List Came). Bytes time bytes ∷ c) (since_quiet at since first second same)
since_quiet at (News time note ∷ since) first second same =
    ap (λ (c : List Came). if tells_silence note then c else News time note ∷ c) (since_quiet at since first second same)

items_quiet : ShowsOnce → RecoversOnce → (setting : Setting) (recovers : Bool) (one other : List Came) (a b : List Item) → Valid setting.start → but_silence one ≡ but_silence other
    → Makes setting recovers one a → Makes setting recovers other b → quiet a ≡ quiet b
items_quiet shows once setting recovers one other a b valid same g h =
    let M : List Came → Type 0 = λ c. Makes setting recovers c (quiet a) in
    makes_once shows once setting recovers (but_silence other) (quiet a) (quiet b) valid (subst M same (makes_quiet setting recovers one a g)) (makes_quiet setting recovers other b h)

heard_alike : ShowsOnce → RecoversOnce → (setting : Setting) (recovers : Bool) (one other : List Came) (a b : List Told) → Valid setting.start → but_silence one ≡ but_silence other
    → IsHeard setting recovers one a → IsHeard setting recovers other b → stood a ≡ stood b
heard_alike shows once setting recovers one other a b valid same g h =
    let items = items_quiet shows once setting recovers one other g.0 h.0 valid same g.1 h.1 in
    let H : List Item → Type 0 = λ is. Hears setting is (quiet_heard a) in
    let told : quiet_heard a ≡ quiet_heard b = items_heard setting (quiet h.0) (quiet_heard a) (quiet_heard b) valid (subst H items (hears_quiet setting g.0 a g.2)) (hears_quiet setting h.0 b h.2) in
    sym (stood_quiet a) ∙ ap (λ (l : List Told). stood l) told ∙ stood_quiet b

abbrev kind_on : ℕ → Stood → Option ℕ → Kind
kind_on now s silent =
    if is_some s.gone then Unplugged
    else if is_some silent then Silent
    else if s.waiting then Waits
    else if is_some s.ended then Ended
    else kind_of now s.played s.shown

since_alike : (now : ℕ) (kind : Kind) (a b : List Told) → stood a ≡ stood b → silent_since a ≡ silent_since b → since_by kind now a ≡ since_by kind now b
since_alike now Unplugged a b same silent = ap (λ (s : Stood). s.gone) same
since_alike now Silent a b same silent = silent
since_alike now Waits a b same silent = refl
since_alike now Ended a b same silent = ap (λ (s : Stood). s.ended) same
since_alike now Agrees a b same silent = ap (λ (s : Stood). last_time s.shown) same
since_alike now SettingUp a b same silent = ap (λ (s : Stood). since_when differs s.shown) same
since_alike now InHand a b same silent = ap (λ (s : Stood). named_since now s.shown) same
since_alike now Wrong a b same silent = ap (λ (s : Stood). named_since now s.shown) same
since_alike now NoStart a b same silent = ap (λ (s : Stood). named_since now s.shown) same

abbrev hint_on : Stood → Option Hint
hint_on s = if s.turned && not s.played then Some TurnedRound else if s.other then Some OtherBoard else None

read_alike : (now : ℕ) (a b : List Told) → stood a ≡ stood b → silent_since a ≡ silent_since b → ReadAlike now a b
read_alike now a b same silent =
    let kinds : kind_at now a ≡ kind_at now b = ap (λ (s : Stood). kind_on now s (silent_since a)) same ∙ ap (λ x. kind_on now (stood b) x) silent in
    record {
      kind = kinds;
      since = ap (λ k. since_by k now a) kinds ∙ since_alike now (kind_at now b) a b same silent;
      squares = λ s. ap (λ k. if names_squares k then is_named now (pictures a) s else false) kinds
          ∙ ap (λ (x : Stood). if names_squares (kind_at now b) then is_named now x.shown s else false) same;
      hint = ap (λ k. if is_seen k then hint_of a else None) kinds ∙ ap (λ (s : Stood). if is_seen (kind_at now b) then hint_on s else None) same;
      due = ap (λ k. if may_change k then due_of now (pictures a) else None) kinds
          ∙ ap (λ (s : Stood). if may_change (kind_at now b) then due_of now s.shown else None) same;
    }

-- ---- alarms

no_alarm : (what : Heard) → is_silence what ≡ true → of_line what ≡ None
no_alarm Stops e = refl
no_alarm Answers e = refl
no_alarm (Shows p) e = refl
no_alarm Repeats e = refl
no_alarm Moves e = refl
no_alarm Ends e = refl
no_alarm Reopens e = refl
no_alarm Unplugs e = absurd (clash _ e refl)
no_alarm Plugs e = refl
no_alarm Begins e = absurd (clash _ e refl)

line_alarms : (silence : Bool) (at : ℕ) (what : Heard) (items : List Item) → is_silence what ≡ silence
    → alarm_items (if silence then items else Noted at (Line what) ∷ items) ≡ with_news at (of_line what) (alarm_items items)
line_alarms true at what items e = sym (ap (λ news. with_news at news (alarm_items items)) (no_alarm what e))
line_alarms false at what items e = refl

quiet_alarms : (items : List Item) → alarm_items (quiet items) ≡ alarm_items items
quiet_alarms [] = refl
quiet_alarms (Sent time x ∷ items) = ap (λ (is : List AlarmItem). Comes time x.event ∷ is) (quiet_alarms items)
quiet_alarms (Pair time offset r ∷ items) = ap (λ (is : List AlarmItem). Notes time.when.at PutsIn ∷ is) (quiet_alarms items)
quiet_alarms (Noted at (Line what) ∷ items) =
    line_alarms (is_silence what) at what (quiet items) refl ∙ ap (λ (is : List AlarmItem). with_news at (of_line what) is) (quiet_alarms items)
quiet_alarms (Noted at Looked ∷ items) = ap (λ (is : List AlarmItem). with_news at (news_of Looked) is) (quiet_alarms items)
quiet_alarms (Noted at PutsBack ∷ items) = ap (λ (is : List AlarmItem). with_news at (news_of PutsBack) is) (quiet_alarms items)
quiet_alarms (Noted at IsReopened ∷ items) = quiet_alarms items
quiet_alarms (Noted at Passes ∷ items) = quiet_alarms items
quiet_alarms (Noted at Resumes ∷ items) = quiet_alarms items
quiet_alarms (Noted at (Suspects n) ∷ items) = ap (λ (is : List AlarmItem). with_news at (news_of (Suspects n)) is) (quiet_alarms items)

-- The same items are told of alarms.
alarms_quiet : ShowsOnce → RecoversOnce → (setting : Setting) (recovers : Bool) (one other : List Came) (a b : List Item) → Valid setting.start
    → but_silence one ≡ but_silence other → Makes setting recovers one a → Makes setting recovers other b → alarm_items a ≡ alarm_items b
alarms_quiet shows once setting recovers one other a b valid same g h =
    sym (quiet_alarms a) ∙ ap (λ (is : List Item). alarm_items is) (items_quiet shows once setting recovers one other a b valid same g h) ∙ quiet_alarms b

alarms_alike : ShowsOnce → RecoversOnce → AlarmsOpenOnce → (setting : Setting) (recovers : Bool) (one other : List Came) (a b : List Look) → Valid setting.start
    → but_silence one ≡ but_silence other → AlarmsAre setting recovers one a → AlarmsAre setting recovers other b → a ≡ b
alarms_alike shows once opens setting recovers one other a b valid same g h =
    let O : List AlarmItem → Type 0 = λ is. AreOpen setting is a in
    opens setting (alarm_items h.0) a b valid (subst O (alarms_quiet shows once setting recovers one other g.0 h.0 valid same g.1 h.1) g.2) h.2

clock_alike : ShowsOnce → RecoversOnce → ClockStopsOnce → (setting : Setting) (recovers : Bool) (one other : List Came) (a b : Bool) → Valid setting.start
    → but_silence one ≡ but_silence other → ClockIsStopped setting recovers one a → ClockIsStopped setting recovers other b → a ≡ b
clock_alike shows once stops setting recovers one other a b valid same g h =
    let O : List AlarmItem → Type 0 = λ is. IsStopped setting is a in
    stops setting (alarm_items h.0) a b valid (subst O (alarms_quiet shows once setting recovers one other g.0 h.0 valid same g.1 h.1) g.2) h.2

-- ---- the end of the game

no_end : (what : Heard) → is_silence what ≡ true → end_of_line what ≡ None
no_end Stops e = refl
no_end Answers e = refl
no_end (Shows p) e = refl
no_end Repeats e = refl
no_end Moves e = refl
no_end Ends e = refl
no_end Reopens e = refl
no_end Unplugs e = refl
no_end Plugs e = refl
no_end Begins e = absurd (clash _ e refl)

line_ends : (silence : Bool) (at : ℕ) (what : Heard) (items : List Item) → is_silence what ≡ silence
    → end_items (if silence then items else Noted at (Line what) ∷ items) ≡ with_end_news at (end_of_line what) (end_items items)
line_ends true at what items e = sym (ap (λ news. with_end_news at news (end_items items)) (no_end what e))
line_ends false at what items e = refl

quiet_ends : (items : List Item) → end_items (quiet items) ≡ end_items items
quiet_ends [] = refl
quiet_ends (Sent time x ∷ items) = ap (λ (is : List EndItem). Ends_with time.when.at time.when.is_added (bytes_with time x.offset) x.event ∷ is) (quiet_ends items)
quiet_ends (Pair time offset r ∷ items) = quiet_ends items
quiet_ends (Noted at (Line what) ∷ items) =
    line_ends (is_silence what) at what (quiet items) refl ∙ ap (λ (is : List EndItem). with_end_news at (end_of_line what) is) (quiet_ends items)
quiet_ends (Noted at Looked ∷ items) = ap (λ (is : List EndItem). with_end_news at (end_news Looked) is) (quiet_ends items)
quiet_ends (Noted at PutsBack ∷ items) = ap (λ (is : List EndItem). with_end_news at (end_news PutsBack) is) (quiet_ends items)
quiet_ends (Noted at IsReopened ∷ items) = ap (λ (is : List EndItem). with_end_news at (end_news IsReopened) is) (quiet_ends items)
quiet_ends (Noted at Passes ∷ items) = ap (λ (is : List EndItem). with_end_news at (end_news Passes) is) (quiet_ends items)
quiet_ends (Noted at Resumes ∷ items) = ap (λ (is : List EndItem). with_end_news at (end_news Resumes) is) (quiet_ends items)
quiet_ends (Noted at (Suspects n) ∷ items) = ap (λ (is : List EndItem). with_end_news at (end_news (Suspects n)) is) (quiet_ends items)

-- The same items are told of it.
ends_quiet : ShowsOnce → RecoversOnce → (setting : Setting) (recovers : Bool) (one other : List Came) (a b : List Item) → Valid setting.start
    → but_silence one ≡ but_silence other → Makes setting recovers one a → Makes setting recovers other b → end_items a ≡ end_items b
ends_quiet shows once setting recovers one other a b valid same g h =
    sym (quiet_ends a) ∙ ap (λ (is : List Item). end_items is) (items_quiet shows once setting recovers one other a b valid same g h) ∙ quiet_ends b

ends_alike : ShowsOnce → RecoversOnce → EndingsAreOne → (setting : Setting) (recovers : Bool) (one other : List Came) (now : ℕ) (a b : End) → Valid setting.start
    → but_silence one ≡ but_silence other → IsEndOf setting recovers one now a → IsEndOf setting recovers other now b → a ≡ b
ends_alike shows once ends setting recovers one other now a b valid same g h =
    let O : List EndItem → Type 0 = λ is. IsEndAt setting is now a in
    ends setting (end_items h.0) now a b valid (subst O (ends_quiet shows once setting recovers one other g.0 h.0 valid same g.1 h.1) g.2) h.2

dues_alike : ShowsOnce → RecoversOnce → DueOnce → (setting : Setting) (recovers : Bool) (one other : List Came) (now : ℕ) (a b : Option ℕ) → Valid setting.start
    → but_silence one ≡ but_silence other → IsEndDueOf setting recovers one now a → IsEndDueOf setting recovers other now b → a ≡ b
dues_alike shows once dues setting recovers one other now a b valid same g h =
    let D : List EndItem → Type 0 = λ is. IsDueAt setting is now a in
    dues setting (end_items h.0) now a b valid (subst D (ends_quiet shows once setting recovers one other g.0 h.0 valid same g.1 h.1) g.2) h.2

pub is_forgotten : ShowsOnce → RecoversOnce → AlarmsOpenOnce → ClockStopsOnce → EndingsAreOne → DueOnce → SilenceIsForgotten
is_forgotten shows once opens stops ends dues setting recovers at since first second valid same =
    let all = since_quiet at since first second same in (
      λ now heard told g h. read_alike now heard told (heard_alike shows once setting recovers _ _ heard told valid all g h)
          (silent_alike setting recovers at since first second heard told g h),
      λ looks alarms g h. alarms_alike shows once opens setting recovers _ _ looks alarms valid all g h,
      λ now end ending g h. ends_alike shows once ends setting recovers _ _ now end ending valid all g h,
      λ now due time g h. dues_alike shows once dues setting recovers _ _ now due time valid all g h,
      λ stopped stands g h. clock_alike shows once stops setting recovers _ _ stopped stands valid all g h,
    )
