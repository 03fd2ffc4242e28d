-- What a recorder says that begins again.
use Rattle.std.proofs.Common.{◌≡◌, ◌||◌, ℕ, Bool, true, false, List, [], ◌∷◌, ◌++◌, length, drop, Option, Some, None, refl, sym, ap, subst, ◌∙◌}
use Rattle.std.specs.Prelude.{◌↔◌, IsTrue, if◌then◌else◌}
use Rattle.chess_rules.specs.Valid.{Valid}
use Rattle.board_cable.specs.declared.line.Request.{Request}
use Rattle.board_cable.specs.declared.whose.Handling.{Handling}
use Rattle.board_cable.specs.Silence.{is_silent}
use Rattle.board_cable.specs.Whose.{own_number}
use Rattle.board_cable.specs.declared.happened.What.TheVariants.{Begins}
use Rattle.board_cable.specs.Keeping.{kept}
use Rattle.board_cable.specs.Turns.{Told, Turn, told}
use Rattle.board_cable.proofs.Once.{turns_once}
use Rattle.board_endings.specs.declared.news.End.{End}
use Rattle.board_events.specs.Settings.{Setting}
use Rattle.board_alarms.specs.declared.look.Look.{Look}
use Rattle.board_alarms.specs.Looks.{alarms as alarms_of}
use Rattle.board_alarms.specs.declared.news.News.{News as AlarmNews}
use Rattle.board_alarms.specs.Hearing.{AreOpen}
use Rattle.board_game.specs.declared.note.Note.TheVariants.{Line as LineNews}
use Rattle.board_game.specs.Alarming.{AlarmsAre, ClockIsStopped, alarm_items, of_line, with_news as with_alarm_news}
use Rattle.board_game.specs.History.{Came, Item, News}
use Rattle.board_game.specs.Laws.{EndDueOnce, EndsOnce, HearsOnce, OpensOnce, StopsOnce}
use Rattle.board_standing.specs.declared.heard.Heard.{Heard}
use Rattle.board_standing.specs.declared.heard.Heard.TheVariants.{Answers as AnswersAgain, Begins as RecorderBegins, Stops}
use Rattle.board_standing.specs.declared.state.State.{State}
use Rattle.board_live.specs.declared.happened.What.{What}
use Rattle.board_live.specs.declared.happened.What.TheVariants.{Cable}
use Rattle.board_live.specs.declared.live.Answer.{Answer}
use Rattle.board_live.specs.Coming.{HasRoom, came, came_with, lined, silence, with_news}
use Rattle.board_live.specs.Due.{IsDue}
use Rattle.board_live.specs.Ending.{last_at}
use Rattle.board_live.specs.Laws.{AnsweredAlike, as_kept, with_number}
use Rattle.board_live.specs.Live.{Answers, clock_news, unsaid}
use Rattle.board_live.specs.Moments.{Moment, already, begins, cabled, is_added, news_of}
use Rattle.board_live.specs.Restarts.{IsAnswered, RestartsSayTheSame, SaysOpenAlarms, WakesAt}
use Rattle.board_live.specs.Saying.{is_live, live_by}
use Rattle.board_live.proofs.Alike.{begun, keeps_begun, kept_begun, none_told, restarts}
use Rattle.board_live.proofs.Dues.{due_same}
use Rattle.board_live.proofs.Ends.{ends_alike, last_same}
use Rattle.board_live.proofs.Fed.{is_kept}
use Rattle.board_live.proofs.Saids.{live_alike, says_alike}

-- ---- the same answer

pub both_or_neither : (a b : Bool) (P : Type 0) → (IsTrue a ↔ P) → (IsTrue b ↔ P) → a ≡ b
both_or_neither true true P g h = refl
both_or_neither true false P g h = absurd (let t = h.1 (g.0 refl) in cc)
both_or_neither false true P g h = absurd (let t = g.1 (h.0 refl) in cc)
both_or_neither false false P g h = refl

abbrev answer_with : Handling → Option (List ℕ) → Option Request → ℕ → Option Bool → Option State → End → Bool → Answer
answer_with handling number request unsaid stopped state end whole = record {
  handling = handling;
  number = number;
  request = request;
  unsaid = unsaid;
  is_clock_stopped = stopped;
  state = state;
  end = end;
  is_whole = whole;
}

pub answer_same : (a b : Answer) → a.handling ≡ b.handling → a.number ≡ b.number → a.request ≡ b.request → a.unsaid ≡ b.unsaid → a.is_clock_stopped ≡ b.is_clock_stopped → a.state ≡ b.state → a.end ≡ b.end → a.is_whole ≡ b.is_whole → a ≡ b
answer_same a b h n r u c s e w =
    ap (λ x. answer_with x a.number a.request a.unsaid a.is_clock_stopped a.state a.end a.is_whole) h
    ∙ ap (λ x. answer_with b.handling x a.request a.unsaid a.is_clock_stopped a.state a.end a.is_whole) n
    ∙ ap (λ x. answer_with b.handling b.number x a.unsaid a.is_clock_stopped a.state a.end a.is_whole) r
    ∙ ap (λ x. answer_with b.handling b.number b.request x a.is_clock_stopped a.state a.end a.is_whole) u
    ∙ ap (λ x. answer_with b.handling b.number b.request b.unsaid x a.state a.end a.is_whole) c
    ∙ ap (λ x. answer_with b.handling b.number b.request b.unsaid b.is_clock_stopped x a.end a.is_whole) s
    ∙ ap (λ x. answer_with b.handling b.number b.request b.unsaid b.is_clock_stopped b.state x a.is_whole) e
    ∙ ap (λ x. answer_with b.handling b.number b.request b.unsaid b.is_clock_stopped b.state b.end x) w

alarms_same : OpensOnce → (setting : Setting) (recovers : Bool) (has other : List Came) (a b : List Look) → Valid setting.start → has ≡ other
    → AlarmsAre setting recovers has a → AlarmsAre setting recovers other b → a ≡ b
alarms_same opens setting recovers has other a b valid same g h =
    let A : List Came → Type 0 = λ x. AlarmsAre setting recovers x a in
    opens setting recovers other a b valid (subst A same g) h

-- What is said of the clock where both have alike what came, and before that had it alike.
pub clock_step : (first live second before earlier now next : Bool) (said other : Option Bool) → live ≡ second → before ≡ earlier → now ≡ next
    → said ≡ clock_news live first before now → other ≡ clock_news second first earlier next → said ≡ other
clock_step first live second before earlier now next said other l b n g h =
    g ∙ ap (λ x. clock_news x first before now) l ∙ ap (λ x. clock_news second first x now) b ∙ ap (λ x. clock_news second first earlier x) n ∙ sym h

-- When a call begins, it says that the clock is stopped, if it is.
pub clock_first : (m : Moment) (past : List Moment) (before now : Bool) (news : Option Bool) → m.what ≡ Cable Begins
    → news ≡ clock_news (is_live (m ∷ past)) (begins m.what) before now → news ≡ clock_news true true false now
clock_first m past before now news is g = g ∙ ap (λ w. clock_news (live_by w (is_live past)) (begins w) before now) is

clock_same : StopsOnce → (setting : Setting) (recovers : Bool) (has other : List Came) (a b : Bool) → Valid setting.start → has ≡ other
    → ClockIsStopped setting recovers has a → ClockIsStopped setting recovers other b → a ≡ b
clock_same stops setting recovers has other a b valid same g h =
    let A : List Came → Type 0 = λ x. ClockIsStopped setting recovers x a in
    stops setting recovers other a b valid (subst A same g) h

-- If both have alike what came, and the same is said of the state and of the end, the same is answered.
same_answer : OpensOnce → StopsOnce → (setting : Setting) (recovers : Bool) (m : Moment) (past other : List Moment) (t u : Turn) (ts us : List Turn) (a b : Answer)
    → Valid setting.start → AnsweredAlike (m ∷ past) t ts (m ∷ other) u us → came past ts ≡ came other us → is_live (m ∷ past) ≡ is_live (m ∷ other)
    → a.state ≡ b.state → a.end ≡ b.end → Answers setting recovers m past t ts a → Answers setting recovers m other u us b → a ≡ b
same_answer opens stops setting recovers m past other t u ts us a b valid alike has live state end g h =
    let before = alarms_same opens setting recovers (came past ts) (came other us) g.alarms.before h.alarms.before valid has g.alarms.before_are h.alarms.before_are in
    let now = alarms_same opens setting recovers (came (m ∷ past) (t ∷ ts)) (came (m ∷ other) (u ∷ us)) g.alarms.now h.alarms.now valid alike.came g.alarms.now_are h.alarms.now_are in
    let was = clock_same stops setting recovers (came past ts) (came other us) g.clock.before h.clock.before valid has g.clock.before_is h.clock.before_is in
    let stands = clock_same stops setting recovers (came (m ∷ past) (t ∷ ts)) (came (m ∷ other) (u ∷ us)) g.clock.now h.clock.now valid alike.came g.clock.now_is h.clock.now_is in
    let R : List ℕ → List Came → Type 0 = λ bytes before. HasRoom m.at (news_of m.what) (is_added m.what) (already m.what m.bytes) bytes before in
    let W : List ℕ → Type 0 = λ bytes. IsTrue a.is_whole ↔ R bytes (came past ts) in
    let V : List Came → Type 0 = λ before. IsTrue a.is_whole ↔ R (kept (u ∷ us)) before in
    answer_same a b (g.handling ∙ alike.handling ∙ sym h.handling) (g.number ∙ alike.number m.what ∙ sym h.number) (g.request ∙ alike.request ∙ sym h.request)
    (g.alarms.count_is ∙ ap (λ x. unsaid x (begins m.what) (length g.alarms.before) (length g.alarms.now)) live
    ∙ ap (λ (x : List Look). unsaid (is_live (m ∷ other)) (begins m.what) (length x) (length g.alarms.now)) before
    ∙ ap (λ (x : List Look). unsaid (is_live (m ∷ other)) (begins m.what) (length h.alarms.before) (length x)) now ∙ sym h.alarms.count_is)
    (clock_step (begins m.what) (is_live (m ∷ past)) (is_live (m ∷ other)) g.clock.before h.clock.before g.clock.now h.clock.now a.is_clock_stopped b.is_clock_stopped live was stands
    g.clock.news_is h.clock.news_is)
    state end (both_or_neither a.is_whole b.is_whole (R (kept (u ∷ us)) (came other us)) (subst V has (subst W alike.kept g.whole)) h.whole)

pub same_said : OpensOnce → StopsOnce → (setting : Setting) (recovers : Bool) (m : Moment) (past other : List Moment) (t u : Turn) (ts us : List Turn) (a b : Answer) (looks alarms : List Look)
    → Valid setting.start → AnsweredAlike (m ∷ past) t ts (m ∷ other) u us → came past ts ≡ came other us → is_live (m ∷ past) ≡ is_live (m ∷ other)
    → a.state ≡ b.state → a.end ≡ b.end → IsAnswered setting recovers (m ∷ past) (t ∷ ts) a looks → IsAnswered setting recovers (m ∷ other) (u ∷ us) b alarms
    → (a ≡ b) × (looks ≡ alarms)
same_said opens stops setting recovers m past other t u ts us a b looks alarms valid alike has live state end g h =
    let answer = same_answer opens stops setting recovers m past other t u ts us a b valid alike has live state end g.0 h.0 in
    let standing = alarms_same opens setting recovers (came (m ∷ past) (t ∷ ts)) (came (m ∷ other) (u ∷ us)) g.1.0 h.1.0 valid alike.came g.1.1 h.1.1 in
    (answer, g.1.2 ∙ ap (λ (x : Answer). drop x.unsaid g.1.0) answer ∙ ap (λ x. drop b.unsaid x) standing ∙ sym h.1.2)

-- What has come to the game before the last moment of a call.
came_before : (past : List Moment) (m : Moment) (before ts us : List Turn) → Told (cabled past) before → Told (cabled past) ts
    → Told (cabled (with_number m.at (own_number (told before)) (as_kept past before))) us
    → came past ts ≡ came (with_number m.at (own_number (told before)) (as_kept past before)) us
came_before past m before ts us first g h =
    ap (λ x. came past x) (turns_once (cabled past) ts before g first) ∙ sym (is_kept m.at past before us first h).1

-- The same answers are given, with the same alarms.
abbrev AnswerAlike : Type 0
AnswerAlike = (setting : Setting) (recovers : Bool) (call past : List Moment) (begins : Moment) (before turns others : List Turn)
    (answer other : Answer) (looks alarms : List Look) → Valid setting.start → begins.what ≡ Cable Begins → Told (cabled past) before
    → let kept : List Moment = with_number begins.at (own_number (told before)) (as_kept past before) in
    Told (cabled (call ++ begins ∷ past)) turns → Told (cabled (call ++ begins ∷ kept)) others
    → IsAnswered setting recovers (call ++ begins ∷ past) turns answer looks → IsAnswered setting recovers (call ++ begins ∷ kept) others other alarms
    → (answer ≡ other) × (looks ≡ alarms)

answers_the_same : HearsOnce → OpensOnce → StopsOnce → EndsOnce → AnswerAlike
answers_the_same hears opens stops ends setting recovers call past m before [] others a b looks alarms valid is first g h p q = absurd (none_told m call past g)
answers_the_same hears opens stops ends setting recovers call past m before (t ∷ ts) [] a b looks alarms valid is first g h p q =
    absurd (none_told m call (with_number m.at (own_number (told before)) (as_kept past before)) h)
answers_the_same hears opens stops ends setting recovers [] past m before (t ∷ ts) (u ∷ us) a b looks alarms valid is first g h p q =
    let kept = with_number m.at (own_number (told before)) (as_kept past before) in
    let state = says_alike hears setting recovers [] past m before (t ∷ ts) (u ∷ us) a.state b.state p.0.last q.0.last valid is first g h p.0.said q.0.said in
    same_said opens stops setting recovers m past kept t u ts us a b looks alarms valid (restarts [] past m before t u ts us is first g h)
    (came_before past m before ts us first g.0 h.0) (live_alike [] past kept m is) state
    (ends_alike ends setting recovers [] past m before (t ∷ ts) (u ∷ us) a.end b.end valid is first g h p.0.end q.0.end) p q
answers_the_same hears opens stops ends setting recovers (one ∷ call) past m before (t ∷ []) (u ∷ us) a b looks alarms valid is first g h p q = absurd (none_told m call past g.0)
answers_the_same hears opens stops ends setting recovers (one ∷ call) past m before (t ∷ v ∷ ts) (u ∷ []) a b looks alarms valid is first g h p q =
    absurd (none_told m call (with_number m.at (own_number (told before)) (as_kept past before)) h.0)
answers_the_same hears opens stops ends setting recovers (one ∷ call) past m before (t ∷ v ∷ ts) (u ∷ w ∷ us) a b looks alarms valid is first g h p q =
    let kept = with_number m.at (own_number (told before)) (as_kept past before) in
    let state = says_alike hears setting recovers (one ∷ call) past m before (t ∷ v ∷ ts) (u ∷ w ∷ us) a.state b.state p.0.last q.0.last valid is first g h p.0.said q.0.said in
    same_said opens stops setting recovers one (call ++ m ∷ past) (call ++ m ∷ kept) t u (v ∷ ts) (w ∷ us) a b looks alarms valid
    (restarts (one ∷ call) past m before t u (v ∷ ts) (w ∷ us) is first g h) (restarts call past m before v w ts us is first g.0 h.0).came
    (live_alike (one ∷ call) past kept m is) state
    (ends_alike ends setting recovers (one ∷ call) past m before (t ∷ v ∷ ts) (u ∷ w ∷ us) a.end b.end valid is first g h p.0.end q.0.end) p q

-- The same times to wake are named.
wakes_alike : HearsOnce → EndDueOnce → (setting : Setting) (recovers : Bool) (call past : List Moment) (m : Moment) (before turns others : List Turn) (due time : Option ℕ)
    → Valid setting.start → m.what ≡ Cable Begins → Told (cabled past) before → Told (cabled (call ++ m ∷ past)) turns
    → Told (cabled (call ++ m ∷ with_number m.at (own_number (told before)) (as_kept past before))) others
    → WakesAt setting recovers (call ++ m ∷ past) turns due
    → WakesAt setting recovers (call ++ m ∷ with_number m.at (own_number (told before)) (as_kept past before)) others time → due ≡ time
wakes_alike hears ends setting recovers call past m before [] others due time valid is first g h p q = absurd (none_told m call past g)
wakes_alike hears ends setting recovers call past m before (t ∷ ts) [] due time valid is first g h p q =
    absurd (none_told m call (with_number m.at (own_number (told before)) (as_kept past before)) h)
wakes_alike hears ends setting recovers call past m before (t ∷ ts) (u ∷ us) due time valid is first g h p q =
    let kept = with_number m.at (own_number (told before)) (as_kept past before) in
    let alike = restarts call past m before t u ts us is first g h in
    let D : ℕ → Type 0 = λ at. IsDue setting recovers (came (call ++ m ∷ past) (t ∷ ts)) (told (t ∷ ts)) at due in
    due_same hears ends setting recovers (came (call ++ m ∷ past) (t ∷ ts)) (came (call ++ m ∷ kept) (u ∷ us)) (told (t ∷ ts)) (told (u ∷ us)) (last_at (call ++ m ∷ kept)) due time valid
    alike.came alike.asked alike.handled (subst D (last_same call past kept m) p) q

pub says_the_same : HearsOnce → OpensOnce → StopsOnce → EndsOnce → EndDueOnce → RestartsSayTheSame
says_the_same hears opens stops ends dues setting recovers call past m before turns others valid is first g h = (
  λ answer other looks alarms p q. answers_the_same hears opens stops ends setting recovers call past m before turns others answer other looks alarms valid is first g h p q,
  λ due time p q. wakes_alike hears dues setting recovers call past m before turns others due time valid is first g h p q,
)

-- ---- the first answer

-- News of the line that is none to alarms changes none.
no_alarm : (setting : Setting) (recovers : Bool) (at : ℕ) (heard : Heard) (past : List Came) (looks : List Look) → of_line heard ≡ None
    → AlarmsAre setting recovers (News at (LineNews heard) ∷ past) looks → AlarmsAre setting recovers past looks
no_alarm setting recovers at heard past looks none h =
    let O : List Item → Type 0 = λ items. AreOpen setting (alarm_items items) looks in
    let N : Option AlarmNews → Type 0 = λ news. AreOpen setting (with_alarm_news at news (alarm_items h.1.0)) looks in
    (h.1.0, h.1.1, subst N none (subst O h.1.2 h.2))

if_again : (again : Bool) (setting : Setting) (recovers : Bool) (at : ℕ) (past : List Came) (looks : List Look)
    → AlarmsAre setting recovers (with_news at (lined (if again then Some AnswersAgain else None)) past) looks → AlarmsAre setting recovers past looks
if_again true setting recovers at past looks h = no_alarm setting recovers at AnswersAgain past looks refl h
if_again false setting recovers at past looks h = h

silence_opens_none : (setting : Setting) (recovers : Bool) (at : ℕ) (what : What) (before now : Bool) (past : List Came) (looks : List Look)
    → AlarmsAre setting recovers (with_news at (lined (silence what before now)) past) looks → AlarmsAre setting recovers past looks
silence_opens_none setting recovers at what before true past looks h = no_alarm setting recovers at Stops past looks refl h
silence_opens_none setting recovers at what before false past looks h = if_again (before || begins what) setting recovers at past looks h

-- That a call begins opens no alarm, and ends none.
beginning_opens_none : (setting : Setting) (recovers : Bool) (at : ℕ) (past : List Came) (looks : List Look)
    → AlarmsAre setting recovers (News at (LineNews RecorderBegins) ∷ past) looks → AlarmsAre setting recovers past looks
beginning_opens_none setting recovers at past looks h =
    let O : List Item → Type 0 = λ items. AreOpen setting (alarm_items items) looks in
    let standing : AreOpen setting (with_alarm_news at (of_line RecorderBegins) (alarm_items h.1.0)) looks = subst O h.1.2 h.2 in
    let tells = standing.1 in
    (h.1.0, h.1.1, (tells.0, tells.2, standing.2 ∙ ap alarms_of tells.4))

pub said_first : (m : Moment) (past : List Moment) (before now : ℕ) → m.what ≡ Cable Begins → unsaid (is_live (m ∷ past)) (begins m.what) before now ≡ 0
said_first m past before now is = ap (λ w. unsaid (live_by w (is_live past)) (begins w) before now) is

pub says_open_alarms : OpensOnce → SaysOpenAlarms
says_open_alarms opens setting recovers past m t ts answer looks standing valid is g p old =
    let first = begun m ts t _ is g.2 in
    let keeps = kept_begun m t ts is g.1 (keeps_begun m ts t first) in
    let C : What → List ℕ → Type 0 = λ what bytes. AlarmsAre setting recovers
    (came_with m.at (news_of what) (is_added what) (already what m.bytes) bytes (silence m.what (is_silent (told ts)) (is_silent (told (t ∷ ts)))) (came past ts)) p.1.0 in
    let now : C (Cable Begins) [] = subst (C (Cable Begins)) keeps (subst (λ w. C w (kept (t ∷ ts))) is p.1.1) in
    let same : p.1.0 ≡ standing = opens setting recovers (came past ts) p.1.0 standing valid (beginning_opens_none setting recovers m.at (came past ts) p.1.0
    (silence_opens_none setting recovers m.at m.what (is_silent (told ts)) (is_silent (told (t ∷ ts))) (News m.at (LineNews RecorderBegins) ∷ came past ts) p.1.0 now)) old in
    p.1.2 ∙ ap (λ n. drop n p.1.0) (p.0.alarms.count_is ∙ said_first m past (length p.0.alarms.before) (length p.0.alarms.now) is) ∙ same
