-- What the files have of a call brings the game what the call brought it, but the board's silence.
use Rattle.std.proofs.Common.{◌≡◌, ◌||◌, ◌<◌, ◌≤◌, ◌^◌, ◌-◌, ℕ, Bool, true, false, List, [], ◌∷◌, ◌++◌, length, drop, take, Option, Some, None, refl, sym, ap, subst, ◌∙◌}
use Rattle.std.specs.Prelude.{◌↔◌, IsTrue, if◌then◌else◌}
use Rattle.chess_rules.specs.Valid.{Valid}
use Rattle.square_runs.specs.Squares.{Marks}
use Rattle.board_cable.specs.declared.line.Event.{Event}
use Rattle.board_cable.specs.declared.line.Happening.TheVariants.{Begins as LineBegins}
use Rattle.board_cable.specs.Silence.{is_silent}
use Rattle.board_cable.specs.Whose.{is_own, own_number}
use Rattle.board_cable.specs.declared.happened.What.TheVariants.{Begins}
use Rattle.board_cable.specs.Keeping.{kept}
use Rattle.board_cable.specs.Turns.{Told, Turn, told}
use Rattle.board_cable.proofs.Once.{turns_once}
use Rattle.board_endings.specs.declared.news.End.{End}
use Rattle.board_events.specs.Limits.{limit}
use Rattle.board_events.specs.Settings.{Setting}
use Rattle.board_alarms.specs.declared.look.Look.{Look}
use Rattle.board_alarms.specs.declared.chunk.When.{When}
use Rattle.board_game.specs.declared.note.Note.{Note}
use Rattle.board_game.specs.declared.note.Note.TheVariants.{Line as LineNews}
use Rattle.board_game.specs.Alarming.{AlarmsAre, ClockIsStopped}
use Rattle.board_game.specs.Ending.{IsEndOf}
use Rattle.board_game.specs.Games.{IsStateOf}
use Rattle.board_game.specs.Hearing.{IsHeard}
use Rattle.board_game.specs.History.{Bytes, Came, News, bytes_of, room_of}
use Rattle.board_game.specs.Silences.{SilenceIsForgotten, but_silence, tells_silence}
use Rattle.board_game.proofs.SilenceLemmas.{quiet_bytes, since_quiet}
use Rattle.board_standing.specs.declared.heard.Heard.{Heard}
use Rattle.board_standing.specs.declared.heard.Heard.TheVariants.{Answers as AnswersAgain, Begins as RecorderBegins}
use Rattle.board_standing.specs.declared.state.State.{State}
use Rattle.board_standing.specs.States.{names_at}
use Rattle.board_live.specs.declared.happened.What.{What}
use Rattle.board_live.specs.declared.happened.What.TheVariants.{Cable}
use Rattle.board_live.specs.declared.live.Answer.{Answer}
use Rattle.board_live.specs.Coming.{came, came_with, lined, silence, when, with_bytes, with_news}
use Rattle.board_live.specs.Due.{IsDue}
use Rattle.board_live.specs.Ending.{last_at}
use Rattle.board_live.specs.Laws.{with_kept, with_number, with_told}
use Rattle.board_live.specs.Live.{Answers, clock_news, unsaid}
use Rattle.board_live.specs.Moments.{Moment, already, begins, cabled, is_added, news_of}
use Rattle.board_live.specs.Restarts.{FilesSayTheSame, IsAnswered, WakesAt, as_filed}
use Rattle.board_live.specs.Saying.{IsRead, IsSaid, is_live, said_before}
use Rattle.board_live.proofs.Alike.{Likewise, begun, earlier, keeps_begun, kept_begun, likewise, none_told, silence_at}
use Rattle.board_live.proofs.Dues.{due_by}
use Rattle.board_live.proofs.Ends.{end_begun, end_step, last_same}
use Rattle.board_live.proofs.Fed.{Fed, fed_kept, fed_none, fed_told, numbered, turn_asked}
use Rattle.board_live.proofs.Lines.{line_of, same_asks, same_handlings, same_own}
use Rattle.board_live.proofs.Saids.{first_said, live_alike, read_same, said_step, squares_once, state_same}
use Rattle.board_live.proofs.Says.{answer_same, both_or_neither, clock_first, clock_step, said_first}

-- ---- what the files bring the game

abbrev pub came_filed : List Moment → List Turn → List Came
came_filed [] turns = []
came_filed (m ∷ past) [] = []
came_filed (m ∷ past) (t ∷ ts) = with_bytes (when m.at false) (kept (t ∷ ts)) (with_bytes (when m.at (is_added m.what)) (already m.what m.bytes)
    (with_news m.at (news_of m.what) (came_filed past ts)))

pub fed_filed : (past : List Moment) (turns : List Turn) → Told (cabled past) turns → Fed (as_filed past turns) (came_filed past turns)
fed_filed [] turns h = fed_none
fed_filed (m ∷ past) [] h = absurd h
fed_filed (m ∷ past) (turn ∷ turns) h =
    let at = m.at in
    let news = news_of m.what in
    let has = already m.what m.bytes in
    let added = is_added m.what in
    let moments = as_filed past turns in
    let before = came_filed past turns in
    fed_kept at false (kept (turn ∷ turns)) (with_kept at added has (with_told at news moments)) (with_bytes (when at added) has (with_news at news before))
    (fed_kept at added has (with_told at news moments) (with_news at news before) (fed_told at news moments before (fed_filed past turns h.0)))

room_alike : (a b : List Came) → but_silence a ≡ but_silence b → room_of a ≡ room_of b
room_alike a b same =
    ap (λ (bs : List ℕ). limit - length bs) (sym (quiet_bytes a) ∙ ap (λ (c : List Came). bytes_of c) same ∙ quiet_bytes b)

bytes_alike : (time : When) (bytes : List ℕ) (a b : List Came) → but_silence a ≡ but_silence b → but_silence (with_bytes time bytes a) ≡ but_silence (with_bytes time bytes b)
bytes_alike time [] a b same = same
bytes_alike time (byte ∷ bytes) a b same =
    ap (λ n. Bytes time (take n (byte ∷ bytes)) ∷ but_silence a) (room_alike a b same) ∙ ap (λ (c : List Came). Bytes time (take (room_of b) (byte ∷ bytes)) ∷ c) same

news_alike : (at : ℕ) (note : Option Note) (a b : List Came) → but_silence a ≡ but_silence b → but_silence (with_news at note a) ≡ but_silence (with_news at note b)
news_alike at None a b same = same
news_alike at (Some note) a b same = ap (λ (c : List Came). if tells_silence note then c else News at note ∷ c) same

again_alike : (again : Bool) (at : ℕ) (a : List Came) → but_silence (with_news at (lined (if again then Some AnswersAgain else None)) a) ≡ but_silence a
again_alike true at a = refl
again_alike false at a = refl

silence_alike : (what : What) (before now : Bool) (at : ℕ) (a : List Came) → but_silence (with_news at (lined (silence what before now)) a) ≡ but_silence a
silence_alike what before true at a = refl
silence_alike what before false at a = again_alike (before || begins what) at a

pub filed_alike : (past : List Moment) (turns : List Turn) → but_silence (came past turns) ≡ but_silence (came_filed past turns)
filed_alike [] turns = refl
filed_alike (m ∷ past) [] = refl
filed_alike (m ∷ past) (t ∷ ts) =
    let has : List Came = with_bytes (when m.at false) (kept (t ∷ ts)) (with_bytes (when m.at (is_added m.what)) (already m.what m.bytes) (with_news m.at (news_of m.what) (came past ts))) in
    silence_alike m.what (is_silent (told ts)) (is_silent (told (t ∷ ts))) m.at has
    ∙ bytes_alike (when m.at false) (kept (t ∷ ts)) (with_bytes (when m.at (is_added m.what)) (already m.what m.bytes) (with_news m.at (news_of m.what) (came past ts)))
    (with_bytes (when m.at (is_added m.what)) (already m.what m.bytes) (with_news m.at (news_of m.what) (came_filed past ts)))
    (bytes_alike (when m.at (is_added m.what)) (already m.what m.bytes) (with_news m.at (news_of m.what) (came past ts)) (with_news m.at (news_of m.what) (came_filed past ts))
    (news_alike m.at (news_of m.what) (came past ts) (came_filed past ts) (filed_alike past ts)))

abbrev filed_with : Moment → List Moment → List Turn → List Moment
filed_with m past before = with_number m.at (own_number (told before)) (as_filed past before)

-- The files bring the game the same, but the silence, and the number.
is_filed : (m : Moment) (past : List Moment) (before turns : List Turn) → Told (cabled past) before → Told (cabled (filed_with m past before)) turns
    → (own_number (told before) ≡ own_number (told turns)) × (but_silence (came past before) ≡ but_silence (came (filed_with m past before) turns))
is_filed m past before turns h k =
    let n = numbered m.at (own_number (told before)) (as_filed past before) (came_filed past before) turns (fed_filed past before h) k in
    (sym n.0, filed_alike past before ∙ sym (ap (λ (c : List Came). but_silence c) n.1))

-- ---- since a call has begun

-- A board answered in both, after the same but silence; and the same came since.
pub record Since (one other : List Came) : Type 0 where
  pub at : ℕ
  pub since : List Came
  pub first : List Came
  pub second : List Came
  pub one_is : one ≡ since ++ News at (LineNews AnswersAgain) ∷ first
  pub other_is : other ≡ since ++ News at (LineNews AnswersAgain) ∷ second
  pub same : but_silence first ≡ but_silence second

pub since_alike : (a b : List Came) → Since a b → but_silence a ≡ but_silence b
since_alike a b s =
    ap (λ (c : List Came). but_silence c) s.one_is ∙ since_quiet s.at s.since s.first s.second s.same ∙ sym (ap (λ (c : List Came). but_silence c) s.other_is)

since_more : (c d : Came) (a b : List Came) → c ≡ d → Since a b → Since (c ∷ a) (d ∷ b)
since_more c d a b e s = record {
  at = s.at;
  since = d ∷ s.since;
  first = s.first;
  second = s.second;
  one_is = ap (λ (x : Came). x ∷ a) e ∙ ap (λ (x : List Came). d ∷ x) s.one_is;
  other_is = ap (λ (x : List Came). d ∷ x) s.other_is;
  same = s.same;
}

since_bytes : (time : When) (bytes : List ℕ) (a b : List Came) → Since a b → Since (with_bytes time bytes a) (with_bytes time bytes b)
since_bytes time [] a b s = s
since_bytes time (byte ∷ bytes) a b s =
    since_more (Bytes time (take (room_of a) (byte ∷ bytes))) (Bytes time (take (room_of b) (byte ∷ bytes))) a b
    (ap (λ n. Bytes time (take n (byte ∷ bytes))) (room_alike a b (since_alike a b s))) s

since_news : (at : ℕ) (note : Option Note) (a b : List Came) → Since a b → Since (with_news at note a) (with_news at note b)
since_news at None a b s = s
since_news at (Some note) a b s = since_more (News at note) (News at note) a b refl s

pub since_came : (at : ℕ) (news : Option Note) (added : Bool) (bytes kept : List ℕ) (silence : Option Heard) (a b : List Came) → Since a b
    → Since (came_with at news added bytes kept silence a) (came_with at news added bytes kept silence b)
since_came at news added bytes kept silence a b s =
    let x : List Came = with_news at news a in
    let y : List Came = with_news at news b in
    since_news at (lined silence) (with_bytes (when at false) kept (with_bytes (when at added) bytes x)) (with_bytes (when at false) kept (with_bytes (when at added) bytes y))
    (since_bytes (when at false) kept (with_bytes (when at added) bytes x) (with_bytes (when at added) bytes y)
    (since_bytes (when at added) bytes x y (since_news at news a b s)))

pub since_turn : (m : Moment) (past other : List Moment) (t u : Turn) (ts us : List Turn) → Likewise (m ∷ past) (m ∷ other) t u ts us → Since (came past ts) (came other us)
    → Since (came (m ∷ past) (t ∷ ts)) (came (m ∷ other) (u ∷ us))
since_turn m past other t u ts us same s =
    let S : List ℕ → Option Heard → Type 0 = λ bytes silence. Since (came (m ∷ past) (t ∷ ts))
    (came_with m.at (news_of m.what) (is_added m.what) (already m.what m.bytes) bytes silence (came other us)) in
    let here : S (kept (t ∷ ts)) (silence_at (m ∷ past) (t ∷ ts)) =
    since_came m.at (news_of m.what) (is_added m.what) (already m.what m.bytes) (kept (t ∷ ts)) (silence_at (m ∷ past) (t ∷ ts)) (came past ts) (came other us) s in
    subst (λ silence. S (kept (u ∷ us)) silence) same.silence (subst (λ bytes. S bytes (silence_at (m ∷ past) (t ∷ ts))) same.kept here)

begins_answered : (silent : Bool) (at : ℕ) (has : List Came) → came_with at (news_of (Cable Begins)) false [] [] (silence (Cable Begins) silent false) has
    ≡ News at (LineNews AnswersAgain) ∷ News at (LineNews RecorderBegins) ∷ has
begins_answered true at has = refl
begins_answered false at has = refl

-- When a call begins, the board counts as answering.
pub answers_begun : (m : Moment) (past : List Moment) (t : Turn) (ts : List Turn) → m.what ≡ Cable Begins → Told (cabled (m ∷ past)) (t ∷ ts)
    → came (m ∷ past) (t ∷ ts) ≡ News m.at (LineNews AnswersAgain) ∷ News m.at (LineNews RecorderBegins) ∷ came past ts
answers_begun m past t ts is g =
    let now = begun m ts t _ is g.2 in
    let none = kept_begun m t ts is g.1 (keeps_begun m ts t now) in
    let all : told (t ∷ ts) ≡ record { at = m.at; what = LineBegins } ∷ told ts = turn_asked t ts (record { at = m.at; what = LineBegins } ∷ told ts) now refl in
    let quiet : is_silent (told (t ∷ ts)) ≡ false = ap is_silent all in
    let C : What → List ℕ → Bool → List Came = λ what bytes silent. came_with m.at (news_of what) (is_added what) (already what m.bytes) bytes (silence what (is_silent (told ts)) silent) (came past ts) in
    ap (λ what. C what (kept (t ∷ ts)) (is_silent (told (t ∷ ts)))) is ∙ ap (λ bytes. C (Cable Begins) bytes (is_silent (told (t ∷ ts)))) none
    ∙ ap (λ b. C (Cable Begins) [] b) quiet ∙ begins_answered (is_silent (told ts)) m.at (came past ts)

since_call : (call past : List Moment) (m : Moment) (before : List Turn) (t u : Turn) (ts us : List Turn) → m.what ≡ Cable Begins → Told (cabled past) before
    → Told (cabled (call ++ m ∷ past)) (t ∷ ts) → Told (cabled (call ++ m ∷ filed_with m past before)) (u ∷ us)
    → Likewise (call ++ m ∷ past) (call ++ m ∷ filed_with m past before) t u ts us × Since (came (call ++ m ∷ past) (t ∷ ts)) (came (call ++ m ∷ filed_with m past before) (u ∷ us))
since_call [] past m before t u ts us is first g h =
    let filed = filed_with m past before in
    let base = is_filed m past before us first h.0 in
    let had : but_silence (came past ts) ≡ but_silence (came filed us) =
    ap (λ x. but_silence (came past x)) (turns_once (cabled past) ts before g.0 first) ∙ base.1 in (
      likewise [] past filed m before us t u ts us is first h.0 base.0 g h,
      record {
        at = m.at;
        since = [];
        first = News m.at (LineNews RecorderBegins) ∷ came past ts;
        second = News m.at (LineNews RecorderBegins) ∷ came filed us;
        one_is = answers_begun m past t ts is g;
        other_is = answers_begun m filed u us is h;
        same = ap (λ (c : List Came). News m.at (LineNews RecorderBegins) ∷ c) had;
      },
    )
since_call (one ∷ call) past m before t u [] us is first g h = absurd (none_told m call past g.0)
since_call (one ∷ call) past m before t u (v ∷ ts) [] is first g h = absurd (none_told m call (filed_with m past before) h.0)
since_call (one ∷ call) past m before t u (v ∷ ts) (w ∷ us) is first g h =
    let filed = filed_with m past before in
    let second = earlier (one ∷ call) filed m (u ∷ w ∷ us) h in
    let base = is_filed m past before second.0 first second.1 in
    let same = likewise (one ∷ call) past filed m before second.0 t u (v ∷ ts) (w ∷ us) is first second.1 base.0 g h in
    (same, since_turn one (call ++ m ∷ past) (call ++ m ∷ filed) t u (v ∷ ts) (w ∷ us) same (since_call call past m before v w ts us is first g.0 h.0).1)

-- ---- what is said

pub state_since : SilenceIsForgotten → (setting : Setting) (recovers : Bool) (one other : List Came) (now : ℕ) (a b : State) → Valid setting.start
    → a.squares < 2 ^ 64 → b.squares < 2 ^ 64 → Since one other → IsStateOf setting recovers one now a → IsStateOf setting recovers other now b → a ≡ b
state_since forgotten setting recovers one other now a b valid fits within s g h =
    let H : List Came → Type 0 = λ c. IsHeard setting recovers c g.heard in
    let K : List Came → Type 0 = λ c. IsHeard setting recovers c h.heard in
    let r = (forgotten setting recovers s.at s.since s.first s.second valid s.same).0 now g.heard h.heard (subst H s.one_is g.is_heard) (subst K s.other_is h.is_heard) in
    let marks : Marks a.squares (names_at now h.heard) = λ n low. g.squares n low ∙ r.squares n in
    state_same a b (g.kind ∙ r.kind ∙ sym h.kind) (g.since ∙ r.since ∙ sym h.since) (squares_once a.squares b.squares (names_at now h.heard) fits within marks h.squares)
    (g.hint ∙ r.hint ∙ sym h.hint)

pub read_since : SilenceIsForgotten → (setting : Setting) (recovers : Bool) (past other : List Moment) (ts us : List Turn) (now : ℕ) (a b : State) → Valid setting.start
    → a.squares < 2 ^ 64 → b.squares < 2 ^ 64 → Since (came past ts) (came other us) → is_own (told ts) ≡ is_own (told us) → IsRead setting recovers past ts now a
    → IsRead setting recovers other us now b → a ≡ b
read_since forgotten setting recovers past other ts us now a b valid fits within since own g h =
    read_same setting recovers past other ts us now now a b fits within own
    (λ x y low few i j. state_since forgotten setting recovers (came past ts) (came other us) now x y valid low few since i j) g h

pub alarms_since : SilenceIsForgotten → (setting : Setting) (recovers : Bool) (one other : List Came) (a b : List Look) → Valid setting.start → Since one other
    → AlarmsAre setting recovers one a → AlarmsAre setting recovers other b → a ≡ b
alarms_since forgotten setting recovers one other a b valid s g h =
    let A : List Came → Type 0 = λ c. AlarmsAre setting recovers c a in
    let B : List Came → Type 0 = λ c. AlarmsAre setting recovers c b in
    (forgotten setting recovers s.at s.since s.first s.second valid s.same).1 a b (subst A s.one_is g) (subst B s.other_is h)

pub clock_since : SilenceIsForgotten → (setting : Setting) (recovers : Bool) (one other : List Came) (a b : Bool) → Valid setting.start → Since one other
    → ClockIsStopped setting recovers one a → ClockIsStopped setting recovers other b → a ≡ b
clock_since forgotten setting recovers one other a b valid s g h =
    let A : List Came → Type 0 = λ c. ClockIsStopped setting recovers c a in
    let B : List Came → Type 0 = λ c. ClockIsStopped setting recovers c b in
    (forgotten setting recovers s.at s.since s.first s.second valid s.same).4 a b (subst A s.one_is g) (subst B s.other_is h)

pub end_since : SilenceIsForgotten → (setting : Setting) (recovers : Bool) (one other : List Came) (now : ℕ) (a b : End) → Valid setting.start → Since one other
    → IsEndOf setting recovers one now a → IsEndOf setting recovers other now b → a ≡ b
end_since forgotten setting recovers one other now a b valid s g h =
    let A : List Came → Type 0 = λ c. IsEndOf setting recovers c now a in
    let B : List Came → Type 0 = λ c. IsEndOf setting recovers c now b in
    (forgotten setting recovers s.at s.since s.first s.second valid s.same).2 now a b (subst A s.one_is g) (subst B s.other_is h)

pub due_since : SilenceIsForgotten → (setting : Setting) (recovers : Bool) (one other : List Came) (x y : List Event) (now : ℕ) (a b : Option ℕ) → Valid setting.start → Since one other
    → line_of x ≡ line_of y → IsDue setting recovers one x now a → IsDue setting recovers other y now b → a ≡ b
due_since forgotten setting recovers one other x y now a b valid s lines g h =
    let A : List Came → Type 0 = λ c. IsDue setting recovers c x now a in
    let B : List Came → Type 0 = λ c. IsDue setting recovers c y now b in
    let all = forgotten setting recovers s.at s.since s.first s.second valid s.same in
    due_by setting recovers (s.since ++ News s.at (LineNews AnswersAgain) ∷ s.first) (s.since ++ News s.at (LineNews AnswersAgain) ∷ s.second) x y now a b
    (λ at. same_asks at x y lines) (λ at. same_handlings at x y lines) (λ due time p q. p.2 ∙ (all.0 now p.0 q.0 p.1 q.1).due ∙ sym q.2)
    (λ due time p q. all.3 now due time p q) (subst A s.one_is g) (subst B s.other_is h)

pub filed_said : SilenceIsForgotten → (setting : Setting) (recovers : Bool) (call past : List Moment) (m : Moment) (before turns others : List Turn) (said other last final : Option State)
    → Valid setting.start → m.what ≡ Cable Begins → Told (cabled past) before → Told (cabled (call ++ m ∷ past)) turns
    → Told (cabled (call ++ m ∷ filed_with m past before)) others → IsSaid setting recovers (call ++ m ∷ past) turns said last
    → IsSaid setting recovers (call ++ m ∷ filed_with m past before) others other final → (said ≡ other) × (last ≡ final)
filed_said forgotten setting recovers call past m before [] others said other last final valid is first g h p q = absurd (none_told m call past g)
filed_said forgotten setting recovers call past m before (t ∷ ts) [] said other last final valid is first g h p q = absurd (none_told m call (filed_with m past before) h)
filed_said forgotten setting recovers [] past m before (t ∷ ts) (u ∷ us) said other last final valid is first g h p q =
    let filed = filed_with m past before in
    let both = since_call [] past m before t u ts us is first g h in
    let states : p.0 ≡ q.0 = read_since forgotten setting recovers (m ∷ past) (m ∷ filed) (t ∷ ts) (u ∷ us) m.at p.0 q.0 valid p.5 q.5 both.1
    (same_own (told (t ∷ ts)) (told (u ∷ us)) both.0.lines) p.4 q.4 in
    said_step m.what (is_live (m ∷ past)) (is_live (m ∷ filed)) p.0 q.0 p.2 q.2 said other last final (live_alike [] past filed m is) states (first_said m p.2 q.2 is) p.6 q.6 p.7 q.7
filed_said forgotten setting recovers (one ∷ call) past m before (t ∷ ts) (u ∷ us) said other last final valid is first g h p q =
    let filed = filed_with m past before in
    let sooner = filed_said forgotten setting recovers call past m before ts us p.1 q.1 p.2 q.2 valid is first g.0 h.0 p.3 q.3 in
    let both = since_call (one ∷ call) past m before t u ts us is first g h in
    let states : p.0 ≡ q.0 = read_since forgotten setting recovers (one ∷ call ++ m ∷ past) (one ∷ call ++ m ∷ filed) (t ∷ ts) (u ∷ us) one.at p.0 q.0 valid p.5 q.5 both.1
    (same_own (told (t ∷ ts)) (told (u ∷ us)) both.0.lines) p.4 q.4 in
    said_step one.what (is_live (one ∷ call ++ m ∷ past)) (is_live (one ∷ call ++ m ∷ filed)) p.0 q.0 p.2 q.2 said other last final (live_alike (one ∷ call) past filed m is) states
    (ap (λ x. said_before one.what x) sooner.1) p.6 q.6 p.7 q.7

pub filed_answer : (setting : Setting) (recovers : Bool) (m : Moment) (past other : List Moment) (t u : Turn) (ts us : List Turn) (a b : Answer) → Likewise (m ∷ past) (m ∷ other) t u ts us
    → but_silence (came past ts) ≡ but_silence (came other us) → a.unsaid ≡ b.unsaid → a.is_clock_stopped ≡ b.is_clock_stopped → a.state ≡ b.state → a.end ≡ b.end
    → Answers setting recovers m past t ts a
    → Answers setting recovers m other u us b → a ≡ b
filed_answer setting recovers m past other t u ts us a b same had unsaid clock state end g h =
    let x : List Came = with_news m.at (news_of m.what) (came past ts) in
    let y : List Came = with_news m.at (news_of m.what) (came other us) in
    let has = already m.what m.bytes in
    let time : When = when m.at (is_added m.what) in
    let news : but_silence x ≡ but_silence y = news_alike m.at (news_of m.what) (came past ts) (came other us) had in
    let R : List ℕ → ℕ → ℕ → Type 0 = λ bytes r q. IsTrue a.is_whole ↔ ((length has ≤ r) × (length bytes ≤ q)) in
    let K : List ℕ → Type 0 = λ bytes. R bytes (room_of x) (room_of (with_bytes time has x)) in
    let F : ℕ → Type 0 = λ r. R (kept (u ∷ us)) r (room_of (with_bytes time has x)) in
    let Q : ℕ → Type 0 = λ q. R (kept (u ∷ us)) (room_of y) q in
    let whole : Q (room_of (with_bytes time has y)) = subst Q (room_alike (with_bytes time has x) (with_bytes time has y) (bytes_alike time has x y news))
    (subst F (room_alike x y news) (subst K same.kept g.whole)) in
    answer_same a b (g.handling ∙ same.handling ∙ sym h.handling) (g.number ∙ same.number m.what ∙ sym h.number) (g.request ∙ same.request ∙ sym h.request) unsaid clock state end
    (both_or_neither a.is_whole b.is_whole ((length has ≤ room_of y) × (length (kept (u ∷ us)) ≤ room_of (with_bytes time has y))) whole h.whole)

pub looks_same : SilenceIsForgotten → (setting : Setting) (recovers : Bool) (one other : List Came) (a b : Answer) (looks alarms all others : List Look) → Valid setting.start → Since one other
    → a ≡ b → AlarmsAre setting recovers one all → AlarmsAre setting recovers other others → looks ≡ drop a.unsaid all → alarms ≡ drop b.unsaid others → looks ≡ alarms
looks_same forgotten setting recovers one other a b looks alarms all others valid s same g h p q =
    p ∙ ap (λ (x : Answer). drop x.unsaid all) same ∙ ap (λ x. drop b.unsaid x) (alarms_since forgotten setting recovers one other all others valid s g h) ∙ sym q

-- The same answers are given, with the same alarms.
abbrev AnswerAlike : Type 0
AnswerAlike = (setting : Setting) (recovers : Bool) (call past : List Moment) (begins : Moment) (before turns others : List Turn)
    (answer other : Answer) (looks alarms : List Look) → Valid setting.start → begins.what ≡ Cable Begins → Told (cabled past) before
    → Told (cabled (call ++ begins ∷ past)) turns → Told (cabled (call ++ begins ∷ filed_with begins past before)) others
    → IsAnswered setting recovers (call ++ begins ∷ past) turns answer looks
    → IsAnswered setting recovers (call ++ begins ∷ filed_with begins past before) others other alarms → (answer ≡ other) × (looks ≡ alarms)

files_answer_alike : SilenceIsForgotten → AnswerAlike
files_answer_alike forgotten setting recovers call past m before [] others a b looks alarms valid is first g h p q = absurd (none_told m call past g)
files_answer_alike forgotten setting recovers call past m before (t ∷ ts) [] a b looks alarms valid is first g h p q = absurd (none_told m call (filed_with m past before) h)
files_answer_alike forgotten setting recovers [] past m before (t ∷ ts) (u ∷ us) a b looks alarms valid is first g h p q =
    let filed = filed_with m past before in
    let both = since_call [] past m before t u ts us is first g h in
    let state = (filed_said forgotten setting recovers [] past m before (t ∷ ts) (u ∷ us) a.state b.state p.0.last q.0.last valid is first g h p.0.said q.0.said).0 in
    let had : but_silence (came past ts) ≡ but_silence (came filed us) =
    ap (λ x. but_silence (came past x)) (turns_once (cabled past) ts before g.0 first) ∙ (is_filed m past before us first h.0).1 in
    let unsaid : a.unsaid ≡ b.unsaid = p.0.alarms.count_is ∙ said_first m past (length p.0.alarms.before) (length p.0.alarms.now) is
    ∙ sym (q.0.alarms.count_is ∙ said_first m filed (length q.0.alarms.before) (length q.0.alarms.now) is) in
    let stands = clock_since forgotten setting recovers (came (m ∷ past) (t ∷ ts)) (came (m ∷ filed) (u ∷ us)) p.0.clock.now q.0.clock.now valid both.1 p.0.clock.now_is q.0.clock.now_is in
    let clock : a.is_clock_stopped ≡ b.is_clock_stopped = clock_first m past p.0.clock.before p.0.clock.now a.is_clock_stopped is p.0.clock.news_is
    ∙ ap (λ x. clock_news true true false x) stands ∙ sym (clock_first m filed q.0.clock.before q.0.clock.now b.is_clock_stopped is q.0.clock.news_is) in
    let end : a.end ≡ b.end = end_begun setting recovers m past filed t u ts us a.end b.end is p.0.end q.0.end
    (end_since forgotten setting recovers (came (m ∷ past) (t ∷ ts)) (came (m ∷ filed) (u ∷ us)) m.at p.0.end.now q.0.end.now valid both.1 p.0.end.now_is q.0.end.now_is) in
    let answer = filed_answer setting recovers m past filed t u ts us a b both.0 had unsaid clock state end p.0 q.0 in
    (answer, looks_same forgotten setting recovers (came (m ∷ past) (t ∷ ts)) (came (m ∷ filed) (u ∷ us)) a b looks alarms p.1.0 q.1.0 valid both.1 answer p.1.1 q.1.1 p.1.2 q.1.2)
files_answer_alike forgotten setting recovers (one ∷ call) past m before (t ∷ []) (u ∷ us) a b looks alarms valid is first g h p q = absurd (none_told m call past g.0)
files_answer_alike forgotten setting recovers (one ∷ call) past m before (t ∷ v ∷ ts) (u ∷ []) a b looks alarms valid is first g h p q =
    absurd (none_told m call (filed_with m past before) h.0)
files_answer_alike forgotten setting recovers (one ∷ call) past m before (t ∷ v ∷ ts) (u ∷ w ∷ us) a b looks alarms valid is first g h p q =
    let filed = filed_with m past before in
    let had : List Moment = call ++ m ∷ past in
    let other : List Moment = call ++ m ∷ filed in
    let both = since_call (one ∷ call) past m before t u (v ∷ ts) (w ∷ us) is first g h in
    let sooner = (since_call call past m before v w ts us is first g.0 h.0).1 in
    let state = (filed_said forgotten setting recovers (one ∷ call) past m before (t ∷ v ∷ ts) (u ∷ w ∷ us) a.state b.state p.0.last q.0.last valid is first g h p.0.said q.0.said).0 in
    let before_same = alarms_since forgotten setting recovers (came had (v ∷ ts)) (came other (w ∷ us)) p.0.alarms.before q.0.alarms.before valid sooner p.0.alarms.before_are q.0.alarms.before_are in
    let now_same = alarms_since forgotten setting recovers (came (one ∷ had) (t ∷ v ∷ ts)) (came (one ∷ other) (u ∷ w ∷ us)) p.0.alarms.now q.0.alarms.now valid both.1 p.0.alarms.now_are q.0.alarms.now_are in
    let count : a.unsaid ≡ b.unsaid = p.0.alarms.count_is
    ∙ ap (λ x. unsaid x (begins one.what) (length p.0.alarms.before) (length p.0.alarms.now)) (live_alike (one ∷ call) past filed m is)
    ∙ ap (λ (x : List Look). unsaid (is_live (one ∷ other)) (begins one.what) (length x) (length p.0.alarms.now)) before_same
    ∙ ap (λ (x : List Look). unsaid (is_live (one ∷ other)) (begins one.what) (length q.0.alarms.before) (length x)) now_same ∙ sym q.0.alarms.count_is in
    let stood = clock_since forgotten setting recovers (came had (v ∷ ts)) (came other (w ∷ us)) p.0.clock.before q.0.clock.before valid sooner p.0.clock.before_is q.0.clock.before_is in
    let stands = clock_since forgotten setting recovers (came (one ∷ had) (t ∷ v ∷ ts)) (came (one ∷ other) (u ∷ w ∷ us)) p.0.clock.now q.0.clock.now valid both.1 p.0.clock.now_is q.0.clock.now_is in
    let clock : a.is_clock_stopped ≡ b.is_clock_stopped = clock_step (begins one.what) (is_live (one ∷ had)) (is_live (one ∷ other)) p.0.clock.before q.0.clock.before p.0.clock.now q.0.clock.now
    a.is_clock_stopped b.is_clock_stopped (live_alike (one ∷ call) past filed m is) stood stands p.0.clock.news_is q.0.clock.news_is in
    let E : ℕ → Type 0 = λ at. IsEndOf setting recovers (came had (v ∷ ts)) at p.0.end.before in
    let was = end_since forgotten setting recovers (came had (v ∷ ts)) (came other (w ∷ us)) (last_at other) p.0.end.before q.0.end.before valid sooner
    (subst E (last_same call past filed m) p.0.end.before_is) q.0.end.before_is in
    let ends = end_since forgotten setting recovers (came (one ∷ had) (t ∷ v ∷ ts)) (came (one ∷ other) (u ∷ w ∷ us)) one.at p.0.end.now q.0.end.now valid both.1 p.0.end.now_is q.0.end.now_is in
    let end : a.end ≡ b.end = end_step setting recovers one had other t u (v ∷ ts) (w ∷ us) a.end b.end (live_alike (one ∷ call) past filed m is) p.0.end q.0.end was ends in
    let answer = filed_answer setting recovers one had other t u (v ∷ ts) (w ∷ us) a b both.0 (since_alike (came had (v ∷ ts)) (came other (w ∷ us)) sooner) count clock state end p.0 q.0 in
    (answer, looks_same forgotten setting recovers (came (one ∷ had) (t ∷ v ∷ ts)) (came (one ∷ other) (u ∷ w ∷ us)) a b looks alarms p.1.0 q.1.0 valid both.1 answer p.1.1 q.1.1 p.1.2 q.1.2)

-- The same times to wake are named.
wakes_alike : SilenceIsForgotten → (setting : Setting) (recovers : Bool) (call past : List Moment) (m : Moment) (before turns others : List Turn) (due time : Option ℕ) → Valid setting.start
    → m.what ≡ Cable Begins → Told (cabled past) before → Told (cabled (call ++ m ∷ past)) turns → Told (cabled (call ++ m ∷ filed_with m past before)) others
    → WakesAt setting recovers (call ++ m ∷ past) turns due → WakesAt setting recovers (call ++ m ∷ filed_with m past before) others time → due ≡ time
wakes_alike forgotten setting recovers call past m before [] others due time valid is first g h p q = absurd (none_told m call past g)
wakes_alike forgotten setting recovers call past m before (t ∷ ts) [] due time valid is first g h p q = absurd (none_told m call (filed_with m past before) h)
wakes_alike forgotten setting recovers call past m before (t ∷ ts) (u ∷ us) due time valid is first g h p q =
    let filed = filed_with m past before in
    let both = since_call call past m before t u ts us is first g h in
    let D : ℕ → Type 0 = λ at. IsDue setting recovers (came (call ++ m ∷ past) (t ∷ ts)) (told (t ∷ ts)) at due in
    due_since forgotten setting recovers (came (call ++ m ∷ past) (t ∷ ts)) (came (call ++ m ∷ filed) (u ∷ us)) (told (t ∷ ts)) (told (u ∷ us)) (last_at (call ++ m ∷ filed)) due time valid
    both.1 both.0.lines (subst D (last_same call past filed m) p) q

pub files_say_the_same : SilenceIsForgotten → FilesSayTheSame
files_say_the_same forgotten setting recovers call past m before turns others valid is first g h = (
  λ answer other looks alarms p q. files_answer_alike forgotten setting recovers call past m before turns others answer other looks alarms valid is first g h p q,
  λ due time p q. wakes_alike forgotten setting recovers call past m before turns others due time valid is first g h p q,
)
