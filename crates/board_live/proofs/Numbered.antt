-- The number of the game's board, told once a call has begun.
use Rattle.std.proofs.Common.{◌≡◌, ◌<◌, ◌≤◌, ◌^◌, ◌&&◌, inl, inr, ℕ, Bool, true, false, List, [], ◌∷◌, ◌++◌, length, Option, Some, None, is_some, refl, sym, ap, subst, ◌∙◌}
use Rattle.chess_rules.specs.Valid.{Valid}
use Rattle.board_cable.specs.declared.line.Event.{Event}
use Rattle.board_cable.specs.declared.line.Happening.TheVariants.{Begins as LineBegins, Interrupts as LineInterrupts, Owns as LineOwns}
use Rattle.board_cable.specs.declared.whose.Handling.TheVariants.{Keep}
use Rattle.board_cable.specs.Asking.{request_at}
use Rattle.board_cable.specs.Lasting.{IsBefore}
use Rattle.board_cable.specs.Line.{is_open}
use Rattle.board_cable.specs.Silence.{is_silent}
use Rattle.board_cable.specs.Whose.{awaited_at, dumps_since, handling_by, is_awaited, is_own, own_number, sends_own, shown_number, was_known}
use Rattle.board_cable.specs.declared.happened.What.{What as AtCable}
use Rattle.board_cable.specs.declared.happened.What.TheVariants.{Begins, Interrupts, Owns, Wakes}
use Rattle.board_cable.specs.Keeping.{aside, ends_aside, ends_held, held, kept}
use Rattle.board_cable.specs.Moments.{Moment as CableMoment, is_heard, stream}
use Rattle.board_cable.specs.Turns.{Tells, Told, Turn, handling_of, told}
use Rattle.board_cable.proofs.Once.{turns_once}
use Rattle.board_events.specs.Settings.{Setting}
use Rattle.board_alarms.specs.declared.look.Look.{Look}
use Rattle.board_endings.specs.declared.news.End.{End}
use Rattle.board_game.specs.Ending.{IsEndDueOf, IsEndOf}
use Rattle.board_game.specs.Games.{IsDueOf, IsStateOf}
use Rattle.board_game.specs.Hearing.{IsHeard}
use Rattle.board_game.specs.declared.note.Note.TheVariants.{Line as LineNews}
use Rattle.board_game.specs.History.{Came, News}
use Rattle.board_game.specs.Laws.{EndStaysUntilDue, HearsOnce}
use Rattle.board_game.specs.Silences.{SilenceIsForgotten, but_silence}
use Rattle.board_standing.specs.declared.heard.Heard.TheVariants.{Begins as RecorderBegins}
use Rattle.board_standing.specs.declared.state.State.{State}
use Rattle.board_standing.specs.Laws.{StaysUntilDue}
use Rattle.board_standing.specs.States.{IsNews, hint_at, kind_at, names_at, since_at}
use Rattle.square_runs.specs.Lasting.{IsBefore as IsBeforeState, earlier}
use Rattle.square_runs.specs.Squares.{Marks}
use Rattle.board_live.specs.declared.happened.What.TheVariants.{Cable}
use Rattle.board_live.specs.declared.live.Answer.{Answer}
use Rattle.board_live.specs.Coming.{came, came_with, silence}
use Rattle.board_live.specs.Ending.{last_at}
use Rattle.board_live.specs.Laws.{with_number}
use Rattle.board_live.specs.Live.{unsaid}
use Rattle.board_live.specs.Moments.{Moment, already, at_cable, begins, cable_moment, cabled, is_added, news_of}
use Rattle.board_live.specs.Restarts.{AreOffLine, IsAnswered, IsOffLine, MayBeTold, NumberMayFollow, SayTheSame, WakesAt, as_filed}
use Rattle.board_live.specs.Saying.{IsSaid, Says, SaysAfter, is_live, last_said, live_by, said_before}
use Rattle.board_live.proofs.Alike.{Likewise, begun, keeps_begun, step, stream_begun, stream_more}
use Rattle.board_live.proofs.Ends.{end_step}
use Rattle.board_live.proofs.Fed.{none_aside, turn_asked, unheard}
use Rattle.board_live.proofs.Filed.{Since, alarms_since, answers_begun, clock_since, due_since, end_since, fed_filed, filed_alike, filed_answer, looks_same, read_since, since_alike, since_came, since_turn}
use Rattle.board_live.proofs.Lines.{Line, line_of, request_on, same_own}
use Rattle.board_live.proofs.Saids.{first_said, live_alike, read_same, said_step, squares_once, state_once, state_same}
use Rattle.board_live.proofs.Says.{clock_step}
use Rattle.board_live.proofs.TakeLemmas.{sooner_both}
use Rattle.board_live.proofs.Sides.{Side, keeps_unseen, nothing, nothing_kept, side_kept, side_of}

-- ---- after the same

-- Both have alike what later answers depend on, but the silence before this call.
record Joined (past other : List Moment) (ts us : List Turn) : Type 0 where
  lines : line_of (told ts) ≡ line_of (told us)
  sides : side_of ts ≡ side_of us
  streams : stream (cabled past) ≡ stream (cabled other)
  since : Since (came past ts) (came other us)

joined_more : (m : Moment) (past other : List Moment) (t u : Turn) (ts us : List Turn) → Joined past other ts us → Told (cabled (m ∷ past)) (t ∷ ts)
    → Told (cabled (m ∷ other)) (u ∷ us) → Likewise (m ∷ past) (m ∷ other) t u ts us × Joined (m ∷ past) (m ∷ other) (t ∷ ts) (u ∷ us)
joined_more m past other t u ts us j g h =
    let same = step m past other t u ts us j.lines j.sides j.streams g h in
    (same, record { lines = same.lines; sides = same.sides; streams = same.streams; since = since_turn m past other t u ts us same j.since })

-- Whatever the turns are.
abbrev AreJoined : List Moment → List Moment → Type 0
AreJoined past other = (ts us : List Turn) → Told (cabled past) ts → Told (cabled other) us → Joined past other ts us

joined_call : (call past other : List Moment) → AreJoined past other → AreJoined (call ++ past) (call ++ other)
joined_call [] past other all ts us g h = all ts us g h
joined_call (m ∷ call) past other all [] us g h = absurd g
joined_call (m ∷ call) past other all (t ∷ ts) [] g h = absurd h
joined_call (m ∷ call) past other all (t ∷ ts) (u ∷ us) g h =
    (joined_more m (call ++ past) (call ++ other) t u ts us (joined_call call past other all ts us g.0 h.0) g h).1

-- The same was said last after both.
abbrev SaidAlike : Setting → Bool → List Moment → List Moment → Type 0
SaidAlike setting recovers past other = (ts us : List Turn) (said answer last final : Option State) → Told (cabled past) ts → Told (cabled other) us
    → IsSaid setting recovers past ts said last → IsSaid setting recovers other us answer final → last ≡ final

said_at : SilenceIsForgotten → (setting : Setting) (recovers : Bool) (m : Moment) (past other : List Moment) (t u : Turn) (ts us : List Turn) (said answer last final : Option State)
    → Valid setting.start → Since (came (m ∷ past) (t ∷ ts)) (came (m ∷ other) (u ∷ us)) → is_own (told (t ∷ ts)) ≡ is_own (told (u ∷ us)) → SaidAlike setting recovers past other → is_live past ≡ is_live other
    → Told (cabled (m ∷ past)) (t ∷ ts) → Told (cabled (m ∷ other)) (u ∷ us) → IsSaid setting recovers (m ∷ past) (t ∷ ts) said last
    → IsSaid setting recovers (m ∷ other) (u ∷ us) answer final → (said ≡ answer) × (last ≡ final)
said_at forgotten setting recovers m past other t u ts us said answer last final valid since own before live g h p q =
    let states : p.0 ≡ q.0 = read_since forgotten setting recovers (m ∷ past) (m ∷ other) (t ∷ ts) (u ∷ us) m.at p.0 q.0 valid p.5 q.5 since own p.4 q.4 in
    said_step m.what (is_live (m ∷ past)) (is_live (m ∷ other)) p.0 q.0 p.2 q.2 said answer last final (ap (λ b. live_by m.what b) live) states
    (ap (λ x. said_before m.what x) (before ts us p.1 q.1 p.2 q.2 g.0 h.0 p.3 q.3)) p.6 q.6 p.7 q.7

said_more : SilenceIsForgotten → (setting : Setting) (recovers : Bool) (m : Moment) (past other : List Moment) (t u : Turn) (ts us : List Turn) (said answer last final : Option State)
    → Valid setting.start → AreJoined past other → SaidAlike setting recovers past other → is_live past ≡ is_live other → Told (cabled (m ∷ past)) (t ∷ ts)
    → Told (cabled (m ∷ other)) (u ∷ us) → IsSaid setting recovers (m ∷ past) (t ∷ ts) said last → IsSaid setting recovers (m ∷ other) (u ∷ us) answer final
    → (said ≡ answer) × (last ≡ final)
said_more forgotten setting recovers m past other t u ts us said answer last final valid all before live g h p q =
    let j = (joined_more m past other t u ts us (all ts us g.0 h.0) g h).1 in
    said_at forgotten setting recovers m past other t u ts us said answer last final valid j.since (same_own (told (t ∷ ts)) (told (u ∷ us)) j.lines) before live g h p q

live_call : (call past other : List Moment) → is_live past ≡ is_live other → is_live (call ++ past) ≡ is_live (call ++ other)
live_call [] past other live = live
live_call (m ∷ call) past other live = ap (λ b. live_by m.what b) (live_call call past other live)

said_call : SilenceIsForgotten → (setting : Setting) (recovers : Bool) (call past other : List Moment) → Valid setting.start → AreJoined past other
    → SaidAlike setting recovers past other → is_live past ≡ is_live other → SaidAlike setting recovers (call ++ past) (call ++ other)
said_call forgotten setting recovers [] past other valid all before live ts us said answer last final g h p q = before ts us said answer last final g h p q
said_call forgotten setting recovers (m ∷ call) past other valid all before live [] us said answer last final g h p q = absurd g
said_call forgotten setting recovers (m ∷ call) past other valid all before live (t ∷ ts) [] said answer last final g h p q = absurd h
said_call forgotten setting recovers (m ∷ call) past other valid all before live (t ∷ ts) (u ∷ us) said answer last final g h p q =
    (said_more forgotten setting recovers m (call ++ past) (call ++ other) t u ts us said answer last final valid (joined_call call past other all)
    (said_call forgotten setting recovers call past other valid all before live) (live_call call past other live) g h p q).1

-- The game stands with its end at this time as when something happened last.
abbrev EndsOn : Setting → Bool → List Moment → ℕ → Type 0
EndsOn setting recovers past later = (ts : List Turn) (end : End) → Told (cabled past) ts → IsEndOf setting recovers (came past ts) (last_at past) end
    → IsEndOf setting recovers (came past ts) later end

ends_call : (setting : Setting) (recovers : Bool) (call past other : List Moment) → EndsOn setting recovers past (last_at other)
    → EndsOn setting recovers (call ++ past) (last_at (call ++ other))
ends_call setting recovers [] past other on = on
ends_call setting recovers (m ∷ call) past other on = λ ts end g is. is

-- So the same is said at each moment that follows.
says_on : SilenceIsForgotten → (setting : Setting) (recovers : Bool) (m : Moment) (past other : List Moment) (ts us : List Turn) (a b : Answer) (looks alarms : List Look)
    → Valid setting.start → AreJoined past other → SaidAlike setting recovers past other → is_live past ≡ is_live other → EndsOn setting recovers past (last_at other) → Told (cabled (m ∷ past)) ts
    → Told (cabled (m ∷ other)) us → IsAnswered setting recovers (m ∷ past) ts a looks → IsAnswered setting recovers (m ∷ other) us b alarms → (a ≡ b) × (looks ≡ alarms)
says_on forgotten setting recovers m past other [] us a b looks alarms valid all before live on g h p q = absurd g
says_on forgotten setting recovers m past other (t ∷ ts) [] a b looks alarms valid all before live on g h p q = absurd h
says_on forgotten setting recovers m past other (t ∷ ts) (u ∷ us) a b looks alarms valid all before live on g h p q =
    let had = all ts us g.0 h.0 in
    let both = joined_more m past other t u ts us had g h in
    let state = (said_more forgotten setting recovers m past other t u ts us a.state b.state p.0.last q.0.last valid all before live g h p.0.said q.0.said).0 in
    let sooner = alarms_since forgotten setting recovers (came past ts) (came other us) p.0.alarms.before q.0.alarms.before valid had.since p.0.alarms.before_are q.0.alarms.before_are in
    let now = alarms_since forgotten setting recovers (came (m ∷ past) (t ∷ ts)) (came (m ∷ other) (u ∷ us)) p.0.alarms.now q.0.alarms.now valid both.1.since p.0.alarms.now_are q.0.alarms.now_are in
    let count : a.unsaid ≡ b.unsaid = p.0.alarms.count_is
    ∙ ap (λ x. unsaid x (begins m.what) (length p.0.alarms.before) (length p.0.alarms.now)) (ap (λ x. live_by m.what x) live)
    ∙ ap (λ (x : List Look). unsaid (is_live (m ∷ other)) (begins m.what) (length x) (length p.0.alarms.now)) sooner
    ∙ ap (λ (x : List Look). unsaid (is_live (m ∷ other)) (begins m.what) (length q.0.alarms.before) (length x)) now ∙ sym q.0.alarms.count_is in
    let stood = clock_since forgotten setting recovers (came past ts) (came other us) p.0.clock.before q.0.clock.before valid had.since p.0.clock.before_is q.0.clock.before_is in
    let stands = clock_since forgotten setting recovers (came (m ∷ past) (t ∷ ts)) (came (m ∷ other) (u ∷ us)) p.0.clock.now q.0.clock.now valid both.1.since p.0.clock.now_is q.0.clock.now_is in
    let clock : a.is_clock_stopped ≡ b.is_clock_stopped = clock_step (begins m.what) (is_live (m ∷ past)) (is_live (m ∷ other)) p.0.clock.before q.0.clock.before p.0.clock.now q.0.clock.now
    a.is_clock_stopped b.is_clock_stopped (ap (λ x. live_by m.what x) live) stood stands p.0.clock.news_is q.0.clock.news_is in
    let was = end_since forgotten setting recovers (came past ts) (came other us) (last_at other) p.0.end.before q.0.end.before valid had.since
    (on ts p.0.end.before g.0 p.0.end.before_is) q.0.end.before_is in
    let ends = end_since forgotten setting recovers (came (m ∷ past) (t ∷ ts)) (came (m ∷ other) (u ∷ us)) m.at p.0.end.now q.0.end.now valid both.1.since p.0.end.now_is q.0.end.now_is in
    let end : a.end ≡ b.end = end_step setting recovers m past other t u ts us a.end b.end (ap (λ x. live_by m.what x) live) p.0.end q.0.end was ends in
    let answer = filed_answer setting recovers m past other t u ts us a b both.0 (since_alike (came past ts) (came other us) had.since) count clock state end p.0 q.0 in
    (answer, looks_same forgotten setting recovers (came (m ∷ past) (t ∷ ts)) (came (m ∷ other) (u ∷ us)) a b looks alarms p.1.0 q.1.0 valid both.1.since answer p.1.1 q.1.1 p.1.2 q.1.2)

-- And the same times to wake are named.
wakes_on : SilenceIsForgotten → (setting : Setting) (recovers : Bool) (m : Moment) (past other : List Moment) (ts us : List Turn) (due time : Option ℕ) → Valid setting.start
    → AreJoined past other → Told (cabled (m ∷ past)) ts → Told (cabled (m ∷ other)) us → WakesAt setting recovers (m ∷ past) ts due
    → WakesAt setting recovers (m ∷ other) us time → due ≡ time
wakes_on forgotten setting recovers m past other [] us due time valid all g h p q = absurd g
wakes_on forgotten setting recovers m past other (t ∷ ts) [] due time valid all g h p q = absurd h
wakes_on forgotten setting recovers m past other (t ∷ ts) (u ∷ us) due time valid all g h p q =
    let both = (joined_more m past other t u ts us (all ts us g.0 h.0) g h).1 in
    due_since forgotten setting recovers (came (m ∷ past) (t ∷ ts)) (came (m ∷ other) (u ∷ us)) (told (t ∷ ts)) (told (u ∷ us)) m.at due time valid both.since both.lines p q

-- ---- before anything is told of the line

-- the line, but the number of the game's board, and whether it was known
abbrev but_own : Line → Line
but_own l = record l { own = None; known = false }

-- The line isn't open, and nothing is kept back; both differ in the number alone, and in the silence before this call.
record Ready (own : Option (List ℕ)) (past other : List Moment) (ts us : List Turn) : Type 0 where
  lines : but_own (line_of (told ts)) ≡ but_own (line_of (told us))
  closed : is_open (told us) ≡ false
  awaited : awaited_at (told us) ≡ None
  shown : shown_number (told us) ≡ None
  silent : is_silent (told us) ≡ false
  side : side_of ts ≡ nothing
  other_side : side_of us ≡ nothing
  streams : stream (cabled past) ≡ stream (cabled other)
  since : Since (came past ts) (came other us)
  owns : own_number (told ts) ≡ own
  none : own_number (told us) ≡ None
  known : was_known (told ts) ≡ is_some own
  unknown : was_known (told us) ≡ false

-- A turn at which nothing is told of the line, and the board isn't asked.
record Still (turn : Turn) (turns : List Turn) (now : List Event) : Type 0 where
  told_is : told (turn ∷ turns) ≡ now
  keeps : kept (turn ∷ turns) ≡ []
  side : side_of (turn ∷ turns) ≡ nothing

never_asked : (at : ℕ) (past : List Event) → is_open past ≡ false → request_at at past ≡ None
never_asked at past closed = ap (λ b. request_on at (record (line_of past) { opened = b })) closed

keeps_still : (at : ℕ) (past : List Event) → awaited_at past ≡ None → shown_number past ≡ None → handling_by (is_awaited at (awaited_at past) (dumps_since past)) (own_number past) (shown_number past) ≡ Keep
keeps_still at past awaited shown =
    ap (λ x. handling_by (is_awaited at x (dumps_since past)) (own_number past) (shown_number past)) awaited ∙ ap (λ x. handling_by false (own_number past) x) shown
    ∙ keeps_unseen (own_number past)

still : (turn : Turn) (turns : List Turn) (now : List Event) → turn.now ≡ now → is_open now ≡ false → awaited_at now ≡ None → shown_number now ≡ None → side_of turns ≡ nothing
    → is_heard turn.moment.what ≡ false → Still turn turns now
still turn turns now is closed awaited shown side silent =
    let keeping : handling_of turn ≡ Keep =
    ap (λ (es : List Event). handling_by (is_awaited turn.moment.at (awaited_at es) (dumps_since es)) (own_number es) (shown_number es)) is ∙ keeps_still turn.moment.at now awaited shown in
    record {
      told_is = turn_asked turn turns now is (never_asked turn.moment.at now closed);
      keeps = nothing_kept turn turns keeping (unheard turn.moment silent) (none_aside (ends_aside turn.moment.what) (aside turns) (ap (λ (s : Side). s.aside) side))
          (none_aside (ends_held turn.moment.what) (held turns) (ap (λ (s : Side). s.held) side));
      side = side_kept turn turns keeping;
    }

neither : (b : Bool) → b && false ≡ false
neither true = refl
neither false = refl

-- A board that has sent no number isn't known to be the game's own.
unsent : (past : List Event) → shown_number past ≡ None → is_own past ≡ false
unsent past shown = ap (λ x. was_known past && sends_own x (own_number past)) shown ∙ neither (was_known past)

unsent_alike : (own : Option (List ℕ)) (past other : List Moment) (ts us : List Turn) → Ready own past other ts us → is_own (told ts) ≡ is_own (told us)
unsent_alike own past other ts us r =
    unsent (told ts) (ap (λ (l : Line). l.shown) r.lines ∙ r.shown) ∙ sym (unsent (told us) r.shown)

abbrev AreReady : Option (List ℕ) → List Moment → List Moment → Type 0
AreReady own past other = (ts us : List Turn) → Told (cabled past) ts → Told (cabled other) us → Ready own past other ts us

came_still : (m : Moment) (past : List Moment) (t : Turn) (ts : List Turn) → kept (t ∷ ts) ≡ [] → is_silent (told ts) ≡ false → is_silent (told (t ∷ ts)) ≡ false
    → came (m ∷ past) (t ∷ ts) ≡ came_with m.at (news_of m.what) (is_added m.what) (already m.what m.bytes) [] (silence m.what false false) (came past ts)
came_still m past t ts none before after =
    ap (λ bytes. came_with m.at (news_of m.what) (is_added m.what) (already m.what m.bytes) bytes (silence m.what (is_silent (told ts)) (is_silent (told (t ∷ ts)))) (came past ts)) none
    ∙ ap (λ b. came_with m.at (news_of m.what) (is_added m.what) (already m.what m.bytes) [] (silence m.what b (is_silent (told (t ∷ ts)))) (came past ts)) before
    ∙ ap (λ b. came_with m.at (news_of m.what) (is_added m.what) (already m.what m.bytes) [] (silence m.what false b) (came past ts)) after

ready_with : (own : Option (List ℕ)) (m : Moment) (past other : List Moment) (t u : Turn) (ts us : List Turn) (x y : List Event) → Ready own past other ts us
    → t.moment ≡ cable_moment m → u.moment ≡ cable_moment m → t.now ≡ x → u.now ≡ y → but_own (line_of x) ≡ but_own (line_of y) → is_open y ≡ false → awaited_at y ≡ None
    → shown_number y ≡ None → is_silent y ≡ false → own_number x ≡ own → own_number y ≡ None → was_known x ≡ is_some own → was_known y ≡ false → is_heard (at_cable m.what) ≡ false
    → Ready own (m ∷ past) (m ∷ other) (t ∷ ts) (u ∷ us)
ready_with own m past other t u ts us x y r at also now next lines closed awaited shown silent owns none known unknown unheard_by =
    let st = still t ts x now (ap (λ (l : Line). l.opened) lines ∙ closed) (ap (λ (l : Line). l.awaited) lines ∙ awaited) (ap (λ (l : Line). l.shown) lines ∙ shown) r.side
    (ap (λ (one : CableMoment). is_heard one.what) at ∙ unheard_by) in
    let su = still u us y next closed awaited shown r.other_side (ap (λ (one : CableMoment). is_heard one.what) also ∙ unheard_by) in
    let C : List Came → List Came = λ has. came_with m.at (news_of m.what) (is_added m.what) (already m.what m.bytes) [] (silence m.what false false) has in
    let one : came (m ∷ past) (t ∷ ts) ≡ C (came past ts) = came_still m past t ts st.keeps (ap (λ (l : Line). l.silent) r.lines ∙ r.silent)
    (ap is_silent st.told_is ∙ ap (λ (l : Line). l.silent) lines ∙ silent) in
    let two : came (m ∷ other) (u ∷ us) ≡ C (came other us) = came_still m other u us su.keeps r.silent (ap is_silent su.told_is ∙ silent) in
    let S : List Came → List Came → Type 0 = λ a b. Since a b in
    let since : S (C (came past ts)) (C (came other us)) =
    since_came m.at (news_of m.what) (is_added m.what) (already m.what m.bytes) [] (silence m.what false false) (came past ts) (came other us) r.since in
    record {
      lines = ap (λ (es : List Event). but_own (line_of es)) st.told_is ∙ lines ∙ sym (ap (λ (es : List Event). but_own (line_of es)) su.told_is);
      closed = ap is_open su.told_is ∙ closed;
      awaited = ap awaited_at su.told_is ∙ awaited;
      shown = ap shown_number su.told_is ∙ shown;
      silent = ap is_silent su.told_is ∙ silent;
      side = st.side;
      other_side = su.side;
      streams = stream_more m (stream (cabled past)) (stream (cabled other)) r.streams;
      since = subst (λ b. S (came (m ∷ past) (t ∷ ts)) b) (sym two) (subst (λ a. S a (C (came other us))) (sym one) since);
      owns = ap own_number st.told_is ∙ owns;
      none = ap own_number su.told_is ∙ none;
      known = ap was_known st.told_is ∙ known;
      unknown = ap was_known su.told_is ∙ unknown;
    }

-- what is cut is read anew
abbrev interrupted : Line → Line
interrupted l = record l { wanted = true; unanswered = false; unfinished = None }

ready_more : (own : Option (List ℕ)) (m : Moment) (past other : List Moment) (t u : Turn) (ts us : List Turn) → IsOffLine m → Ready own past other ts us
    → Told (cabled (m ∷ past)) (t ∷ ts) → Told (cabled (m ∷ other)) (u ∷ us) → Ready own (m ∷ past) (m ∷ other) (t ∷ ts) (u ∷ us)
ready_more own m past other t u ts us (inl wakes) r g h =
    let T : AtCable → Type 0 = λ w. Tells (record { at = m.at; what = w; bytes = m.bytes }) (stream (cabled past)) (told ts) t.now in
    let U : AtCable → Type 0 = λ w. Tells (record { at = m.at; what = w; bytes = m.bytes }) (stream (cabled other)) (told us) u.now in
    let now : T Wakes = subst T wakes g.2 in
    let next : U Wakes = subst U wakes h.2 in
    ready_with own m past other t u ts us (told ts) (told us) r g.1 h.1 now next r.lines r.closed r.awaited r.shown r.silent r.owns r.none r.known r.unknown (ap is_heard wakes)
ready_more own m past other t u ts us (inr cut) r g h =
    let T : AtCable → Type 0 = λ w. Tells (record { at = m.at; what = w; bytes = m.bytes }) (stream (cabled past)) (told ts) t.now in
    let U : AtCable → Type 0 = λ w. Tells (record { at = m.at; what = w; bytes = m.bytes }) (stream (cabled other)) (told us) u.now in
    let now : T Interrupts = subst T cut g.2 in
    let next : U Interrupts = subst U cut h.2 in
    let e : Event = record { at = m.at; what = LineInterrupts } in
    ready_with own m past other t u ts us (e ∷ told ts) (e ∷ told us) r g.1 h.1 now next (ap (λ (l : Line). interrupted l) r.lines) r.closed r.awaited r.shown r.silent
    r.owns r.none r.known r.unknown (ap is_heard cut)

ready_call : (own : Option (List ℕ)) (first past other : List Moment) → AreOffLine first → AreReady own past other → AreReady own (first ++ past) (first ++ other)
ready_call own [] past other off all ts us g h = all ts us g h
ready_call own (m ∷ first) past other off all [] us g h = absurd g
ready_call own (m ∷ first) past other off all (t ∷ ts) [] g h = absurd h
ready_call own (m ∷ first) past other off all (t ∷ ts) (u ∷ us) g h =
    ready_more own m (first ++ past) (first ++ other) t u ts us off.1 (ready_call own first past other off.0 all ts us g.0 h.0) g h

-- ---- where the call begins

since_begun : (m : Moment) (past other : List Moment) (t u : Turn) (ts us : List Turn) → m.what ≡ Cable Begins → but_silence (came past ts) ≡ but_silence (came other us)
    → Told (cabled (m ∷ past)) (t ∷ ts) → Told (cabled (m ∷ other)) (u ∷ us) → Since (came (m ∷ past) (t ∷ ts)) (came (m ∷ other) (u ∷ us))
since_begun m past other t u ts us is had g h = record {
  at = m.at;
  since = [];
  first = News m.at (LineNews RecorderBegins) ∷ came past ts;
  second = News m.at (LineNews RecorderBegins) ∷ came other us;
  one_is = answers_begun m past t ts is g;
  other_is = answers_begun m other u us is h;
  same = ap (λ (c : List Came). News m.at (LineNews RecorderBegins) ∷ c) had;
}

begun_ready : (m : Moment) (past other : List Moment) (t u : Turn) (ts us : List Turn) → m.what ≡ Cable Begins → told us ≡ []
    → but_silence (came past ts) ≡ but_silence (came other us) → Told (cabled (m ∷ past)) (t ∷ ts) → Told (cabled (m ∷ other)) (u ∷ us)
    → Ready (own_number (told ts)) (m ∷ past) (m ∷ other) (t ∷ ts) (u ∷ us)
begun_ready m past other t u ts us is empty had g h =
    let now = begun m ts t _ is g.2 in
    let next = begun m us u _ is h.2 in
    let e : Event = record { at = m.at; what = LineBegins } in
    let all : told (t ∷ ts) ≡ e ∷ told ts = turn_asked t ts (e ∷ told ts) now refl in
    let others : told (u ∷ us) ≡ e ∷ told us = turn_asked u us (e ∷ told us) next refl in
    record {
      lines = ap (λ (es : List Event). but_own (line_of es)) all ∙ sym (ap (λ (es : List Event). but_own (line_of es)) others);
      closed = ap is_open others;
      awaited = ap awaited_at others;
      shown = ap shown_number others;
      silent = ap is_silent others;
      side = side_kept t ts (keeps_begun m ts t now);
      other_side = side_kept u us (keeps_begun m us u next);
      streams = stream_begun m past is ∙ sym (stream_begun m other is);
      since = since_begun m past other t u ts us is had g h;
      owns = ap own_number all;
      none = ap own_number others ∙ ap own_number empty;
      known = ap was_known all;
      unknown = ap was_known others ∙ ap (λ (es : List Event). is_some (own_number es)) empty;
    }

-- ---- the number

abbrev with_own : Option (List ℕ) → Line → Line
with_own own l = record l { own = own; known = is_some own }

own_is : (l : Line) (own : Option (List ℕ)) → l.own ≡ own → l.known ≡ is_some own → l ≡ with_own own (but_own l)
own_is l own e k = ap (λ (o : Option (List ℕ)). record l { own = o }) e ∙ ap (λ (b : Bool). record l { own = own; known = b }) k

numbered_lines : (own : Option (List ℕ)) (a b : Line) → but_own a ≡ but_own b → a.own ≡ own → a.known ≡ is_some own → a ≡ with_own own b
numbered_lines own a b same e k = own_is a own e k ∙ ap (λ l. with_own own l) same

no_number : (past other : List Moment) → AreReady None past other → AreJoined past other
no_number past other all ts us g h =
    let r = all ts us g h in
    record {
      lines = numbered_lines None (line_of (told ts)) (line_of (told us)) r.lines r.owns r.known ∙ sym (own_is (line_of (told us)) None r.none r.unknown);
      sides = r.side ∙ sym r.other_side;
      streams = r.streams;
      since = r.since;
    }

abbrev owning : ℕ → List ℕ → Moment
owning at number = record { at = at; what = Cable (Owns number); bytes = [] }

record AtNumber (number : List ℕ) (at : ℕ) (past other : List Moment) (ts : List Turn) (u : Turn) (us : List Turn) : Type 0 where
  joined : Joined past (owning at number ∷ other) ts (u ∷ us)
  same : came (owning at number ∷ other) (u ∷ us) ≡ came other us
  own : is_own (told (u ∷ us)) ≡ is_own (told us)

at_number : (number : List ℕ) (at : ℕ) (past other : List Moment) (ts : List Turn) (u : Turn) (us : List Turn) → Ready (Some number) past other ts us
    → Told (cabled (owning at number ∷ other)) (u ∷ us) → AtNumber number at past other ts u us
at_number number at past other ts u us r h =
    let e : Event = record { at = at; what = LineOwns number } in
    let su = still u us (e ∷ told us) h.2 r.closed r.awaited r.shown r.other_side (ap (λ (one : CableMoment). is_heard one.what) h.1) in
    let same : came (owning at number ∷ other) (u ∷ us) ≡ came other us = came_still (owning at number) other u us su.keeps r.silent (ap is_silent su.told_is ∙ r.silent) in
    record {
      joined = record {
        lines = numbered_lines (Some number) (line_of (told ts)) (line_of (told us)) r.lines r.owns r.known ∙ sym (ap line_of su.told_is);
        sides = r.side ∙ sym su.side;
        streams = r.streams;
        since = subst (λ b. Since (came past ts) b) (sym same) r.since;
      };
      same = same;
      own = ap is_own su.told_is ∙ unsent (e ∷ told us) r.shown ∙ sym (unsent (told us) r.shown);
    }

joined_number : (number : List ℕ) (at : ℕ) (past other : List Moment) → AreReady (Some number) past other → AreJoined past (owning at number ∷ other)
joined_number number at past other all ts [] g h = absurd h
joined_number number at past other all ts (u ∷ us) g h = (at_number number at past other ts u us (all ts us g h.0) h).joined

-- ---- what is said by then

said_ready : SilenceIsForgotten → (setting : Setting) (recovers : Bool) (own : Option (List ℕ)) (first past other : List Moment) → Valid setting.start → AreOffLine first
    → AreReady own past other → SaidAlike setting recovers past other → is_live past ≡ is_live other → SaidAlike setting recovers (first ++ past) (first ++ other)
said_ready forgotten setting recovers own [] past other valid off all before live ts us said answer last final g h p q = before ts us said answer last final g h p q
said_ready forgotten setting recovers own (m ∷ first) past other valid off all before live [] us said answer last final g h p q = absurd g
said_ready forgotten setting recovers own (m ∷ first) past other valid off all before live (t ∷ ts) [] said answer last final g h p q = absurd h
said_ready forgotten setting recovers own (m ∷ first) past other valid off all before live (t ∷ ts) (u ∷ us) said answer last final g h p q =
    let ready = ready_call own (m ∷ first) past other off all (t ∷ ts) (u ∷ us) g h in
    (said_at forgotten setting recovers m (first ++ past) (first ++ other) t u ts us said answer last final valid ready.since
    (unsent_alike own (m ∷ (first ++ past)) (m ∷ (first ++ other)) (t ∷ ts) (u ∷ us) ready)
    (said_ready forgotten setting recovers own first past other valid off.0 all before live) (live_call first past other live) g h p q).1

no_news : (s : State) → IsNews s s → ⊥
no_news s (inl k) = k refl
no_news s (inr (inl h)) = h refl
no_news s (inr (inr (inl p))) = p.1 refl
no_news s (inr (inr (inr p))) = p.1 refl

silent_after : (before last : Option State) (s : State) (said again : Option State) → SaysAfter before s said → last ≡ last_said said before → SaysAfter last s again → again ≡ None
silent_after before last s said None g is h = refl
silent_after None last s said (Some now) g is h =
    let L : Option State → Type 0 = λ l. SaysAfter l s (Some now) in
    let e : last ≡ Some s = is ∙ ap (λ x. last_said x None) g in
    absurd (no_news s (subst L e h).0)
silent_after (Some before) last s None (Some now) g is h =
    let L : Option State → Type 0 = λ l. SaysAfter l s (Some now) in absurd (g (subst L is h).0)
silent_after (Some before) last s (Some said) (Some now) g is h =
    let L : Option State → Type 0 = λ l. SaysAfter l s (Some now) in
    let e : last ≡ Some s = is ∙ ap (λ (x : State). Some x) g.1 in
    absurd (no_news s (subst L e h).0)

none_said : (live : Bool) (before last : Option State) (s : State) (said again : Option State) → Says live before s said → last ≡ last_said said before → Says live last s again → again ≡ None
none_said true before last s said again g is h = silent_after before last s said again g is h
none_said false before last s said again g is h = h

-- The same is read of the board at both times.
abbrev Reads : Setting → Bool → List Moment → ℕ → ℕ → Type 0
Reads setting recovers past now later = (ts : List Turn) (a b : State) → Told (cabled past) ts → a.squares < 2 ^ 64 → b.squares < 2 ^ 64
    → IsStateOf setting recovers (came past ts) now a → IsStateOf setting recovers (came past ts) later b → b ≡ a

reads_now : HearsOnce → (setting : Setting) (recovers : Bool) (past : List Moment) (now : ℕ) → Valid setting.start → Reads setting recovers past now now
reads_now hears setting recovers past now valid ts a b told fits within g h = state_once hears setting recovers (came past ts) now b a valid within fits h g

reads_later : SilenceIsForgotten → HearsOnce → StaysUntilDue → (setting : Setting) (recovers : Bool) (own : Option (List ℕ)) (past other : List Moment) (turns : List Turn)
    (due : Option ℕ) (now later : ℕ) → Valid setting.start → AreReady own past other → Told (cabled past) turns → IsDueOf setting recovers (came past turns) now due
    → now ≤ later → later < 2 ^ 64 → IsBeforeState later due → Reads setting recovers other now later
reads_later forgotten hears stays setting recovers own past other turns due now later valid all first d from low early ts a b told fits within g h =
    let s = (all turns ts first told).since in
    let H : List Came → Type 0 = λ c. IsHeard setting recovers c d.0 in
    let K : List Came → Type 0 = λ c. IsHeard setting recovers c g.heard in
    let r = (forgotten setting recovers s.at s.since s.first s.second valid s.same).0 now d.0 g.heard (subst H s.one_is d.1) (subst K s.other_is g.is_heard) in
    let E : Option ℕ → Type 0 = λ x. IsBeforeState later x in
    let alike = stays now later g.heard from low (subst E (d.2 ∙ r.due) early) in
    let same : h.heard ≡ g.heard = hears setting recovers (came other ts) h.heard g.heard valid h.is_heard g.is_heard in
    let marks : Marks b.squares (names_at now g.heard) = λ n few. h.squares n few ∙ ap (λ x. names_at later x n) same ∙ alike.squares n few in
    state_same b a (h.kind ∙ ap (λ x. kind_at later x) same ∙ alike.kind ∙ sym g.kind) (h.since ∙ ap (λ x. since_at later x) same ∙ alike.since ∙ sym g.since)
    (squares_once b.squares a.squares (names_at now g.heard) within fits marks g.squares) (h.hint ∙ ap (λ x. hint_at later x) same ∙ alike.hint ∙ sym g.hint)

-- When the number may be told, the same is read of the board as at the last moment.
may_read : SilenceIsForgotten → HearsOnce → StaysUntilDue → (setting : Setting) (recovers : Bool) (own : Option (List ℕ)) (past other : List Moment) (now at : ℕ) → Valid setting.start
    → AreReady own past other → last_at past ≡ now → MayBeTold setting recovers past at → Reads setting recovers other now at
may_read forgotten hears stays setting recovers own past other now at valid all last (inl same) =
    subst (λ x. Reads setting recovers other now x) (sym (same ∙ last)) (reads_now hears setting recovers other now valid)
may_read forgotten hears stays setting recovers own past other now at valid all last (inr m) =
    let B : Option ℕ → Type 0 = λ d. IsBefore at d in
    let known = (sooner_both at (earlier m.5.cable m.5.state) m.5.end (subst B m.5.due_is m.6)).0 in
    let R : ℕ → Type 0 = λ x. Reads setting recovers other x at in
    subst R last (reads_later forgotten hears stays setting recovers own past other m.2 m.5.state (last_at past) at valid all m.4 m.5.state_is m.0 m.1
    (sooner_both at m.5.cable m.5.state known).1)

-- And the game stands with its end as it did then.
may_end : EndStaysUntilDue → (setting : Setting) (recovers : Bool) (past : List Moment) (at : ℕ) → Valid setting.start → MayBeTold setting recovers past at → EndsOn setting recovers past at
may_end stays setting recovers past at valid (inl same) ts end told is =
    let E : ℕ → Type 0 = λ x. IsEndOf setting recovers (came past ts) x end in
    subst E (sym same) is
may_end stays setting recovers past at valid (inr m) ts end told is =
    let B : Option ℕ → Type 0 = λ d. IsBefore at d in
    let D : List Turn → Type 0 = λ x. IsEndDueOf setting recovers (came past x) (last_at past) m.5.end in
    stays setting recovers (came past ts) (last_at past) at m.5.end end valid m.0 m.1 (sooner_both at (earlier m.5.cable m.5.state) m.5.end (subst B m.5.due_is m.6)).1
    (subst D (turns_once (cabled past) m.2 ts m.4 told) m.5.end_is) is

-- So no state is said when the number is told.
said_number : (setting : Setting) (recovers : Bool) (number : List ℕ) (at : ℕ) (x : Moment) (past other : List Moment) → AreReady (Some number) past (x ∷ other)
    → Reads setting recovers (x ∷ other) x.at at → SaidAlike setting recovers past (x ∷ other) → SaidAlike setting recovers past (owning at number ∷ x ∷ other)
said_number setting recovers number at x past other all reads before ts [] said answer last final g h p q = absurd h
said_number setting recovers number at x past other all reads before ts (u ∷ []) said answer last final g h p q = absurd h.0
said_number setting recovers number at x past other all reads before ts (u ∷ v ∷ us) said answer last final g h p q =
    let a = at_number number at past (x ∷ other) ts u (v ∷ us) (all ts (v ∷ us) g h.0) h in
    let r = q.3 in
    let state : q.0 ≡ r.0 = read_same setting recovers (owning at number ∷ x ∷ other) (x ∷ other) (u ∷ v ∷ us) (v ∷ us) at x.at q.0 r.0 q.5 r.5 a.own
    (λ b c low few i j. reads (v ∷ us) c b h.0 few low j (subst (λ has. IsStateOf setting recovers has at b) a.same i)) q.4 r.4 in
    let S : State → Type 0 = λ s. Says (is_live (x ∷ other)) q.2 s answer in
    let none : answer ≡ None = none_said (is_live (x ∷ other)) (said_before x.what r.2) q.2 r.0 q.1 answer r.6 r.7 (subst S state q.6) in
    before ts (v ∷ us) said q.1 last q.2 g h.0 p q.3 ∙ sym (q.7 ∙ ap (λ a. last_said a q.2) none)

-- ---- and then

follows : SilenceIsForgotten → (setting : Setting) (recovers : Bool) (own : Option (List ℕ)) (at : ℕ) (x last : Moment) (call past other : List Moment) (turns others : List Turn)
    → Valid setting.start → AreReady own past (x ∷ other) → SaidAlike setting recovers past (x ∷ other) → is_live past ≡ is_live (x ∷ other) → last_at past ≡ x.at
    → Reads setting recovers (x ∷ other) x.at at → EndsOn setting recovers past at
    → Told (cabled (last ∷ (call ++ past))) turns → Told (cabled (last ∷ (call ++ with_number at own (x ∷ other)))) others
    → SayTheSame setting recovers (last ∷ (call ++ past)) turns (last ∷ (call ++ with_number at own (x ∷ other))) others
follows forgotten setting recovers None at x last call past other turns others valid all said live same reads on g h =
    let joined = no_number past (x ∷ other) all in
    let E : ℕ → Type 0 = λ t. EndsOn setting recovers past t in
    let here : E x.at = subst E same (λ ts end told is. is) in (
      λ answer second looks alarms p q.
          says_on forgotten setting recovers last (call ++ past) (call ++ x ∷ other) turns others answer second looks alarms valid (joined_call call past (x ∷ other) joined)
          (said_call forgotten setting recovers call past (x ∷ other) valid joined said live) (live_call call past (x ∷ other) live)
          (ends_call setting recovers call past (x ∷ other) here) g h p q,
      λ due time p q. wakes_on forgotten setting recovers last (call ++ past) (call ++ x ∷ other) turns others due time valid (joined_call call past (x ∷ other) joined) g h p q,
    )
follows forgotten setting recovers (Some number) at x last call past other turns others valid all said live same reads on g h =
    let told_number = owning at number ∷ x ∷ other in
    let joined = joined_number number at past (x ∷ other) all in (
      λ answer second looks alarms p q.
          says_on forgotten setting recovers last (call ++ past) (call ++ told_number) turns others answer second looks alarms valid (joined_call call past told_number joined)
          (said_call forgotten setting recovers call past told_number valid joined (said_number setting recovers number at x past other all reads said) live)
          (live_call call past told_number live) (ends_call setting recovers call past told_number on) g h p q,
      λ due time p q. wakes_on forgotten setting recovers last (call ++ past) (call ++ told_number) turns others due time valid (joined_call call past told_number joined) g h p q,
    )

begin_ready : (past : List Moment) (m : Moment) (before : List Turn) → m.what ≡ Cable Begins → Told (cabled past) before
    → AreReady (own_number (told before)) (m ∷ past) (m ∷ as_filed past before)
begin_ready past m before is first [] us g h = absurd g
begin_ready past m before is first (t ∷ ts) [] g h = absurd h
begin_ready past m before is first (t ∷ ts) (u ∷ us) g h =
    let filed = as_filed past before in
    let fed = fed_filed past before first us h.0 in
    let same : ts ≡ before = turns_once (cabled past) ts before g.0 first in
    let had : but_silence (came past ts) ≡ but_silence (came filed us) =
    ap (λ x. but_silence (came past x)) same ∙ filed_alike past before ∙ sym (ap (λ (c : List Came). but_silence c) fed.2) in
    let R : List Turn → Type 0 = λ x. Ready (own_number (told x)) (m ∷ past) (m ∷ filed) (t ∷ ts) (u ∷ us) in
    subst R same (begun_ready m past filed t u ts us is fed.0 had g h)

begin_said : SilenceIsForgotten → (setting : Setting) (recovers : Bool) (own : Option (List ℕ)) (m : Moment) (past other : List Moment) → Valid setting.start → m.what ≡ Cable Begins
    → AreReady own (m ∷ past) (m ∷ other) → SaidAlike setting recovers (m ∷ past) (m ∷ other)
begin_said forgotten setting recovers own m past other valid is all [] us said answer last final g h p q = absurd g
begin_said forgotten setting recovers own m past other valid is all (t ∷ ts) [] said answer last final g h p q = absurd h
begin_said forgotten setting recovers own m past other valid is all (t ∷ ts) (u ∷ us) said answer last final g h p q =
    let ready = all (t ∷ ts) (u ∷ us) g h in
    let states : p.0 ≡ q.0 = read_since forgotten setting recovers (m ∷ past) (m ∷ other) (t ∷ ts) (u ∷ us) m.at p.0 q.0 valid p.5 q.5 ready.since
    (unsent_alike own (m ∷ past) (m ∷ other) (t ∷ ts) (u ∷ us) ready) p.4 q.4 in
    (said_step m.what (is_live (m ∷ past)) (is_live (m ∷ other)) p.0 q.0 p.2 q.2 said answer last final (live_alike [] past other m is) states (first_said m p.2 q.2 is) p.6 q.6 p.7 q.7).1

pub number_may_follow : SilenceIsForgotten → HearsOnce → StaysUntilDue → EndStaysUntilDue → NumberMayFollow
number_may_follow forgotten hears reads stays setting recovers last call [] past m at before turns others valid is off first may g h =
    let own = own_number (told before) in
    let filed = as_filed past before in
    let ready = begin_ready past m before is first in
    follows forgotten setting recovers own at m last call (m ∷ past) filed turns others valid ready
    (begin_said forgotten setting recovers own m past filed valid is ready) (live_alike [] past filed m is) refl
    (may_read forgotten hears reads setting recovers own (m ∷ past) (m ∷ filed) m.at at valid ready refl may) (may_end stays setting recovers (m ∷ past) at valid may) g h
number_may_follow forgotten hears reads stays setting recovers last call (one ∷ more) past m at before turns others valid is off first may g h =
    let own = own_number (told before) in
    let filed = as_filed past before in
    let ready = begin_ready past m before is first in
    let live = live_alike [] past filed m is in
    let lived : List Moment = one ∷ more ++ m ∷ past in
    let begun : List Moment = one ∷ more ++ m ∷ filed in
    let all = ready_call own (one ∷ more) (m ∷ past) (m ∷ filed) off ready in
    follows forgotten setting recovers own at one last call lived (more ++ m ∷ filed) turns others valid all
    (said_ready forgotten setting recovers own (one ∷ more) (m ∷ past) (m ∷ filed) valid off ready (begin_said forgotten setting recovers own m past filed valid is ready) live)
    (live_call (one ∷ more) (m ∷ past) (m ∷ filed) live) refl
    (may_read forgotten hears reads setting recovers own lived begun one.at at valid all refl may) (may_end stays setting recovers lived at valid may) g h
