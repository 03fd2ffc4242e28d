-- Two histories after which the same call begins.
use Rattle.std.proofs.Common.{◌≡◌, ◌||◌, ℕ, Bool, true, false, List, [], ◌∷◌, ◌++◌, Option, Some, None, refl, sym, ap, subst, ◌∙◌}
use Rattle.std.specs.Prelude.{if◌then◌else◌}
use Rattle.board_cable.specs.declared.line.Event.{Event}
use Rattle.board_cable.specs.declared.line.Happening.TheVariants.{Begins as LineBegins}
use Rattle.board_cable.specs.declared.whose.Handling.TheVariants.{Keep}
use Rattle.board_cable.specs.Asking.{request_at, with_request}
use Rattle.board_cable.specs.Silence.{is_silent}
use Rattle.board_cable.specs.Whose.{handling_at, own_number}
use Rattle.board_cable.specs.declared.happened.What.TheVariants.{Begins}
use Rattle.board_cable.specs.Keeping.{aside, ends_aside, ends_held, held, kept}
use Rattle.board_cable.specs.Moments.{Moment as CableMoment, is_anew, is_heard, stream}
use Rattle.board_cable.specs.Turns.{Tells, Told, Turn, handling_of, request_of, told}
use Rattle.board_cable.proofs.Once.{turns_once}
use Rattle.board_game.specs.History.{Came}
use Rattle.board_game.specs.declared.note.Note.{Note}
use Rattle.board_standing.specs.declared.heard.Heard.{Heard}
use Rattle.board_standing.specs.declared.heard.Heard.TheVariants.{Answers}
use Rattle.board_live.specs.declared.happened.What.{What}
use Rattle.board_live.specs.declared.happened.What.TheVariants.{Cable}
use Rattle.board_live.specs.Coming.{came, came_with, silence}
use Rattle.board_live.specs.Laws.{AnsweredAlike, RestartsAlike, as_kept, with_number}
use Rattle.board_live.specs.Numbers.{number_news}
use Rattle.board_live.specs.Moments.{Moment, already, at_cable, begins, cable_moment, cabled, is_added, news_of}
use Rattle.board_live.proofs.Fed.{is_kept}
use Rattle.board_live.proofs.Lines.{Line, line_of, same_asked, same_asks, same_begun, same_handlings, same_own, same_requests, same_tells}
use Rattle.board_live.proofs.Sides.{keeps_unseen, nothing_kept, same_kept, same_sides, side_kept, side_of}

-- the silence that is told at the last moment
abbrev pub silence_at : List Moment → List Turn → Option Heard
silence_at [] turns = None
silence_at (m ∷ past) [] = None
silence_at (m ∷ past) (t ∷ ts) = silence m.what (is_silent (told ts)) (is_silent (told (t ∷ ts)))

-- The same is answered after both, and they have alike what later answers depend on; what came to the game stands aside.
pub record Likewise (past other : List Moment) (t u : Turn) (ts us : List Turn) : Type 0 where
  pub request : request_of t ≡ request_of u
  pub handling : handling_of t ≡ handling_of u
  pub number : (what : What) → number_news what (own_number (told ts)) (own_number (told (t ∷ ts))) ≡ number_news what (own_number (told us)) (own_number (told (u ∷ us)))
  pub kept : kept (t ∷ ts) ≡ kept (u ∷ us)
  pub silence : silence_at past (t ∷ ts) ≡ silence_at other (u ∷ us)
  pub lines : line_of (told (t ∷ ts)) ≡ line_of (told (u ∷ us))
  pub sides : side_of (t ∷ ts) ≡ side_of (u ∷ us)
  pub streams : stream (cabled past) ≡ stream (cabled other)

-- If a turn tells the same after both, and the same is kept, the same is answered.
turn_alike : (m : Moment) (past other : List Moment) (t u : Turn) (ts us : List Turn) → t.moment ≡ u.moment → line_of t.now ≡ line_of u.now
    → handling_of t ≡ handling_of u → kept (t ∷ ts) ≡ kept (u ∷ us) → side_of (t ∷ ts) ≡ side_of (u ∷ us)
    → stream (cabled (m ∷ past)) ≡ stream (cabled (m ∷ other)) → own_number (told ts) ≡ own_number (told us)
    → ((b : Bool) → silence m.what (is_silent (told ts)) b ≡ silence m.what (is_silent (told us)) b) → Likewise (m ∷ past) (m ∷ other) t u ts us
turn_alike m past other t u ts us moments lines handlings keeps sides streams owns silences =
    let requests : request_of t ≡ request_of u = ap (λ (one : CableMoment). request_at one.at t.now) moments ∙ same_requests u.moment.at t.now u.now lines in
    let all : line_of (told (t ∷ ts)) ≡ line_of (told (u ∷ us)) =
    ap (λ (one : CableMoment). line_of (with_request one.at (request_of t) t.now)) moments
    ∙ ap (λ request. line_of (with_request u.moment.at request t.now)) requests
    ∙ same_asked u.moment.at (request_of u) t.now u.now lines in
    record {
      request = requests;
      handling = handlings;
      number = λ what. ap (λ own. number_news what own (own_number (told (t ∷ ts)))) owns
          ∙ ap (λ (l : Line). number_news what (own_number (told us)) l.own) all;
      kept = keeps;
      silence = ap (λ (l : Line). silence m.what (is_silent (told ts)) l.silent) all ∙ silences (is_silent (told (u ∷ us)));
      lines = all;
      sides = sides;
      streams = streams;
    }

pub stream_more : (m : Moment) (a b : List ℕ) → a ≡ b
    → (if is_heard (at_cable m.what) then a ++ m.bytes else (if is_anew (at_cable m.what) then [] else a))
    ≡ (if is_heard (at_cable m.what) then b ++ m.bytes else (if is_anew (at_cable m.what) then [] else b))
stream_more m a b h = ap (λ (xs : List ℕ). if is_heard (at_cable m.what) then xs ++ m.bytes else (if is_anew (at_cable m.what) then [] else xs)) h

pub step : (m : Moment) (past other : List Moment) (t u : Turn) (ts us : List Turn) → line_of (told ts) ≡ line_of (told us) → side_of ts ≡ side_of us
    → stream (cabled past) ≡ stream (cabled other) → Told (cabled (m ∷ past)) (t ∷ ts) → Told (cabled (m ∷ other)) (u ∷ us)
    → Likewise (m ∷ past) (m ∷ other) t u ts us
step m past other t u ts us all sides streams g h =
    let moments : t.moment ≡ u.moment = g.1 ∙ sym h.1 in
    let T : List ℕ → Type 0 = λ bytes. Tells (cable_moment m) bytes (told ts) t.now in
    let lines : line_of t.now ≡ line_of u.now = same_tells (cable_moment m) (stream (cabled other)) (told ts) (told us) t.now u.now all (subst T streams g.2) h.2 in
    let handlings : handling_of t ≡ handling_of u = ap (λ (one : CableMoment). handling_at one.at t.now) moments ∙ same_handlings u.moment.at t.now u.now lines in
    turn_alike m past other t u ts us moments lines handlings (same_kept t u ts us moments handlings (ap (λ (l : Line). l.own) lines) sides)
    (same_sides t u ts us moments handlings sides) (stream_more m (stream (cabled past)) (stream (cabled other)) streams)
    (ap (λ (l : Line). l.own) all) (λ b. ap (λ (l : Line). silence m.what l.silent b) all)

-- ---- where a call begins

pub begun : (m : Moment) (turns : List Turn) (t : Turn) (bytes : List ℕ) → m.what ≡ Cable Begins → Tells (cable_moment m) bytes (told turns) t.now
    → t.now ≡ record { at = m.at; what = LineBegins } ∷ told turns
begun m turns t bytes is tells =
    let T : What → Type 0 = λ w. Tells (record { at = m.at; what = at_cable w; bytes = m.bytes }) bytes (told turns) t.now in
    subst T is tells

pub keeps_begun : (m : Moment) (turns : List Turn) (t : Turn) → t.now ≡ record { at = m.at; what = LineBegins } ∷ told turns → handling_of t ≡ Keep
keeps_begun m turns t is = ap (λ (es : List Event). handling_at t.moment.at es) is ∙ keeps_unseen (own_number (told turns))

pub kept_begun : (m : Moment) (t : Turn) (turns : List Turn) → m.what ≡ Cable Begins → t.moment ≡ cable_moment m → handling_of t ≡ Keep → kept (t ∷ turns) ≡ []
kept_begun m t turns is at keeps =
    let what : t.moment.what ≡ Begins = ap (λ (one : CableMoment). one.what) at ∙ ap at_cable is in
    nothing_kept t turns keeps (ap (λ w. if is_heard w then t.moment.bytes else []) what) (ap (λ w. if ends_aside w then [] else aside turns) what)
    (ap (λ w. if ends_held w then [] else held turns) what)

answers : (a b : Bool) → b ≡ true → (if a || b then Some Answers else None) ≡ Some Answers
answers true b h = refl
answers false b h = ap (λ c. if c then Some Answers else None) h

silence_begun : (what : What) (a other b : Bool) → begins what ≡ true → silence what a b ≡ silence what other b
silence_begun what a other true h = refl
silence_begun what a other false h = answers a (begins what) h ∙ sym (answers other (begins what) h)

pub stream_begun : (m : Moment) (past : List Moment) → m.what ≡ Cable Begins → stream (cabled (m ∷ past)) ≡ []
stream_begun m past is =
    ap (λ w. if is_heard (at_cable w) then stream (cabled past) ++ m.bytes else (if is_anew (at_cable w) then [] else stream (cabled past))) is

begun_alike : (m : Moment) (past other : List Moment) (t u : Turn) (ts us : List Turn) → m.what ≡ Cable Begins
    → own_number (told ts) ≡ own_number (told us) → Told (cabled (m ∷ past)) (t ∷ ts)
    → Told (cabled (m ∷ other)) (u ∷ us) → Likewise (m ∷ past) (m ∷ other) t u ts us
begun_alike m past other t u ts us is own g h =
    let first = begun m ts t (stream (cabled past)) is g.2 in
    let second = begun m us u (stream (cabled other)) is h.2 in
    let lines : line_of t.now ≡ line_of u.now = ap line_of first ∙ same_begun m.at (told ts) (told us) own ∙ sym (ap line_of second) in
    let keeps = keeps_begun m ts t first in
    let keep = keeps_begun m us u second in
    let silences : (b : Bool) → silence m.what (is_silent (told ts)) b ≡ silence m.what (is_silent (told us)) b =
    λ b. silence_begun m.what (is_silent (told ts)) (is_silent (told us)) b (ap begins is) in
    turn_alike m past other t u ts us (g.1 ∙ sym h.1) lines (keeps ∙ sym keep)
    (kept_begun m t ts is g.1 keeps ∙ sym (kept_begun m u us is h.1 keep)) (side_kept t ts keeps ∙ sym (side_kept u us keep))
    (stream_begun m past is ∙ sym (stream_begun m other is)) own silences

pub none_told : (m : Moment) (call past : List Moment) → Told (cabled (call ++ m ∷ past)) [] → ⊥
none_told m [] past h = h
none_told m (one ∷ call) past h = h

-- From then on all stays alike.
pub likewise : (call past other : List Moment) (m : Moment) (before after : List Turn) (t u : Turn) (ts us : List Turn) → m.what ≡ Cable Begins
    → Told (cabled past) before → Told (cabled other) after → own_number (told before) ≡ own_number (told after)
    → Told (cabled (call ++ m ∷ past)) (t ∷ ts) → Told (cabled (call ++ m ∷ other)) (u ∷ us) → Likewise (call ++ m ∷ past) (call ++ m ∷ other) t u ts us
likewise [] past other m before after t u ts us is first second own g h =
    let a : ts ≡ before = turns_once (cabled past) ts before g.0 first in
    let b : us ≡ after = turns_once (cabled other) us after h.0 second in
    begun_alike m past other t u ts us is (ap (λ (x : List Turn). own_number (told x)) a ∙ own ∙ sym (ap (λ (x : List Turn). own_number (told x)) b)) g h
likewise (one ∷ call) past other m before after t u [] us is first second own g h = absurd (none_told m call past g.0)
likewise (one ∷ call) past other m before after t u (v ∷ ts) [] is first second own g h = absurd (none_told m call other h.0)
likewise (one ∷ call) past other m before after t u (v ∷ ts) (w ∷ us) is first second own g h =
    let same = likewise call past other m before after v w ts us is first second own g.0 h.0 in
    step one (call ++ m ∷ past) (call ++ m ∷ other) t u (v ∷ ts) (w ∷ us) same.lines same.sides same.streams g h

same_came : (at : ℕ) (news : Option Note) (added : Bool) (bytes : List ℕ) (kept others : List ℕ) (silence other : Option Heard) (a b : List Came) → kept ≡ others → silence ≡ other → a ≡ b
    → came_with at news added bytes kept silence a ≡ came_with at news added bytes others other b
same_came at news added bytes kept others silence other a b k s c =
    ap (λ x. came_with at news added bytes x silence a) k ∙ ap (λ x. came_with at news added bytes others x a) s ∙ ap (λ x. came_with at news added bytes others other x) c

-- So the same comes to the game, if the same came before.
came_alike : (m : Moment) (past other : List Moment) (t u : Turn) (ts us : List Turn) → Likewise (m ∷ past) (m ∷ other) t u ts us → came past ts ≡ came other us
    → came (m ∷ past) (t ∷ ts) ≡ came (m ∷ other) (u ∷ us)
came_alike m past other t u ts us same has =
    same_came m.at (news_of m.what) (is_added m.what) (already m.what m.bytes) (kept (t ∷ ts)) (kept (u ∷ us)) (silence_at (m ∷ past) (t ∷ ts)) (silence_at (m ∷ other) (u ∷ us))
    (came past ts) (came other us) same.kept same.silence has

all_came : (call past other : List Moment) (m : Moment) (before after : List Turn) (t u : Turn) (ts us : List Turn) → m.what ≡ Cable Begins
    → Told (cabled past) before → Told (cabled other) after → own_number (told before) ≡ own_number (told after) → came past before ≡ came other after
    → Told (cabled (call ++ m ∷ past)) (t ∷ ts) → Told (cabled (call ++ m ∷ other)) (u ∷ us) → came (call ++ m ∷ past) (t ∷ ts) ≡ came (call ++ m ∷ other) (u ∷ us)
all_came [] past other m before after t u ts us is first second own has g h =
    came_alike m past other t u ts us (likewise [] past other m before after t u ts us is first second own g h)
    (ap (λ x. came past x) (turns_once (cabled past) ts before g.0 first) ∙ has ∙ sym (ap (λ x. came other x) (turns_once (cabled other) us after h.0 second)))
all_came (one ∷ call) past other m before after t u [] us is first second own has g h = absurd (none_told m call past g.0)
all_came (one ∷ call) past other m before after t u (v ∷ ts) [] is first second own has g h = absurd (none_told m call other h.0)
all_came (one ∷ call) past other m before after t u (v ∷ ts) (w ∷ us) is first second own has g h =
    came_alike one (call ++ m ∷ past) (call ++ m ∷ other) t u (v ∷ ts) (w ∷ us) (likewise (one ∷ call) past other m before after t u (v ∷ ts) (w ∷ us) is first second own g h)
    (all_came call past other m before after v w ts us is first second own has g.0 h.0)

-- The turns before a call has begun.
pub earlier : (call past : List Moment) (m : Moment) (turns : List Turn) → Told (cabled (call ++ m ∷ past)) turns → (before : List Turn) × Told (cabled past) before
earlier [] past m [] h = absurd h
earlier [] past m (t ∷ ts) h = (ts, h.0)
earlier (one ∷ call) past m [] h = absurd h
earlier (one ∷ call) past m (t ∷ ts) h = earlier call past m ts h.0

pub restarts : (call past : List Moment) (m : Moment) (before : List Turn) (t u : Turn) (ts us : List Turn) → m.what ≡ Cable Begins
    → Told (cabled past) before → Told (cabled (call ++ m ∷ past)) (t ∷ ts)
    → Told (cabled (call ++ m ∷ with_number m.at (own_number (told before)) (as_kept past before))) (u ∷ us)
    → AnsweredAlike (call ++ m ∷ past) t ts (call ++ m ∷ with_number m.at (own_number (told before)) (as_kept past before)) u us
restarts call past m before t u ts us is first g h =
    let other = with_number m.at (own_number (told before)) (as_kept past before) in
    let second = earlier call other m (u ∷ us) h in
    let fed = is_kept m.at past before second.0 first second.1 in
    let same = likewise call past other m before second.0 t u ts us is first second.1 (sym fed.0) g h in
    record {
      request = same.request;
      handling = same.handling;
      number = same.number;
      kept = same.kept;
      silent = ap (λ (l : Line). l.silent) same.lines;
      own = same_own (told (t ∷ ts)) (told (u ∷ us)) same.lines;
      came = all_came call past other m before second.0 t u ts us is first second.1 (sym fed.0) (sym fed.1) g h;
      asked = λ later. same_asks later (told (t ∷ ts)) (told (u ∷ us)) same.lines;
      handled = λ later. same_handlings later (told (t ∷ ts)) (told (u ∷ us)) same.lines;
    }

pub restarts_alike : RestartsAlike
restarts_alike call past m before t u ts us is first g h = restarts call past m before t u ts us is first g h
