-- The bytes of a history are those of its capture.
use Rattle.std.proofs.Common.{◌≡◌, ℕ, ◌<◌, ◌+◌, length, List, [], ◌∷◌, ◌++◌, Bool, false, Option, Some, None, drop, take, get_or, add-one, drop-cons, refl, sym, ap, ◌∙◌, subst}
use Rattle.std.proofs.lemmas.List.{append_assoc, append-nil, take-append-drop}
use Rattle.board_events.specs.Settings.{Setting}
use Rattle.board_live.specs.declared.happened.What.{What}
use Rattle.board_live.specs.declared.live.Live.{Live}
use Rattle.board_live.specs.Live.{StandsFor}
use Rattle.board_live.specs.Laws.{kept_as, told_as, with_kept, with_told}
use Rattle.board_live.specs.Moments.{Moment}
use Rattle.board_game.specs.declared.note.Note.{Note}
use Rattle.board_times.specs.declared.events.Event.{Event}
use Rattle.board_times.specs.Fitting.{covered_after}
use Rattle.live_lines.specs.declared.clock.Clock.{Clock}
use Rattle.live_lines.specs.Clock.{clock_at, clock_over}
use Rattle.live_lines.specs.History.{bytes_in, coming, history_of, is_added, merged, news_of}

with_bytes : (at : ℕ) (added : Bool) (bytes : List ℕ) (past : List Moment) → bytes_in (with_kept at added bytes past) ≡ bytes_in past ++ bytes
with_bytes at added [] past = sym (append-nil (bytes_in past))
with_bytes at added (byte ∷ bytes) past = refl

with_news : (at : ℕ) (news : Option Note) (past : List Moment) → bytes_in (with_told at news past) ≡ bytes_in past
with_news at None past = refl
with_news at (Some note) past = append-nil (bytes_in past)

all_bytes : (events : List Event) (clock : Clock) (covered : ℕ) (rest : List ℕ) (past : List Moment)
    → bytes_in (merged clock covered rest events past) ≡ bytes_in past ++ rest
all_bytes [] clock covered rest past = with_bytes clock.last false rest past
all_bytes (event ∷ events) clock covered rest past =
    let at : ℕ = (clock_at event clock).last in
    let n : ℕ = coming event.what covered in
    let kept : List Moment = with_kept at (is_added event.what) (take n rest) past in
    all_bytes events (clock_at event clock) (covered_after event.what covered) (drop n rest) (with_told at (news_of event.what) kept)
    ∙ ap (λ t. t ++ drop n rest) (with_news at (news_of event.what) kept ∙ with_bytes at (is_added event.what) (take n rest) past)
    ∙ append_assoc (bytes_in past) (take n rest) (drop n rest)
    ∙ ap (λ t. bytes_in past ++ t) (take-append-drop n rest)

pub comes_once : (clock : Clock) (events : List Event) (capture : List ℕ) (past : List Moment)
    → bytes_in (history_of clock events capture past) ≡ bytes_in past ++ capture
comes_once clock events capture past = all_bytes events clock 0 capture past

kept_some : (at : ℕ) (added : Bool) (bytes : List ℕ) (past : List Moment) → (bytes ≡ [] → ⊥)
    → with_kept at added bytes past ≡ (let m : Moment = record { at = at; what = kept_as added; bytes = bytes } in m) ∷ past
kept_some at added [] past h = absurd (h refl)
kept_some at added (byte ∷ bytes) past h = refl

-- A board to which nothing is told stands for what it stood for.
pub stays_so : (live : Live) (setting : Setting) (recovers : Bool) (past other : List Moment) (text : List ℕ) → past ≡ other
    → StandsFor live setting recovers past text → StandsFor live setting recovers other (text ++ [])
stays_so live setting recovers past other text e s =
    let P : List Moment → Type 0 = λ p. StandsFor live setting recovers p text in
    let T : List ℕ → Type 0 = λ t. StandsFor live setting recovers other t in
    subst T (sym (append-nil text)) (subst P e s)

pub stands_by : (live : Live) (setting : Setting) (recovers : Bool) (past other : List Moment) (text : List ℕ) → past ≡ other
    → StandsFor live setting recovers past text → StandsFor live setting recovers other text
stands_by live setting recovers past other text e s =
    let P : List Moment → Type 0 = λ p. StandsFor live setting recovers p text in
    subst P e s

pub none_kept : (at : ℕ) (added : Bool) (bytes : List ℕ) (past : List Moment) → bytes ≡ [] → past ≡ with_kept at added bytes past
none_kept at added bytes past e = sym (ap (λ b. with_kept at added b past) e)

pub some_kept : (at : ℕ) (added : Bool) (bytes : List ℕ) (past : List Moment) (what : What) → what ≡ kept_as added → (bytes ≡ [] → ⊥)
    → (let m : Moment = record { at = at; what = what; bytes = bytes } in m) ∷ past ≡ with_kept at added bytes past
some_kept at added bytes past what is h =
    ap (λ w. (let m : Moment = record { at = at; what = w; bytes = bytes } in m) ∷ past) is ∙ sym (kept_some at added bytes past h)

pub none_told : (at : ℕ) (news : Option Note) (past : List Moment) → ((note : Note) → news ≡ Some note → ⊥) → past ≡ with_told at news past
none_told at None past h = refl
none_told at (Some note) past h = absurd (h note refl)

pub some_told : (at : ℕ) (news : Option Note) (note : Note) (past : List Moment) (what : What) → what ≡ told_as note → news ≡ Some note
    → (let m : Moment = record { at = at; what = what; bytes = [] } in m) ∷ past ≡ with_told at news past
some_told at news note past what is e =
    ap (λ w. (let m : Moment = record { at = at; what = w; bytes = [] } in m) ∷ past) is ∙ sym (ap (λ it. with_told at it past) e)

pub merged_step : (clock new : Clock) (covered now-covered : ℕ) (rest now later : List ℕ) (event : Event) (events left : List Event) (at : ℕ) (added : Bool)
    (news : Option Note) (past : List Moment) → new ≡ clock_at event clock → at ≡ new.last → now-covered ≡ covered_after event.what covered
    → now ≡ take (coming event.what covered) rest → later ≡ drop (coming event.what covered) rest → news ≡ news_of event.what
    → added ≡ is_added event.what → events ≡ event ∷ left
    → merged new now-covered later left (with_told at news (with_kept at added now past)) ≡ merged clock covered rest events past
merged_step clock new covered now-covered rest now later event events left at added news past e1 e2 e3 e4 e5 e6 e8 e7 =
    let c : Clock = clock_at event clock in
    let v : ℕ = covered_after event.what covered in
    let r : List ℕ = drop (coming event.what covered) rest in
    ap (λ (k : Clock). merged k now-covered later left (with_told at news (with_kept at added now past))) e1
    ∙ ap (λ x. merged c x later left (with_told at news (with_kept at added now past))) e3
    ∙ ap (λ x. merged c v x left (with_told at news (with_kept at added now past))) e5
    ∙ ap (λ x. merged c v r left (with_told x news (with_kept x added now past))) (e2 ∙ ap (λ (k : Clock). k.last) e1)
    ∙ ap (λ x. merged c v r left (with_told c.last x (with_kept c.last added now past))) e6
    ∙ ap (λ x. merged c v r left (with_told c.last (news_of event.what) (with_kept c.last x now past))) e8
    ∙ ap (λ x. merged c v r left (with_told c.last (news_of event.what) (with_kept c.last (is_added event.what) x past))) e4
    ∙ sym (ap (λ x. merged clock covered rest x past) e7)

pub three : (a b c d : List ℕ) → ((a ++ b) ++ c) ++ d ≡ a ++ (b ++ (c ++ d))
three a b c d = append_assoc (a ++ b) c d ∙ append_assoc a b (c ++ d)

pub cut_at : (events : List Event) (i : ℕ) (event : Event) → i < length events → event ≡ get_or events i event
    → drop i events ≡ event ∷ drop (i + 1) events
cut_at events i event lt e = rw (add-one, drop-cons events i event, ← e) refl

pub clock_step : (clock new : Clock) (event : Event) (events left : List Event) → new ≡ clock_at event clock → events ≡ event ∷ left
    → clock_over new left ≡ clock_over clock events
clock_step clock new event events left e f = ap (λ (k : Clock). clock_over k left) e ∙ sym (ap (λ x. clock_over clock x) f)
