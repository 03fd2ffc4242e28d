-- What is answered to an entry.
use Rattle.std.proofs.Common.{◌≡◌, ℕ, Bool, true, false, List, [], ◌∷◌, IfSome, Option, ap, ◌∙◌, subst, sym, refl}
use Rattle.board_cable.specs.Pace.{AsksAlike}
use Rattle.board_cable.specs.Whose.{HandledAlike}
use Rattle.board_cable.specs.Keeping.{kept}
use Rattle.board_cable.specs.Turns.{Told, Turn, told}
use Rattle.board_events.specs.declared.setup.Setup.{Setup}
use Rattle.board_events.specs.Settings.{Setting, setting_of}
use Rattle.board_game.specs.History.{Came}
use Rattle.chess_game.specs.Values.{TagValues}
use Rattle.board_live.specs.declared.happened.What.{What as ToBoard}
use Rattle.board_live.specs.declared.live.Answer.{Answer}
use Rattle.board_live.specs.Coming.{came}
use Rattle.board_live.specs.Due.{IsDue, MayChange, StaysAlike}
use Rattle.board_live.specs.Ending.{EndStays}
use Rattle.board_live.specs.Live.{Answers}
use Rattle.board_live.specs.Moments.{Moment, cabled}
use Rattle.board_alarms.specs.declared.look.Look.{Look}
use Rattle.board_times.specs.declared.events.Event.{Event}
use Rattle.board_times.specs.declared.reading.Found.{Found}
use Rattle.board_times.specs.Times.{IsFound}
use Rattle.live_lines.specs.declared.entries.What.{What}
use Rattle.live_lines.specs.declared.entries.What.TheVariants.{Happens, Wakes, Lends, WantsText, Owns, KeepsTimes, KeepsBytes}
use Rattle.live_lines.specs.Answers.{answer_text, capture_text}
use Rattle.live_lines.specs.Clock.{clock_after, clock_of, clock_over, next_clock}
use Rattle.live_lines.specs.Entries.{brings_capture, wants_text}
use Rattle.live_lines.specs.Heard.{AreEventsOf, HasEvents, Heard, IsHeard, events_for, waiting, waiting_by}
use Rattle.live_lines.specs.History.{history_of}
use Rattle.live_lines.specs.Meaning.{meaning_of, moment_by, moment_of, moments, moments_by, time_of}
use Rattle.live_lines.specs.Recorder.{IsAnswered, IsAnsweredBy, SaysAlarms}
use Rattle.live_lines.specs.Explaining.{ExplainsSaid}
use Rattle.live_lines.specs.Text.{GivesText}

not_so : false ≡ true → ⊥
not_so e = cc

-- the moment that the board is told
pub same_moment : (heard : Heard) (at now : ℕ) (what : ToBoard) → at ≡ now → what ≡ meaning_of heard.entry.what heard.bytes
    → (let m : Moment = record { at = at; what = what; bytes = heard.bytes } in m) ≡ moment_by now heard
same_moment heard at now what e f =
    ap (λ n. let m : Moment = record { at = n; what = what; bytes = heard.bytes } in m) e
    ∙ ap (λ w. let m : Moment = record { at = now; what = w; bytes = heard.bytes } in m) f

-- the text of the game, if it is wanted
pub given_text : (a b : Bool) (setting : Setting) (recovers : Bool) (t u : TagValues) (past : List Came) (x y : List ℕ) → a ≡ b → t ≡ u → y ≡ x
    → GivesText a setting recovers t past x → GivesText b setting recovers u past y
given_text a b setting recovers t u past x y e f h g =
    let A : Bool → Type 0 = λ c. GivesText c setting recovers t past x in
    let T : TagValues → Type 0 = λ v. GivesText b setting recovers v past x in
    let X : List ℕ → Type 0 = λ z. GivesText b setting recovers u past z in
    subst X (sym h) (subst T f (subst A e g))

pub answered : (setup : Setup) (recovers : Bool) (heard : Heard) (past : List Heard) (m : Moment) (at : ℕ) (answer : Answer) (due : Option ℕ)
    (k ls more fit g : List ℕ) (looks : List Look) → m ≡ moment_by (time_of heard past) heard → at ≡ time_of heard past → ls ≡ more
    → ((turns : List Turn) → Told (cabled (m ∷ moments past)) turns → SaysAlarms (setting_of setup) recovers (came (m ∷ moments past) turns) answer.unsaid looks)
    → ((turns : List Turn) → Told (cabled (m ∷ moments past)) turns → k ≡ kept turns)
    → ((turn : Turn) (turns : List Turn) → Told (cabled (m ∷ moments past)) (turn ∷ turns) → Answers (setting_of setup) recovers m (moments past) turn turns answer)
    → ((turns : List Turn) → Told (cabled (m ∷ moments past)) turns → ExplainsSaid answer.state (setting_of setup) recovers (came (m ∷ moments past) turns) fit)
    → ((turns : List Turn) → Told (cabled (m ∷ moments past)) turns → GivesText (wants_text heard.entry.what) (setting_of setup) recovers setup.tags (came (m ∷ moments past) turns) g)
    → ((turns : List Turn) → Told (cabled (m ∷ moments past)) turns → AsksAlike at (told turns) due)
    → ((turns : List Turn) → Told (cabled (m ∷ moments past)) turns → HandledAlike at (told turns) due)
    → ((turns : List Turn) → Told (cabled (m ∷ moments past)) turns → StaysAlike (setting_of setup) recovers (came (m ∷ moments past) turns) at due)
    → ((turns : List Turn) → Told (cabled (m ∷ moments past)) turns → IfSome due (λ d. MayChange (setting_of setup) recovers (came (m ∷ moments past) turns) (told turns) at d))
    → ((turns : List Turn) → Told (cabled (m ∷ moments past)) turns → EndStays (setting_of setup) recovers (came (m ∷ moments past) turns) at due)
    → ((turns : List Turn) → Told (cabled (m ∷ moments past)) turns → IsDue (setting_of setup) recovers (came (m ∷ moments past) turns) (told turns) at due)
    → (turns : List Turn) → Told (cabled (m ∷ moments past)) turns → IsAnsweredBy false setup recovers heard past more (answer_text at answer k ls fit g looks due)
answered setup recovers heard past m at answer due k ls more fit g looks em ea el says keeps answers explains gives asks handles stays changes ends wakes [] none = absurd none
answered setup recovers heard past m at answer due k ls more fit g looks em ea el says keeps answers explains gives asks handles stays changes ends wakes (turn ∷ turns) happened =
    let now : ℕ = time_of heard past in
    let ps : List Moment = moments past in
    let T : Moment → Type 0 = λ x. Told (cabled (x ∷ ps)) (turn ∷ turns) in
    let h : T (moment_of heard past) = subst T em happened in
    let K : Moment → Type 0 = λ x. Told (cabled (x ∷ ps)) (turn ∷ turns) → k ≡ kept (turn ∷ turns) in
    let A : Moment → Type 0 = λ x. Told (cabled (x ∷ ps)) (turn ∷ turns) → Answers (setting_of setup) recovers x ps turn turns answer in
    let X : Moment → Type 0 = λ x. Told (cabled (x ∷ ps)) (turn ∷ turns) → ExplainsSaid answer.state (setting_of setup) recovers (came (x ∷ ps) (turn ∷ turns)) fit in
    let G : Moment → Type 0 = λ x. Told (cabled (x ∷ ps)) (turn ∷ turns)
    → GivesText (wants_text heard.entry.what) (setting_of setup) recovers setup.tags (came (x ∷ ps) (turn ∷ turns)) g in
    let L : Moment → Type 0 = λ x. Told (cabled (x ∷ ps)) (turn ∷ turns)
    → SaysAlarms (setting_of setup) recovers (came (x ∷ ps) (turn ∷ turns)) answer.unsaid looks in
    let Q : Moment → Type 0 = λ x. Told (cabled (x ∷ ps)) (turn ∷ turns) → AsksAlike at (told (turn ∷ turns)) due in
    let H : Moment → Type 0 = λ x. Told (cabled (x ∷ ps)) (turn ∷ turns) → HandledAlike at (told (turn ∷ turns)) due in
    let S : Moment → Type 0 = λ x. Told (cabled (x ∷ ps)) (turn ∷ turns) → StaysAlike (setting_of setup) recovers (came (x ∷ ps) (turn ∷ turns)) at due in
    let C : Moment → Type 0 = λ x. Told (cabled (x ∷ ps)) (turn ∷ turns)
    → IfSome due (λ d. MayChange (setting_of setup) recovers (came (x ∷ ps) (turn ∷ turns)) (told (turn ∷ turns)) at d) in
    let E : Moment → Type 0 = λ x. Told (cabled (x ∷ ps)) (turn ∷ turns) → EndStays (setting_of setup) recovers (came (x ∷ ps) (turn ∷ turns)) at due in
    let W : Moment → Type 0 = λ x. Told (cabled (x ∷ ps)) (turn ∷ turns) → IsDue (setting_of setup) recovers (came (x ∷ ps) (turn ∷ turns)) (told (turn ∷ turns)) at due in
    let Qn : ℕ → Type 0 = λ n. AsksAlike n (told (turn ∷ turns)) due in
    let Hn : ℕ → Type 0 = λ n. HandledAlike n (told (turn ∷ turns)) due in
    let Sn : ℕ → Type 0 = λ n. StaysAlike (setting_of setup) recovers (came (moment_of heard past ∷ moments past) (turn ∷ turns)) n due in
    let Cn : ℕ → Type 0 = λ n. IfSome due (λ d. MayChange (setting_of setup) recovers (came (moment_of heard past ∷ moments past) (turn ∷ turns)) (told (turn ∷ turns)) n d) in
    let En : ℕ → Type 0 = λ n. EndStays (setting_of setup) recovers (came (moment_of heard past ∷ moments past) (turn ∷ turns)) n due in
    let Wn : ℕ → Type 0 = λ n. IsDue (setting_of setup) recovers (came (moment_of heard past ∷ moments past) (turn ∷ turns)) (told (turn ∷ turns)) n due in (
      turn,
      turns,
      h,
      record {
        answer = answer;
        fits = fit;
        game = g;
        looks = looks;
        due = due;
        text = ap (λ n. answer_text n answer k ls fit g looks due) ea ∙ ap (λ x. answer_text now answer x ls fit g looks due) (subst K em (keeps (turn ∷ turns)) h)
            ∙ ap (λ x. answer_text now answer (kept (turn ∷ turns)) x fit g looks due) el;
        alarms = subst L em (says (turn ∷ turns)) h;
        answers = subst A em (answers turn turns) h;
        explains = subst X em (explains (turn ∷ turns)) h;
        gives = subst G em (gives (turn ∷ turns)) h;
        asks = subst Qn ea (subst Q em (asks (turn ∷ turns)) h);
        handling = subst Hn ea (subst H em (handles (turn ∷ turns)) h);
        state = subst Sn ea (subst S em (stays (turn ∷ turns)) h);
        changes = subst Cn ea (subst C em (changes (turn ∷ turns)) h);
        end = subst En ea (subst E em (ends (turn ∷ turns)) h);
        wakes = subst Wn ea (subst W em (wakes (turn ∷ turns)) h);
      },
    )

-- ---- an entry that is no capture

pub is_heard : (heard : Heard) (past : List Heard) → brings_capture heard.entry.what ≡ false → heard.events ≡ [] → IsHeard heard past
is_heard heard past other none =
    let P : Bool → Type 0 = λ b. HasEvents b (waiting past) heard.bytes heard.events in
    subst P (sym other) none

pub is_answered : (setup : Setup) (recovers : Bool) (heard : Heard) (past : List Heard) (more said : List ℕ) → brings_capture heard.entry.what ≡ false
    → IsAnsweredBy false setup recovers heard past more said → IsAnswered setup recovers heard past more said
is_answered setup recovers heard past more said other h =
    let P : Bool → Type 0 = λ b. IsAnsweredBy b setup recovers heard past more said in
    subst P (sym other) h

pub clock_goes_on : (heard : Heard) (past : List Heard) → brings_capture heard.entry.what ≡ false
    → clock_after (heard ∷ past) ≡ next_clock heard.entry (clock_after past)
clock_goes_on heard past other = ap (λ b. clock_of b heard (clock_after past)) other

pub moments_go_on : (heard : Heard) (past : List Heard) → brings_capture heard.entry.what ≡ false
    → moments (heard ∷ past) ≡ moment_of heard past ∷ moments past
moments_go_on heard past other = ap (λ b. moments_by b heard past (moments past)) other

-- ---- a capture

pub are_events : (times waits capture : List ℕ) (found : Found) (events : List Event) → times ≡ waits → IsFound times found
    → events ≡ events_for found capture → AreEventsOf waits capture events
are_events times waits capture found events e h f =
    let P : List ℕ → Type 0 = λ t. IsFound t found in
    (found, subst P e h, f)

pub capture_heard : (heard : Heard) (past : List Heard) → brings_capture heard.entry.what ≡ true
    → AreEventsOf (waiting past) heard.bytes heard.events → IsHeard heard past
capture_heard heard past brings h =
    let P : Bool → Type 0 = λ b. HasEvents b (waiting past) heard.bytes heard.events in
    subst P (sym brings) h

pub capture_answered : (setup : Setup) (recovers : Bool) (heard : Heard) (past : List Heard) (more said : List ℕ) → brings_capture heard.entry.what ≡ true
    → said ≡ capture_text more → IsAnswered setup recovers heard past more said
capture_answered setup recovers heard past more said brings h =
    let P : Bool → Type 0 = λ b. IsAnsweredBy b setup recovers heard past more said in
    subst P (sym brings) h

pub capture_clock : (heard : Heard) (past : List Heard) → brings_capture heard.entry.what ≡ true
    → clock_after (heard ∷ past) ≡ clock_over (clock_after past) heard.events
capture_clock heard past brings = ap (λ b. clock_of b heard (clock_after past)) brings

pub capture_moments : (heard : Heard) (past : List Heard) → brings_capture heard.entry.what ≡ true
    → moments (heard ∷ past) ≡ history_of (clock_after past) heard.events heard.bytes (moments past)
capture_moments heard past brings = ap (λ b. moments_by b heard past (moments past)) brings

taken_by : (what : What) (bytes before : List ℕ) → brings_capture what ≡ true → waiting_by what bytes before ≡ []
taken_by (KeepsBytes n) bytes before e = refl
taken_by (KeepsTimes n) bytes before e = absurd (not_so e)
taken_by (Happens happening) bytes before e = absurd (not_so e)
taken_by Wakes bytes before e = absurd (not_so e)
taken_by Lends bytes before e = absurd (not_so e)
taken_by WantsText bytes before e = absurd (not_so e)
taken_by (Owns n) bytes before e = absurd (not_so e)

pub capture_waits : (heard : Heard) (past : List Heard) → brings_capture heard.entry.what ≡ true → waiting (heard ∷ past) ≡ []
capture_waits heard past brings = taken_by heard.entry.what heard.bytes (waiting past) brings
