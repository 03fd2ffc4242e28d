-- Who wants the text tells no more than who wakes the recorder.
use Rattle.std.proofs.Common.{◌≡◌, ℕ, Bool, true, false, List, [], ◌∷◌, IfSome, refl, sym, ap, subst, ◌∙◌}
use Rattle.board_cable.specs.Pace.{AsksAlike}
use Rattle.board_cable.specs.Whose.{HandledAlike}
use Rattle.board_cable.specs.Keeping.{kept}
use Rattle.board_cable.specs.Turns.{Told, Turn, told}
use Rattle.board_events.specs.declared.setup.Setup.{Setup}
use Rattle.board_events.specs.Settings.{setting_of}
use Rattle.board_live.specs.Coming.{came}
use Rattle.board_live.specs.Due.{IsDue, MayChange, StaysAlike}
use Rattle.board_live.specs.Ending.{EndStays}
use Rattle.board_live.specs.Live.{Answers}
use Rattle.board_live.specs.Moments.{Moment, cabled}
use Rattle.live_lines.specs.declared.clock.Clock.{Clock}
use Rattle.live_lines.specs.declared.entries.What.{What}
use Rattle.live_lines.specs.declared.entries.What.TheVariants.{Happens, Wakes, Lends, WantsText, Owns, KeepsTimes, KeepsBytes}
use Rattle.live_lines.specs.Answers.{answer_text}
use Rattle.live_lines.specs.Clock.{clock_after, clock_of, next_clock}
use Rattle.live_lines.specs.Entries.{brings_capture, wants_text}
use Rattle.live_lines.specs.Heard.{HasEvents, Heard, IsHeard, waiting, waiting_by}
use Rattle.live_lines.specs.History.{history_of}
use Rattle.live_lines.specs.Laws.{TextsAreNoNews, as_wake, with_wakes}
use Rattle.live_lines.specs.Meaning.{moment_by, moments, moments_by, time_of}
use Rattle.live_lines.specs.Recorder.{IsAnsweredBy, IsSaidOf, SaysAlarms}
use Rattle.live_lines.specs.Explaining.{ExplainsSaid}
use Rattle.live_lines.specs.Text.{GivesText}

as_before : {A : Type 0} (F : What → A) → F Wakes ≡ F WantsText → (what : What) → F (as_wake what) ≡ F what
as_before F e (Happens what) = refl
as_before F e Wakes = refl
as_before F e Lends = refl
as_before F e WantsText = e
as_before F e (Owns n) = refl
as_before F e (KeepsTimes n) = refl
as_before F e (KeepsBytes n) = refl

-- the entry with another word
abbrev with_what : Heard → What → Heard
with_what heard what = record heard { entry = record { at = heard.entry.at; what = what } }

-- what the clock, the moments and the file of times that waits are after an entry, by what they were before
abbrev clock_by : Heard → Clock → What → Clock
clock_by heard clock what = clock_of (brings_capture what) (with_what heard what) clock

moments_at : Bool → Heard → Clock → List Moment → List Moment
moments_at true heard clock before = history_of clock heard.events heard.bytes before
moments_at false heard clock before = moment_by (next_clock heard.entry clock).last heard ∷ before

moments_are : (brings : Bool) (heard : Heard) (past : List Heard) (before : List Moment)
    → moments_by brings heard past before ≡ moments_at brings heard (clock_after past) before
unfolding moments_at
moments_are true heard past before = refl
moments_are false heard past before = refl

moments_like : (heard : Heard) (clock : Clock) (before : List Moment)
    → moments_at (brings_capture (as_wake heard.entry.what)) (with_what heard (as_wake heard.entry.what)) clock before
    ≡ moments_at (brings_capture heard.entry.what) heard clock before
unfolding moments_at
moments_like heard clock before =
    as_before (λ what. moments_at (brings_capture what) (with_what heard what) clock before) refl heard.entry.what

same_clock : (past : List Heard) → clock_after (with_wakes past) ≡ clock_after past
same_clock [] = refl
same_clock (heard ∷ past) =
    as_before (λ what. clock_by heard (clock_after (with_wakes past)) what) refl heard.entry.what
    ∙ ap (λ (k : Clock). clock_of (brings_capture heard.entry.what) heard k) (same_clock past)

same_waiting : (past : List Heard) → waiting (with_wakes past) ≡ waiting past
same_waiting [] = refl
same_waiting (heard ∷ past) =
    as_before (λ what. waiting_by what heard.bytes (waiting (with_wakes past))) refl heard.entry.what
    ∙ ap (λ t. waiting_by heard.entry.what heard.bytes t) (same_waiting past)

same_moments : (past : List Heard) → moments (with_wakes past) ≡ moments past
same_moments [] = refl
same_moments (heard ∷ past) =
    let other : Heard = with_what heard (as_wake heard.entry.what) in
    let b : Bool = brings_capture heard.entry.what in
    moments_are (brings_capture other.entry.what) other (with_wakes past) (moments (with_wakes past))
    ∙ moments_like heard (clock_after (with_wakes past)) (moments (with_wakes past))
    ∙ ap (λ (k : Clock). moments_at b heard k (moments (with_wakes past))) (same_clock past)
    ∙ ap (λ ms. moments_at b heard (clock_after past) ms) (same_moments past)
    ∙ sym (moments_are b heard past (moments past))

both : (P : ℕ → List Moment → Type 0) (t u : ℕ) (ms ns : List Moment) → t ≡ u → ms ≡ ns → P t ms → P u ns
both P t u ms ns e f p =
    let T : ℕ → Type 0 = λ n. P n ms in
    let M : List Moment → Type 0 = λ x. P u x in
    subst M f (subst T e p)

-- What is said depends on the time and on what happened alone.
said_like : (setup : Setup) (recovers : Bool) (heard : Heard) (past other : List Heard) (turn : Turn) (turns : List Turn) (more said : List ℕ)
    → time_of heard past ≡ time_of heard other → moments past ≡ moments other
    → IsSaidOf setup recovers heard past turn turns more said → IsSaidOf setup recovers heard other turn turns more said
said_like setup recovers heard past other turn turns more said e f s =
    let t = time_of heard past in
    let u = time_of heard other in
    let A : ℕ → List Moment → Type 0 = λ n ms. Answers (setting_of setup) recovers (moment_by n heard) ms turn turns s.answer in
    let G : ℕ → List Moment → Type 0 = λ n ms. GivesText (wants_text heard.entry.what) (setting_of setup) recovers setup.tags (came (moment_by n heard ∷ ms) (turn ∷ turns)) s.game in
    let X : ℕ → List Moment → Type 0 = λ n ms. ExplainsSaid s.answer.state (setting_of setup) recovers (came (moment_by n heard ∷ ms) (turn ∷ turns)) s.fits in
    let L : ℕ → List Moment → Type 0 = λ n ms. SaysAlarms (setting_of setup) recovers (came (moment_by n heard ∷ ms) (turn ∷ turns)) s.answer.unsaid s.looks in
    let Q : ℕ → Type 0 = λ n. AsksAlike n (told (turn ∷ turns)) s.due in
    let H : ℕ → Type 0 = λ n. HandledAlike n (told (turn ∷ turns)) s.due in
    let S : ℕ → List Moment → Type 0 = λ n ms. StaysAlike (setting_of setup) recovers (came (moment_by n heard ∷ ms) (turn ∷ turns)) n s.due in
    let C : ℕ → List Moment → Type 0 = λ n ms. IfSome s.due (λ d. MayChange (setting_of setup) recovers (came (moment_by n heard ∷ ms) (turn ∷ turns)) (told (turn ∷ turns)) n d) in
    let E : ℕ → List Moment → Type 0 = λ n ms. EndStays (setting_of setup) recovers (came (moment_by n heard ∷ ms) (turn ∷ turns)) n s.due in
    let W : ℕ → List Moment → Type 0 = λ n ms. IsDue (setting_of setup) recovers (came (moment_by n heard ∷ ms) (turn ∷ turns)) (told (turn ∷ turns)) n s.due in
    record {
      answer = s.answer;
      fits = s.fits;
      game = s.game;
      looks = s.looks;
      due = s.due;
      text = s.text ∙ ap (λ n. answer_text n s.answer (kept (turn ∷ turns)) more s.fits s.game s.looks s.due) e;
      alarms = both L t u (moments past) (moments other) e f s.alarms;
      answers = both A t u (moments past) (moments other) e f s.answers;
      explains = both X t u (moments past) (moments other) e f s.explains;
      gives = both G t u (moments past) (moments other) e f s.gives;
      asks = subst Q e s.asks;
      handling = subst H e s.handling;
      state = both S t u (moments past) (moments other) e f s.state;
      changes = both C t u (moments past) (moments other) e f s.changes;
      end = both E t u (moments past) (moments other) e f s.end;
      wakes = both W t u (moments past) (moments other) e f s.wakes;
    }

answered_by : (brings : Bool) (setup : Setup) (recovers : Bool) (heard : Heard) (past other : List Heard) (more said : List ℕ)
    → time_of heard past ≡ time_of heard other → moments past ≡ moments other
    → IsAnsweredBy brings setup recovers heard past more said → IsAnsweredBy brings setup recovers heard other more said
answered_by true setup recovers heard past other more said e f is = is
answered_by false setup recovers heard past other more said e f (turn, turns, happened, is) =
    let T : ℕ → List Moment → Type 0 = λ n ms. Told (cabled (moment_by n heard ∷ ms)) (turn ∷ turns) in (
      turn,
      turns,
      both T (time_of heard past) (time_of heard other) (moments past) (moments other) e f happened,
      said_like setup recovers heard past other turn turns more said e f is,
    )

heard_by : (heard : Heard) (past other : List Heard) → waiting past ≡ waiting other → IsHeard heard past → IsHeard heard other
heard_by heard past other e h =
    let W : List ℕ → Type 0 = λ t. HasEvents (brings_capture heard.entry.what) t heard.bytes heard.events in
    subst W e h

pub no_news : TextsAreNoNews
no_news setup recovers heard past more said =
    let b : Bool = brings_capture heard.entry.what in
    let e : time_of heard past ≡ time_of heard (with_wakes past) = ap (λ (k : Clock). (next_clock heard.entry k).last) (sym (same_clock past)) in
    let f : moments past ≡ moments (with_wakes past) = sym (same_moments past) in (
      (heard_by heard past (with_wakes past) (sym (same_waiting past)), heard_by heard (with_wakes past) past (same_waiting past)),
      (
        answered_by b setup recovers heard past (with_wakes past) more said e f,
        answered_by b setup recovers heard (with_wakes past) past more said (sym e) (sym f),
      ),
    )
