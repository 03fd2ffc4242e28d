-- What is said of the clock, of a board that answers, and where nobody listened.
use Rattle.std.proofs.Common.{◌≡◌, ◌≢◌, ◌||◌, not, nat_lt, ℕ, Bool, true, false, List, [], ◌∷◌, ◌++◌, take, Option, Some, None, refl, sym, ap, subst, ◌∙◌}
use Rattle.std.specs.Prelude.{if◌then◌else◌}
use Rattle.std.specs.List.{list_all}
use Rattle.std.proofs.lemmas.Bool.{and_parts, le-ltb, lt-ltb, or_parts, true≢false}
use Rattle.board_cable.specs.declared.happened.What.TheVariants.{Begins, Opens, Closes, Wakes}
use Rattle.board_cable.specs.Keeping.{kept}
use Rattle.board_cable.specs.Silence.{is_silent}
use Rattle.board_cable.specs.Turns.{Turn, told}
use Rattle.board_alarms.specs.declared.chunk.When.{When}
use Rattle.board_game.specs.History.{Bytes, Came, News, room_of}
use Rattle.board_game.specs.Laws.{StopsOnce}
use Rattle.board_game.specs.Silences.{SilentIsTold, has_stopped, stopped_by}
use Rattle.board_game.specs.declared.note.Note.{Note}
use Rattle.board_game.specs.declared.note.Note.TheVariants.{Line, Resumes}
use Rattle.board_standing.specs.declared.heard.Heard.{Heard}
use Rattle.board_standing.specs.declared.heard.Heard.TheVariants.{Stops as FallsSilent, Answers as AnswersAgain}
use Rattle.board_live.specs.declared.happened.What.{What}
use Rattle.board_live.specs.declared.happened.What.TheVariants.{Cable, Stops, Keeps, KeepsAdded, Tells, Notes}
use Rattle.board_live.specs.Coming.{came, came_with, lined, silence, when, with_bytes, with_news}
use Rattle.board_live.specs.Live.{clock_news}
use Rattle.board_live.specs.Moments.{Moment, already, begins, is_added, news_of, stopped}
use Rattle.board_live.specs.Saying.{is_live, live_by}
use Rattle.board_live.specs.Told.{AnsweringIsNotSilent, ClockChangesAreSaid, UnheededResumes, tells_silence}

-- ---- the clock

changed : (before now : Bool) → before ≢ now → clock_news true false before now ≡ Some now
changed true true other = absurd (other refl)
changed true false other = refl
changed false true other = refl
changed false false other = absurd (other refl)

unchanged : (before now : Bool) → before ≡ now → clock_news true false before now ≡ None
unchanged true true same = refl
unchanged true false same = absurd (true≢false same)
unchanged false true same = absurd (true≢false (sym same))
unchanged false false same = refl

first_said : (before now : Bool) → (now ≡ true → clock_news true true before now ≡ Some true) × (now ≡ false → clock_news true true before now ≡ None)
first_said before true = (λ is. refl, λ is. absurd (true≢false is))
first_said before false = (λ is. absurd (true≢false (sym is)), λ is. refl)

pub clock_changes_are_said : StopsOnce → ClockChangesAreSaid
clock_changes_are_said once setting recovers m past t ts before now news valid tells live earlier later =
    let b : tells.before ≡ before = once setting recovers (came past ts) tells.before before valid tells.before_is earlier in
    let n : tells.now ≡ now = once setting recovers (came (m ∷ past) (t ∷ ts)) tells.now now valid tells.now_is later in
    let is : news ≡ clock_news true (begins m.what) before now =
    tells.news_is ∙ ap (λ l. clock_news l (begins m.what) tells.before tells.now) live
    ∙ ap (λ x. clock_news true (begins m.what) x tells.now) b ∙ ap (clock_news true (begins m.what) before) n in
    let N : Bool → Type 0 = λ f. news ≡ clock_news true f before now in (
      λ on. let said = subst N on is in (λ other. said ∙ changed before now other, λ same. said ∙ unchanged before now same),
      λ first. let said = subst N first is in let both = first_said before now in (λ stopped. said ∙ both.0 stopped, λ runs. said ∙ both.1 runs),
    )

-- ---- nobody listened

-- What comes later stands before what came.
record Behind (all before : List Came) : Type 0 where
  later : List Came
  is : all ≡ later ++ before

bytes_behind : (w : When) (bytes : List ℕ) (all before : List Came) → Behind all before → Behind (with_bytes w bytes all) before
bytes_behind w [] all before h = h
bytes_behind w (byte ∷ bytes) all before h =
    let first : Came = Bytes w (take (room_of all) (byte ∷ bytes)) in
    record { later = first ∷ h.later; is = ap (λ past. first ∷ past) h.is }

news_behind : (at : ℕ) (note : Option Note) (all before : List Came) → Behind all before → Behind (with_news at note all) before
news_behind at None all before h = h
news_behind at (Some note) all before h = record { later = News at note ∷ h.later; is = ap (λ past. News at note ∷ past) h.is }

silence_same : (time : ℕ) (before now : Bool) → silence (Stops time) before now ≡ silence (Cable Wakes) before now
silence_same time before true = refl
silence_same time before false = refl

pub unheeded_resumes : UnheededResumes
unheeded_resumes at time bytes past t ts =
    let s : Option Heard = silence (Stops time) (is_silent (told ts)) (is_silent (told (t ∷ ts))) in
    let with : Option Note → List Came = λ note. came_with at note false [] (kept (t ∷ ts)) s (came past ts) in
    let resumed : List Came = News at Resumes ∷ came past ts in (
      λ long. let is : stopped time ≡ Some Resumes = ap (λ b. if b then None else Some Resumes) (le-ltb time 10000 long) in
          let behind = news_behind at (lined s) (with_bytes (when at false) (kept (t ∷ ts)) resumed) resumed
          (bytes_behind (when at false) (kept (t ∷ ts)) resumed resumed (record { later = []; is = refl })) in
          (behind.later, ap with is ∙ behind.is),
      λ short. let is : stopped time ≡ None = ap (λ b. if b then None else Some Resumes) (lt-ltb time 10000 short) in
          ap with is ∙ ap (λ x. came_with at None false [] (kept (t ∷ ts)) x (came past ts)) (silence_same time (is_silent (told ts)) (is_silent (told (t ∷ ts)))),
    )

-- ---- a board that answers

bytes_stopped : (w : When) (bytes : List ℕ) (before : List Came) → has_stopped (with_bytes w bytes before) ≡ has_stopped before
bytes_stopped w [] before = refl
bytes_stopped w (byte ∷ bytes) before = refl

-- What may be told in a call doesn't say that the board has stopped to answer.
line_answers : (heard : Heard) → not (tells_silence (Notes (Line heard))) ≡ true → stopped_by (Line heard) false ≡ false
line_answers FallsSilent h = absurd (true≢false (sym h))
line_answers other h = refl

note_answers : (note : Note) → not (tells_silence (Notes note)) ≡ true → stopped_by note false ≡ false
note_answers (Line heard) h = line_answers heard h
note_answers other h = refl

resumes_answers : (b : Bool) (at : ℕ) (before : List Came) → has_stopped before ≡ false → has_stopped (with_news at (if b then None else Some Resumes) before) ≡ false
resumes_answers true at before h = h
resumes_answers false at before h = h

news_answers : (what : What) (at : ℕ) (before : List Came) (live : Bool) → not (tells_silence what) ≡ true → live_by what live ≡ true → has_stopped before ≡ false
    → has_stopped (with_news at (news_of what) before) ≡ false
news_answers (Cable Opens) at before live quiet on h = refl
news_answers (Cable Closes) at before live quiet on h = refl
news_answers (Stops time) at before live quiet on h = resumes_answers (nat_lt time 10000) at before h
news_answers (Tells heard) at before live quiet on h = absurd (true≢false (sym on))
news_answers (Notes note) at before live quiet on h = ap (stopped_by note) h ∙ note_answers note quiet
news_answers other at before live quiet on h = h

live_before : (what : What) (before : Bool) → begins what ≡ false → live_by what before ≡ true → before ≡ true
live_before (Cable Begins) before first live = absurd (true≢false first)
live_before Keeps before first live = absurd (true≢false (sym live))
live_before KeepsAdded before first live = absurd (true≢false (sym live))
live_before (Tells heard) before first live = absurd (true≢false (sym live))
live_before other before first live = live

-- It answers again, or it hasn't stopped.
last_answers : (at : ℕ) (b : Bool) (all : List Came) → (b ≡ false → has_stopped all ≡ false) → has_stopped (with_news at (lined (if b then Some AnswersAgain else None)) all) ≡ false
last_answers at true all h = refl
last_answers at false all h = h refl

abbrev are_quiet : List Moment → Bool
are_quiet past = list_all (λ (one : Moment). not (tells_silence one.what)) past

answers_on : (past : List Moment) (turns : List Turn) → is_live past ≡ true → are_quiet past ≡ true → is_silent (told turns) ≡ false → has_stopped (came past turns) ≡ false
answers_on [] turns live quiet loud = refl
answers_on (m ∷ past) [] live quiet loud = refl
answers_on (m ∷ past) (t ∷ ts) live quiet loud =
    let both = and_parts (not (tells_silence m.what)) (are_quiet past) quiet in
    let was : Bool = is_silent (told ts) in
    let first : List Came = with_bytes (when m.at (is_added m.what)) (already m.what m.bytes) (with_news m.at (news_of m.what) (came past ts)) in
    let all : List Came = with_bytes (when m.at false) (kept (t ∷ ts)) first in
    ap (λ b. has_stopped (with_news m.at (lined (silence m.what was b)) all)) loud
    ∙ last_answers m.at (was || begins m.what) all (λ none.
    let parts = or_parts was (begins m.what) none in
    bytes_stopped (when m.at false) (kept (t ∷ ts)) first
    ∙ bytes_stopped (when m.at (is_added m.what)) (already m.what m.bytes) (with_news m.at (news_of m.what) (came past ts))
    ∙ news_answers m.what m.at (came past ts) (is_live past) both.0 live
    (answers_on past ts (live_before m.what (is_live past) parts.1 live) both.1 parts.0))

pub answering_is_not_silent : SilentIsTold → AnsweringIsNotSilent
answering_is_not_silent told_so setting recovers m past t ts state live quiet loud state_of is =
    true≢false (sym ((told_so setting recovers (came (m ∷ past) (t ∷ ts)) m.at state state_of).0 is) ∙ answers_on (m ∷ past) (t ∷ ts) live quiet loud)
