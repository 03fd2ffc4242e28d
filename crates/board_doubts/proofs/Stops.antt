-- Moves while the clock is stopped.
use Rattle.std.proofs.Common.{◌≡◌, ◌≢◌, ◌+◌, ◌==◌, ◌&&◌, ◌||◌, not, ℕ, min, Bool, true, false, List, [], ◌∷◌, ◌++◌, Option, Some, None, refl, sym, ap, ◌∙◌, arith}
use Rattle.std.specs.Prelude.{if◌then◌else◌, is_some}
use Rattle.std.proofs.lemmas.Bool.{ne_eqb, true≢false}
use Rattle.std.proofs.Math.Bool.{or-true}
use Rattle.square_runs.specs.Lasting.{has_lasted}
use Rattle.board_doubts.specs.declared.heard.Event.{Event}
use Rattle.board_doubts.specs.declared.heard.Heard.{Heard}
use Rattle.board_doubts.specs.declared.heard.Heard.TheVariants.{Moves, Away, Clock, Counts, Looked, Presses}
use Rattle.board_doubts.specs.declared.stopped_clock.Tried.{Tried}
use Rattle.board_doubts.specs.Clock.{ago, has_run, is_stopped, most, run_by, seen_late, stands_by, stands_since, tried, tried_by, tries_by}
use Rattle.board_doubts.specs.Unheard.{is_unheard, unheard_by}
use Rattle.board_doubts.specs.Laws.{SecondMoveIsTried, StaysStopped, leaves_stopped}

pub ran : (what : Heard) (before : Bool) → before ≡ true → run_by what before ≡ true
ran (Clock runs) before h = ap (λ b. runs || b) h ∙ or-true runs
ran _ before h = h

stood : (what : Heard) (at : ℕ) (unheard : Bool) (since : Option ℕ) → leaves_stopped what ≡ true → unheard ≡ false → is_some since ≡ true
    → is_some (stands_by what at unheard since) ≡ true
stood (Clock true) at unheard since stays e h = absurd (true≢false (sym stays))
stood (Clock false) at unheard None stays e h = refl
stood (Clock false) at unheard (Some since) stays e h = refl
stood Presses at unheard since stays e h = ap (λ b. is_some (if b then None else since)) e ∙ h
stood (Counts black) at unheard since stays e h = ap (λ b. is_some (if b then None else since)) e ∙ h
stood _ at unheard since stays e h = h

pub stood_now : (at : ℕ) (unheard : Bool) (since : Option ℕ) → is_some (stands_by (Clock false) at unheard since) ≡ true
stood_now at unheard None = refl
stood_now at unheard (Some since) = refl

still_heard : (what : Heard) (before : Bool) → leaves_stopped what ≡ true → before ≡ false → unheard_by what before ≡ false
still_heard (Clock runs) before stays h = refl
still_heard (Away gap) before stays h = absurd (true≢false (sym stays))
still_heard _ before stays h = h

-- The clock has run, and stands, and is heard.
abbrev pub Stopped : List Event → Type 0
Stopped past = (has_run past ≡ true) × (is_some (stands_since past) ≡ true) × (is_unheard past ≡ false)

pub is_so : (past : List Event) → Stopped past → is_stopped past ≡ true
is_so past h =
    ap (λ b. b && (is_some (stands_since past) && not (is_unheard past))) h.0 ∙ ap (λ b. b && not (is_unheard past)) h.1 ∙ ap not h.2

pub stopped_by : (event : Event) (past : List Event) → leaves_stopped event.what ≡ true → Stopped past → Stopped (event ∷ past)
stopped_by event past stays h = (
  ran event.what (has_run past) h.0,
  stood event.what event.at (is_unheard past) (stands_since past) stays h.2 h.1,
  still_heard event.what (is_unheard past) stays h.2,
)

pub stopped_in : (later past : List Event) → StaysStopped later → Stopped past → Stopped (later ++ past)
stopped_in [] past stays h = h
stopped_in (event ∷ later) past stays h = stopped_by event (later ++ past) stays.0 (stopped_in later past stays.1 h)

-- The first move was made.
counted : (n : ℕ) → min most (n + 1) ≢ 0
counted n e = omega arith

pub first_tried : (first : Event) (repeats : Bool) (past : List Event) → Stopped past → first.what ≡ Moves repeats → first.is_added ≡ false
    → tried (first ∷ past) ≢ 0
first_tried first repeats past h moves made none =
    counted (tried past) (
    sym (ap (λ what. tried_by what first.is_added (is_stopped past) (tried past)) moves
    ∙ ap (λ b. if b then tried past else if is_stopped past then min most (tried past + 1) else 0) made
    ∙ ap (λ b. if b then min most (tried past + 1) else 0) (is_so past h)) ∙ none)

still_tried : (what : Heard) (added stopped : Bool) (before : ℕ) → leaves_stopped what ≡ true → stopped ≡ true → before ≢ 0 → tried_by what added stopped before ≢ 0
still_tried (Moves repeats) true stopped before stays h more e = more e
still_tried (Moves repeats) false stopped before stays h more e =
    counted before (sym (ap (λ b. if b then min most (before + 1) else 0) h) ∙ e)
still_tried (Clock true) added stopped before stays h more e = absurd (true≢false (sym stays))
still_tried (Clock false) added stopped before stays h more e = more e
still_tried Looked added stopped before stays h more e = absurd (true≢false (sym stays))
still_tried _ added stopped before stays h more e = more e

pub tried_in : (later past : List Event) → StaysStopped later → Stopped past → tried past ≢ 0 → tried (later ++ past) ≢ 0
tried_in [] past stays h more = more
tried_in (event ∷ later) past stays h more =
    still_tried event.what event.is_added (is_stopped (later ++ past)) (tried (later ++ past)) stays.0
    (is_so (later ++ past) (stopped_in later past stays.1 h)) (tried_in later past stays.1 h more)

-- A move that is made while the clock is stopped is counted, while it stays so.
pub moved_while_stopped : (first stop : Event) (repeats : Bool) (past between later : List Event) → has_run past ≡ true → stop.what ≡ Clock false
    → StaysStopped between → StaysStopped later → first.what ≡ Moves repeats → first.is_added ≡ false
    → tried (later ++ first ∷ (between ++ stop ∷ past)) ≢ 0
moved_while_stopped first stop repeats past between later run says quiet still moves made =
    let stops : Stopped (stop ∷ past) = (
      ran stop.what (has_run past) run,
      ap (λ what. is_some (stands_by what stop.at (is_unheard past) (stands_since past))) says ∙ stood_now stop.at (is_unheard past) (stands_since past),
      ap (λ what. unheard_by what (is_unheard past)) says,
    ) in
    let before : Stopped (between ++ stop ∷ past) = stopped_in between (stop ∷ past) quiet stops in
    let after : Stopped (first ∷ (between ++ stop ∷ past)) = stopped_by first (between ++ stop ∷ past) (ap leaves_stopped moves) before in
    tried_in later (first ∷ (between ++ stop ∷ past)) still after (first_tried first repeats (between ++ stop ∷ past) before moves made)

second_tried : (second : Event) (again : Bool) (past : List Event) → Stopped past → tried past ≢ 0 → second.what ≡ Moves again → second.is_added ≡ false
    → is_some (tries_by second.what second past) ≡ true
second_tried second again past h more moves made =
    let given : Option Tried = Some (record { moves = tried (second ∷ past); plies = ago (second ∷ past) }) in
    let late : Bool = has_lasted seen_late second.at (stands_since past) in
    ap (λ what. is_some (tries_by what second past)) moves
    ∙ ap (λ b. is_some (if not b && (is_stopped past && (not (tried past == 0) || late)) then given else None)) made
    ∙ ap (λ b. is_some (if b && (not (tried past == 0) || late) then given else None)) (is_so past h)
    ∙ ap (λ b. is_some (if not b || late then given else None)) (ne_eqb (tried past) 0 more)

pub second_move_is_tried : SecondMoveIsTried
second_move_is_tried second first stop repeats again past between later run says quiet still moves made too own =
    let stops : Stopped (stop ∷ past) = (
      ran stop.what (has_run past) run,
      ap (λ what. is_some (stands_by what stop.at (is_unheard past) (stands_since past))) says ∙ stood_now stop.at (is_unheard past) (stands_since past),
      ap (λ what. unheard_by what (is_unheard past)) says,
    ) in
    let before : Stopped (between ++ stop ∷ past) = stopped_in between (stop ∷ past) quiet stops in
    let first_leaves : leaves_stopped first.what ≡ true = ap leaves_stopped moves in
    let after : Stopped (first ∷ (between ++ stop ∷ past)) = stopped_by first (between ++ stop ∷ past) first_leaves before in
    second_tried second again (later ++ first ∷ (between ++ stop ∷ past)) (stopped_in later (first ∷ (between ++ stop ∷ past)) still after)
    (tried_in later (first ∷ (between ++ stop ∷ past)) still after (first_tried first repeats (between ++ stop ∷ past) before moves made)) too own
