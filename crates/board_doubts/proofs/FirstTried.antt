-- The first move after the clock was stopped.
use Rattle.std.proofs.Common.{◌≡◌, ◌+◌, ◌==◌, ◌&&◌, ◌||◌, not, ℕ, Bool, true, false, List, [], ◌∷◌, ◌++◌, Option, Some, None, refl, sym, ap, ◌∙◌}
use Rattle.std.specs.Prelude.{if◌then◌else◌, is_some, nat_le}
use Rattle.std.specs.List.{list_all}
use Rattle.std.proofs.lemmas.Bool.{and_parts, le-leb, lt-leb, true≢false}
use Rattle.std.proofs.Math.Bool.{and-false}
use Rattle.square_runs.specs.Lasting.{has_lasted}
use Rattle.board_doubts.specs.declared.heard.Event.{Event}
use Rattle.board_doubts.specs.declared.heard.Heard.{Heard}
use Rattle.board_doubts.specs.declared.heard.Heard.TheVariants.{Moves, Away, Clock, Counts, Looked, Presses}
use Rattle.board_doubts.specs.declared.stopped_clock.Tried.{Tried}
use Rattle.board_doubts.specs.Clock.{ago, has_run, is_stopped, run_by, seen_late, stands_by, stands_since, tried, tried_by, tries_by, tries_of}
use Rattle.board_doubts.specs.Laws.{NoClock, says_nothing}
use Rattle.board_doubts.specs.Meaning.{FirstMoveIsTried, leaves_unmoved}
use Rattle.board_doubts.specs.Unheard.{is_unheard, unheard_by}
use Rattle.board_doubts.proofs.Passing.{runs_on}
use Rattle.board_doubts.proofs.Stops.{ran}

-- While the clock runs, no move is counted.
none_counted : (what : Heard) (added stopped : Bool) (before : ℕ) → says_nothing what ≡ true → stopped ≡ false → before ≡ 0 → tried_by what added stopped before ≡ 0
none_counted (Moves repeats) true stopped before nothing runs h = h
none_counted (Moves repeats) false true before nothing runs h = absurd (true≢false runs)
none_counted (Moves repeats) false false before nothing runs h = refl
none_counted (Clock runs) added stopped before nothing is h = absurd (true≢false (sym nothing))
none_counted Looked added stopped before nothing runs h = refl
none_counted _ added stopped before nothing runs h = h

not_stopped : (past : List Event) → stands_since past ≡ None → is_stopped past ≡ false
not_stopped past none = ap (λ since. has_run past && (is_some since && not (is_unheard past))) none ∙ and-false (has_run past)

none_before : (start : Event) (past before : List Event) → start.what ≡ Clock true → NoClock before → tried (before ++ start ∷ past) ≡ 0
none_before start past [] runs none = ap (λ what. tried_by what start.is_added (is_stopped past) (tried past)) runs
none_before start past (event ∷ before) runs none =
    none_counted event.what event.is_added (is_stopped (before ++ start ∷ past)) (tried (before ++ start ∷ past)) none.0
    (not_stopped (before ++ start ∷ past) (runs_on start past before runs none.1)) (none_before start past before runs none.1)

has_run_on : (start : Event) (past before : List Event) → start.what ≡ Clock true → has_run (before ++ start ∷ past) ≡ true
has_run_on start past [] runs = ap (λ what. run_by what (has_run past)) runs
has_run_on start past (event ∷ before) runs = ran event.what (has_run (before ++ start ∷ past)) (has_run_on start past before runs)

-- The clock has run and stands since then, is heard, and no move has been counted.
pub record StandsFrom (since : ℕ) (past : List Event) : Type 0 where
  pub run : has_run past ≡ true
  pub stands : stands_since past ≡ Some since
  pub heard : is_unheard past ≡ false
  pub none : tried past ≡ 0

still_since : (what : Heard) (at since : ℕ) (unheard : Bool) (before : Option ℕ) → leaves_unmoved what ≡ true → unheard ≡ false → before ≡ Some since
    → stands_by what at unheard before ≡ Some since
still_since (Clock true) at since unheard before leaves h is = absurd (true≢false (sym leaves))
still_since (Clock false) at since unheard None leaves h is = absurd cc
still_since (Clock false) at since unheard (Some time) leaves h is = is
still_since Presses at since unheard before leaves h is = ap (λ b. if b then None else before) h ∙ is
still_since (Counts black) at since unheard before leaves h is = ap (λ b. if b then None else before) h ∙ is
still_since _ at since unheard before leaves h is = is

still_heard : (what : Heard) (before : Bool) → leaves_unmoved what ≡ true → before ≡ false → unheard_by what before ≡ false
still_heard (Clock runs) before leaves h = refl
still_heard (Away gap) before leaves h = absurd (true≢false (sym leaves))
still_heard _ before leaves h = h

still_none : (what : Heard) (added stopped : Bool) (before : ℕ) → leaves_unmoved what ≡ true → before ≡ 0 → tried_by what added stopped before ≡ 0
still_none (Moves repeats) added stopped before leaves h = absurd (true≢false (sym leaves))
still_none (Clock true) added stopped before leaves h = refl
still_none (Clock false) added stopped before leaves h = h
still_none Looked added stopped before leaves h = refl
still_none _ added stopped before leaves h = h

stands_in : (since : ℕ) (between base : List Event) → list_all (λ one. leaves_unmoved one.what) between ≡ true → StandsFrom since base
    → StandsFrom since (between ++ base)
stands_in since [] base leaves h = h
stands_in since (event ∷ between) base leaves h =
    let both = and_parts (leaves_unmoved event.what) (list_all (λ one. leaves_unmoved one.what) between) leaves in
    let before : StandsFrom since (between ++ base) = stands_in since between base both.1 h in
    let all : List Event = between ++ base in record {
      run = ran event.what (has_run all) before.run;
      stands = still_since event.what event.at since (is_unheard all) (stands_since all) both.0 before.heard before.stands;
      heard = still_heard event.what (is_unheard all) both.0 before.heard;
      none = still_none event.what event.is_added (is_stopped all) (tried all) both.0 before.none;
    }

stopped_now : (stop : Event) (past : List Event) → stop.what ≡ Clock false → has_run past ≡ true → stands_since past ≡ None → tried past ≡ 0
    → StandsFrom stop.at (stop ∷ past)
stopped_now stop past says run since none = record {
  run = ran stop.what (has_run past) run;
  stands = ap (λ what. stands_by what stop.at (is_unheard past) (stands_since past)) says ∙ ap (λ o. stands_by (Clock false) stop.at (is_unheard past) o) since;
  heard = ap (λ what. unheard_by what (is_unheard past)) says;
  none = ap (λ what. tried_by what stop.is_added (is_stopped past) (tried past)) says ∙ none;
}

-- What is said of the first move depends on the time alone.
told : (first : Event) (repeats : Bool) (since : ℕ) (past : List Event) → StandsFrom since past → first.what ≡ Moves repeats → first.is_added ≡ false
    → tries_of first past ≡ (if nat_le (since + 3000) first.at then Some (record { moves = tried (first ∷ past); plies = ago (first ∷ past) }) else None)
told first repeats since past h moves made =
    let given : Option Tried = Some (record { moves = tried (first ∷ past); plies = ago (first ∷ past) }) in
    let late : Bool = has_lasted seen_late first.at (stands_since past) in
    ap (λ what. tries_by what first past) moves
    ∙ ap (λ b. if not b && (is_stopped past && (not (tried past == 0) || late)) then given else None) made
    ∙ ap (λ b. if (b && (is_some (stands_since past) && not (is_unheard past))) && (not (tried past == 0) || late) then given else None) h.run
    ∙ ap (λ o. if (is_some o && not (is_unheard past)) && (not (tried past == 0) || has_lasted seen_late first.at o) then given else None) h.stands
    ∙ ap (λ b. if not b && (not (tried past == 0) || nat_le (since + 3000) first.at) then given else None) h.heard
    ∙ ap (λ n. if not (n == 0) || nat_le (since + 3000) first.at then given else None) h.none

-- A clock that ran was stopped, and no move was made since.
pub stands_unmoved : (stop start : Event) (past before between : List Event) → start.what ≡ Clock true → NoClock before → stop.what ≡ Clock false
    → list_all (λ one. leaves_unmoved one.what) between ≡ true → StandsFrom stop.at (between ++ stop ∷ (before ++ start ∷ past))
stands_unmoved stop start past before between runs quiet says leaves =
    stands_in stop.at between (stop ∷ (before ++ start ∷ past)) leaves (
    stopped_now stop (before ++ start ∷ past) says (has_run_on start past before runs) (runs_on start past before runs quiet) (none_before start past before runs quiet))

pub first_move_is_tried : FirstMoveIsTried
first_move_is_tried first stop start repeats past before between runs quiet says leaves moves made =
    let all : List Event = between ++ stop ∷ (before ++ start ∷ past) in
    let h : StandsFrom stop.at all = stands_unmoved stop start past before between runs quiet says leaves in
    let is = told first repeats stop.at all h moves made in
    let given : Option Tried = Some (record { moves = tried (first ∷ all); plies = ago (first ∷ all) }) in (
      (λ le. ap (λ o. is_some o) is ∙ ap (λ b. is_some (if b then given else None)) (le-leb (stop.at + 3000) first.at le)),
      (λ low. is ∙ ap (λ b. if b then given else None) (lt-leb (stop.at + 3000) first.at low)),
    )
