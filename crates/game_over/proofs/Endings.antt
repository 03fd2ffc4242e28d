-- When a game is over.
use Rattle.std.proofs.Common.{◌≡◌, ◌&&◌, ℕ, Bool, true, false, List, [], ◌∷◌, ◌++◌, Option, Some, None, refl, sym, ◌∙◌, ◌≤◌, true≢false, rules}
use Rattle.std.specs.Prelude.{if◌then◌else◌, is_some}
use Rattle.game_over.specs.declared.happened.Event.{Event}
use Rattle.game_over.specs.declared.happened.Happening.{Happening}
use Rattle.game_over.specs.declared.happened.Happening.TheVariants.{Moves, Agrees, Differs, Shows, Ends, Declares, Reopens, Resumes, GoesBack, Passes, Hears}
use Rattle.game_over.specs.declared.happened.Move.{Move}
use Rattle.game_over.specs.declared.result.Given.{Given}
use Rattle.game_over.specs.declared.said.Why.{Why}
use Rattle.game_over.specs.declared.said.Why.TheVariants.{Stood, SetUp, Unfinished}
use Rattle.game_over.specs.Laws.{EndsOnce, EndsWithResult, NobodyReopens, NoneIsGiven, TakenBackEndsNothing, gives, takes_back}
use Rattle.game_over.specs.Over.{ended_by, has_begun, has_result, is_over, over_by, reopens, starts_again, why_by, why_moves, why_over}
use Rattle.game_over.specs.Result.{given_by, has_passed, has_stood, last_given}
use Rattle.game_over.specs.Said.{IsSaidFor}
use Rattle.game_over.specs.declared.said.Over.{Over}
use Rattle.game_over.specs.declared.said.Said.TheVariants.{IsOver}

over_kept : (r : Bool) (before why : Option Why) → r ≡ false → is_some before ≡ true → is_some (over_by r before why) ≡ true
over_kept true before why none h = absurd (true≢false none)
over_kept false None why none h = absurd cc
over_kept false (Some one) why none h = refl

stays_over : (later base : List Event) → is_over base ≡ true → NobodyReopens later → is_over (later ++ base) ≡ true
stays_over [] base h nobody = h
stays_over (event ∷ later) base h nobody =
    over_kept (reopens event.what) (why_over (later ++ base)) (why_by event.what event.at (later ++ base)) nobody.0 (stays_over later base h nobody.1)

-- What ends a game doesn't reopen it.
no_reopening : (what : Happening) (at : ℕ) (past : List Event) → is_some (why_by what at past) ≡ true → reopens what ≡ false
no_reopening (Moves move) at past h = refl
no_reopening Agrees at past h = refl
no_reopening Differs at past h = refl
no_reopening (Shows shown) at past h = refl
no_reopening (Ends outcome added) at past h = refl
no_reopening (Declares outcome added) at past h = refl
no_reopening Reopens at past h = absurd cc
no_reopening Resumes at past h = refl
no_reopening GoesBack at past h = refl
no_reopening Passes at past h = refl
no_reopening Hears at past h = refl

over_now : (before why : Option Why) (r : Bool) → (is_some why ≡ true → r ≡ false) → is_some (if is_some before then None else why) ≡ true
    → is_some (over_by r before why) ≡ true
over_now (Some one) why r not_reopened h = absurd cc
over_now None why true not_reopened h = absurd (true≢false (not_reopened h))
over_now None why false not_reopened h = h

none_if : (b : Bool) (why : Option Why) → b ≡ true → (if b then None else why) ≡ None
none_if true why h = refl
none_if false why h = absurd cc

pub ends_once : EndsOnce
ends_once event one past later ended nobody =
    none_if (is_over (later ++ event ∷ past)) (why_by one.what one.at (later ++ event ∷ past))
    (stays_over later (event ∷ past)
    (over_now (why_over past) (why_by event.what event.at past) (reopens event.what) (no_reopening event.what event.at past) ended) nobody)

still_none : (what : Happening) (at bytes : ℕ) (before : Option Given) → gives what ≡ false → before ≡ None → given_by what at bytes before ≡ None
still_none (Moves move) at bytes before h none = refl
still_none Agrees at bytes before h none = none
still_none Differs at bytes before h none = none
still_none (Shows shown) at bytes before h none = none
still_none (Ends outcome added) at bytes before h none = absurd (true≢false h)
still_none (Declares outcome added) at bytes before h none = absurd (true≢false h)
still_none Reopens at bytes before h none = refl
still_none Resumes at bytes None h none = refl
still_none Resumes at bytes (Some one) h none = absurd cc
still_none GoesBack at bytes before h none = none
still_none Passes at bytes before h none = none
still_none Hears at bytes before h none = none

taken_back : (what : Happening) (at bytes : ℕ) (before : Option Given) → takes_back what ≡ true → given_by what at bytes before ≡ None
taken_back (Moves move) at bytes before h = refl
taken_back Agrees at bytes before h = absurd cc
taken_back Differs at bytes before h = absurd cc
taken_back (Shows shown) at bytes before h = absurd cc
taken_back (Ends outcome added) at bytes before h = absurd cc
taken_back (Declares outcome added) at bytes before h = absurd cc
taken_back Reopens at bytes before h = refl
taken_back Resumes at bytes before h = absurd cc
taken_back GoesBack at bytes before h = absurd cc
taken_back Passes at bytes before h = absurd cc
taken_back Hears at bytes before h = absurd cc

stays_none : (later base : List Event) → last_given base ≡ None → NoneIsGiven later → last_given (later ++ base) ≡ None
stays_none [] base h none = h
stays_none (event ∷ later) base h none =
    still_none event.what event.at event.bytes (last_given (later ++ base)) none.0 (stays_none later base h none.1)

no_time : (b : Bool) → b ≡ false → has_result (if b then Some Stood else None) ≡ false
no_time true h = absurd (true≢false h)
no_time false h = refl

no_move : (move : Move) (given : Option Given) → given ≡ None → has_result (why_moves move given) ≡ false
no_move move None h = refl
no_move move (Some one) h = absurd cc

no_start : (again given : Bool) → given ≡ false → has_result (if again then Some (if given then SetUp else Unfinished) else None) ≡ false
no_start true true h = absurd (true≢false h)
no_start true false h = refl
no_start false given h = refl

stands_not : (now : ℕ) (given : Option Given) → given ≡ None → has_stood now given ≡ false
stands_not now None h = refl
stands_not now (Some one) h = absurd cc

passes_not : (now : ℕ) (given : Option Given) → given ≡ None → has_passed now given ≡ false
passes_not now None h = refl
passes_not now (Some one) h = absurd cc

is_none : (given : Option Given) → given ≡ None → is_some given ≡ false
is_none None h = refl
is_none (Some one) h = absurd cc

no_result : (what : Happening) (at : ℕ) (past : List Event) → last_given past ≡ None → has_result (why_by what at past) ≡ false
no_result (Moves move) at past none = no_move move (last_given past) none
no_result Agrees at past none = refl
no_result Differs at past none = refl
no_result (Shows shown) at past none =
    no_start (starts_again at shown past && has_begun past) (is_some (last_given past)) (is_none (last_given past) none)
no_result (Ends outcome added) at past none = refl
no_result (Declares outcome added) at past none = refl
no_result Reopens at past none = refl
no_result Resumes at past none = refl
no_result GoesBack at past none = refl
no_result Passes at past none = no_time (has_passed at (last_given past)) (passes_not at (last_given past) none)
no_result Hears at past none = no_time (has_stood at (last_given past)) (stands_not at (last_given past) none)

unless_over : (b : Bool) (why : Option Why) → has_result why ≡ false → has_result (if b then None else why) ≡ false
unless_over true why h = refl
unless_over false why h = h

pub taken_back_ends_nothing : TakenBackEndsNothing
taken_back_ends_nothing back one past later takes none =
    let all : List Event = later ++ back ∷ past in
    unless_over (is_over all) (why_by one.what one.at all)
    (no_result one.what one.at all (stays_none later (back ∷ past) (taken_back back.what back.at back.bytes (last_given past) takes) none))

some_given : (given : Option Given) (why : Option Why) → (given ≡ None → has_result why ≡ false) → has_result why ≡ true → (one : Given) × (given ≡ Some one)
some_given None why none h = absurd (true≢false (sym h ∙ none refl))
some_given (Some one) why none h = (one, refl)

has_one : (b : Bool) (what : Happening) (at : ℕ) (past : List Event) → has_result (if b then None else why_by what at past) ≡ true
    → (one : Given) × (last_given past ≡ Some one)
has_one true what at past h = absurd cc
has_one false what at past h = some_given (last_given past) (why_by what at past) (no_result what at past) h

has_why : (why : Option Why) (over : Over) (event : Event) (past : List Event) → IsSaidFor why (IsOver over) event past → has_result (Some over.why) ≡ true
    → has_result why ≡ true
has_why why over event past said has = search rules

ends_with : (why : Option Why) (over : Over) (event : Event) (past : List Event) (given : Given) → IsSaidFor why (IsOver over) event past
    → has_result (Some over.why) ≡ true → last_given past ≡ Some given → (over.result ≡ Some given.outcome) × (given.bytes ≤ over.bytes)
ends_with why over event past given said has is = search rules

pub ends_with_result : EndsWithResult
ends_with_result over event past said has =
    let one = has_one (is_over past) event.what event.at past (has_why (ended_by event past) over event past said has) in
    let ends = ends_with (ended_by event past) over event past one.0 said has one.1 in
    (one.0, one.1, ends.0, ends.1)
