-- For which reasons plies are doubted.
use Rattle.std.proofs.Common.{◌≡◌, ◌≢◌, ◌<◌, ◌≤◌, ◌+◌, ◌-◌, ◌==◌, ◌&&◌, ◌||◌, ◌⊎◌, inl, inr, not, ℕ, zero, suc, min, Bool, true, false, List, [], ◌∷◌, ◌++◌, Option, Some, None, take, refl, subst, sym, ap, ◌∙◌, arith}
use Rattle.std.specs.Prelude.{if◌then◌else◌, is_some, cond, fold, nat_le, nat_lt, ⊤}
use Rattle.std.proofs.lemmas.Bool.{le-ltb, lt-ltb, ne_eqb, true≢false}
use Rattle.std.proofs.Math.Bool.{and-false}
use Rattle.board_doubts.specs.declared.heard.Doubt.{Doubt}
use Rattle.board_doubts.specs.declared.heard.Event.{Event}
use Rattle.board_doubts.specs.declared.heard.Heard.{Heard}
use Rattle.board_doubts.specs.declared.heard.Heard.TheVariants.{Shows, Moves, Corrects, Agrees, Clock, Plays, Presses, PutsBack, Reopens, Replaces}
use Rattle.board_doubts.specs.declared.heard.Place.{Place}
use Rattle.board_doubts.specs.declared.heard.Place.TheVariants.{AtLast, AfterLast}
use Rattle.board_doubts.specs.declared.heard.Ply.{Ply}
use Rattle.board_doubts.specs.declared.heard.Seen.{Seen}
use Rattle.board_doubts.specs.declared.heard.Why.{Why}
use Rattle.board_doubts.specs.declared.heard.Why.TheVariants.{Late, Elsewhere, BothElsewhere, AfterGap, MovedOn, OtherTime, Returned, TakenBack, Unpressed}
use Rattle.board_doubts.specs.Doubts.{at_once, doubt_by, doubted, hides, is_odd, is_on, may_be_played, is_unhurried, late, may_be_moved, takes_back, was_passed, why_agrees, why_corrects, why_moves, why_played, why_shows}
use Rattle.board_doubts.specs.Laws.{IsDoubtedFor, OnlyBackIsTakenBack, OnOwnTime, OwnTimePasses, NobodyPresses, PairBackIsDoubted, PressedPlyPasses, PressesEach, QuickPlyPasses, SilentReplacementIsDoubted, SixthPlyIsDoubted, StaysUnpressed, are_alike, has_press, has_press_by, is_own, is_ply, leaves_running, one_by, plies_after, waits_on}
use Rattle.board_doubts.specs.Pace.{last_within, pace_of, quickest, took_longer}
use Rattle.board_doubts.specs.Pictures.{has_stood, own, stands}
use Rattle.board_doubts.specs.Plies.{both_back, both_further, ends_pair, is_back, played, played_by}
use Rattle.board_doubts.specs.Presses.{counts_now, early, is_early, is_left_by, is_press, is_used, known, many, pressed_at, pressed_at_by, presses, quiet, quiet_by, runs, runs_by, unpressed, unpressed_by}
use Rattle.board_doubts.specs.Recent.{has_gap, pictures, since_news, touched}
use Rattle.board_doubts.specs.Silent.{has_repeated, is_pair, needed, pause, pending, pending_by, silent, silent_by, suspected, suspects}
use Rattle.board_doubts.specs.Thinking.{are_most_lent, counting, is_exchanged, is_other, known_counting, lent, lent_by, told_late}
use Rattle.board_doubts.specs.Unheard.{is_unheard}
use Rattle.board_doubts.specs.Waiting.{has_moved, ply_times, waited}

abbrev pub meets : (Why → Bool) → Option Why → Bool
meets test None = false
meets test (Some why) = test why

abbrev meets_in : (Why → Bool) → Option Doubt → Bool
meets_in test None = false
meets_in test (Some doubt) = test doubt.why

same : (test : Why → Bool) (place : Place) (why : Option Why) → meets_in test (doubted place why) ≡ meets test why
same test place None = refl
same test place (Some why) = refl

pub chosen : (test : Why → Bool) (b : Bool) (x y : Option Why) → meets test x ≡ false → meets test y ≡ false → meets test (if b then x else y) ≡ false
chosen test true x y one other = one
chosen test false x y one other = other

chosen_in : (test : Why → Bool) (b : Bool) (x : Option Doubt) → meets_in test x ≡ false → meets_in test (if b then None else x) ≡ false
chosen_in test true x none = refl
chosen_in test false x none = none

-- a test that only plies meet
record OfPlies (test : Why → Bool) : Type 0 where
  late_is : test Late ≡ false
  elsewhere_is : test Elsewhere ≡ false
  both_is : test BothElsewhere ≡ false
  gap_is : test AfterGap ≡ false

corrects_not : (test : Why → Bool) → OfPlies test → (now : ℕ) (past : List Event) → meets test (why_corrects now past) ≡ false
corrects_not test of now past =
    chosen test (has_gap (since_news past)) (Some AfterGap)
    (if has_stood own stands (pictures (since_news past)) then Some Elsewhere else if nat_lt late (waited now past) then Some Late else None) of.gap_is
    (chosen test (has_stood own stands (pictures (since_news past))) (Some Elsewhere) (if nat_lt late (waited now past) then Some Late else None) of.elsewhere_is
    (chosen test (nat_lt late (waited now past)) (Some Late) None of.late_is refl))

moves_not : (test : Why → Bool) → OfPlies test → (past : List Event) → meets test (why_moves past) ≡ false
moves_not test of past =
    chosen test (may_be_moved (since_news past)) (Some BothElsewhere) (if has_moved past && hides true past then Some AfterGap else None) of.both_is
    (chosen test (has_moved past && hides true past) (Some AfterGap) None of.gap_is refl)

agrees_not : (test : Why → Bool) → OfPlies test → (past : List Event) → meets test (why_agrees past) ≡ false
agrees_not test of past =
    chosen test (may_be_moved (since_news past)) (Some BothElsewhere) (if hides false past || touched (since_news past) then Some AfterGap else None) of.both_is
    (chosen test (hides false past || touched (since_news past)) (Some AfterGap) None of.gap_is refl)

silent_not : (test : Why → Bool) (count : ℕ) (waits : Option Why) → meets test waits ≡ false → meets test (silent_by count waits) ≡ false
silent_not test count None none = refl
silent_not test count (Some why) none = chosen test (nat_lt count (needed why)) None (Some why) refl none

-- pictures and messages of the clock decide what the last ply is suspected for
abbrev pub decides : Heard → Bool
decides (Shows seen) = true
decides (Clock runs) = true
decides other = false

abbrev pub IsSilentNot : (Why → Bool) → Heard → List Event → Type 0
IsSilentNot test what past = decides what ≡ true → (count : ℕ) → count ≤ quiet past → meets test (silent count past) ≡ false

known_most : (unheard : Bool) (count : ℕ) → known unheard count ≤ count
known_most true count = omega arith
known_most false count = omega arith

shows_not : (test : Why → Bool) → OfPlies test → (seen : Seen) (now : ℕ) (past : List Event) → IsSilentNot test (Shows seen) past
    → meets test (why_shows seen now past) ≡ false
shows_not test of seen now past none =
    let count : ℕ = known (is_unheard past) (quiet past) in
    chosen test (was_passed seen now past) (Some BothElsewhere) (if is_on past then silent count past else None) of.both_is
    (chosen test (is_on past) (silent count past) None (none refl count (known_most (is_unheard past) (quiet past))) refl)

-- What meets it is a ply, and was doubted as such, or is doubted since nobody has pressed.
by_ply : (test : Why → Bool) → OfPlies test → (what : Heard) (now : ℕ) (past : List Event) → meets test (why_played what past) ≡ false → IsSilentNot test what past
    → meets_in test (doubt_by what now past) ≡ false
by_ply test of (Shows seen) now past none waits = same test AtLast (why_shows seen now past) ∙ shows_not test of seen now past waits
by_ply test of (Clock runs) now past none waits =
    same test AtLast (if is_on past then silent (quiet past) past else None)
    ∙ chosen test (is_on past) (silent (quiet past) past) None (waits refl (quiet past) (omega arith)) refl
by_ply test of (Corrects repeats) now past none waits =
    same test AtLast (if is_on past then why_corrects now past else None) ∙ chosen test (is_on past) (why_corrects now past) None (corrects_not test of now past) refl
by_ply test of (Moves repeats) now past none waits =
    same test AtLast (if is_on past then why_moves past else None) ∙ chosen test (is_on past) (why_moves past) None (moves_not test of past) refl
by_ply test of Agrees now past none waits =
    same test AfterLast (if is_on past && may_be_played past then why_agrees past else None)
    ∙ chosen test (is_on past && may_be_played past) (why_agrees past) None (agrees_not test of past) refl
by_ply test of (Plays ply) now past none waits =
    same test AtLast (if is_on past then why_played (Plays ply) past else None) ∙ chosen test (is_on past) (why_played (Plays ply) past) None none refl
by_ply test of (Replaces ply) now past none waits =
    same test AtLast (if is_on past then why_played (Replaces ply) past else None) ∙ chosen test (is_on past) (why_played (Replaces ply) past) None none refl
by_ply test of _ now past none waits = refl

not_for : (test : Why → Bool) → OfPlies test → (why : Why) → test why ≡ true → (event : Event) (past : List Event)
    → meets test (why_played event.what past) ≡ false → IsSilentNot test event.what past → IsDoubtedFor why event past → ⊥
not_for test of why met event past none waits for =
    true≢false (sym met ∙ sym (ap (meets_in test) for.1)
    ∙ chosen_in test event.is_added (doubt_by event.what event.at past) (by_ply test of event.what event.at past none waits))

abbrev is_taken_back : Why → Bool
is_taken_back TakenBack = true
is_taken_back _ = false

abbrev is_unpressed : Why → Bool
is_unpressed Unpressed = true
is_unpressed _ = false

abbrev is_other_time : Why → Bool
is_other_time OtherTime = true
is_other_time _ = false

abbrev pub is_moved_on : Why → Bool
is_moved_on MovedOn = true
is_moved_on _ = false

abbrev pub is_returned : Why → Bool
is_returned Returned = true
is_returned _ = false

-- what nobody presses for
record NotSilent (test : Why → Bool) : Type 0 where
  back_is : test TakenBack ≡ false
  on_is : test MovedOn ≡ false
  again_is : test Returned ≡ false

suspects_not : (test : Why → Bool) → NotSilent test → (back on again : Bool) → meets test (suspects back on again) ≡ false
suspects_not test not_so true on again = not_so.back_is
suspects_not test not_so false true again = not_so.on_is
suspects_not test not_so false false true = not_so.again_is
suspects_not test not_so false false false = refl

suspected_not : (test : Why → Bool) → NotSilent test → (what : Heard) (past : List Event) → meets test (suspected what past) ≡ false
suspected_not test not_so what past =
    let back : Bool = is_pair (ply_times past) && both_back (played_by what (played past)) in
    let on : Bool = is_pair (ply_times past) && both_further (played_by what (played past)) in
    let again : Bool = has_repeated past && took_longer pause 3 (ply_times past) in
    chosen test (is_used past) (suspects back on again) None (suspects_not test not_so back on again) refl

pending_by_not : (test : Why → Bool) (what : Heard) (unheard : Bool) (new before : Option Why) → meets test new ≡ false → meets test before ≡ false
    → meets test (pending_by what unheard new before) ≡ false
pending_by_not test (Plays ply) unheard new before one other = one
pending_by_not test (Replaces ply) unheard new before one other = one
pending_by_not test (Shows seen) true new before one other = other
pending_by_not test (Shows seen) false new before one other = refl
pending_by_not test (Clock runs) unheard new before one other = refl
pending_by_not test Reopens unheard new before one other = refl
pending_by_not test PutsBack unheard new before one other = refl
pending_by_not test _ unheard new before one other = other

pending_not : (test : Why → Bool) → NotSilent test → (past : List Event) → meets test (pending past) ≡ false
pending_not test not_so [] = refl
pending_not test not_so (event ∷ past) =
    pending_by_not test event.what (is_unheard past) (if event.is_added then None else suspected event.what past) (pending past)
    (chosen test event.is_added None (suspected event.what past) refl (suspected_not test not_so event.what past)) (pending_not test not_so past)

-- what is doubted for the reason of a ply alone
pub not_taken_back : (event : Event) (past : List Event) → takes_back event.what past ≡ false → IsSilentNot is_taken_back event.what past
    → IsDoubtedFor TakenBack event past → ⊥
not_taken_back event past none waits =
    let left : Bool = is_left_by event.what (counts_now past) (unpressed past) in
    let exchanged : Bool = is_exchanged event.what past in
    not_for is_taken_back (record { late_is = refl; elsewhere_is = refl; both_is = refl; gap_is = refl }) TakenBack refl event past (
    ap (λ b. meets is_taken_back (if b then Some TakenBack else if left then Some Unpressed else if exchanged then Some OtherTime else None)) none
    ∙ chosen is_taken_back left (Some Unpressed) (if exchanged then Some OtherTime else None) refl (chosen is_taken_back exchanged (Some OtherTime) None refl refl))
    waits

pub not_unpressed : (event : Event) (past : List Event) → is_left_by event.what (counts_now past) (unpressed past) ≡ false → IsDoubtedFor Unpressed event past → ⊥
not_unpressed event past none =
    let exchanged : Bool = is_exchanged event.what past in
    let rest : Option Why = if exchanged then Some OtherTime else None in
    not_for is_unpressed (record { late_is = refl; elsewhere_is = refl; both_is = refl; gap_is = refl }) Unpressed refl event past (
    chosen is_unpressed (takes_back event.what past) (Some TakenBack) (if is_left_by event.what (counts_now past) (unpressed past) then Some Unpressed else rest) refl (
    ap (λ b. meets is_unpressed (if b then Some Unpressed else rest)) none ∙ chosen is_unpressed exchanged (Some OtherTime) None refl refl))
    (λ is count low. silent_not is_unpressed count (pending past) (pending_not is_unpressed (record { back_is = refl; on_is = refl; again_is = refl }) past))

pub not_other_time : (event : Event) (past : List Event) → is_exchanged event.what past ≡ false → IsDoubtedFor OtherTime event past → ⊥
not_other_time event past none =
    let left : Bool = is_left_by event.what (counts_now past) (unpressed past) in
    not_for is_other_time (record { late_is = refl; elsewhere_is = refl; both_is = refl; gap_is = refl }) OtherTime refl event past (
    chosen is_other_time (takes_back event.what past) (Some TakenBack) (if left then Some Unpressed else if is_exchanged event.what past then Some OtherTime else None) refl (
    chosen is_other_time left (Some Unpressed) (if is_exchanged event.what past then Some OtherTime else None) refl (
    ap (λ b. meets is_other_time (if b then Some OtherTime else None)) none)))
    (λ is count low. silent_not is_other_time count (pending past) (pending_not is_other_time (record { back_is = refl; on_is = refl; again_is = refl }) past))

never_by_ply : (test : Why → Bool) → test TakenBack ≡ false → test Unpressed ≡ false → test OtherTime ≡ false → (what : Heard) (past : List Event)
    → meets test (why_played what past) ≡ false
never_by_ply test back left other what past =
    let is_left : Bool = is_left_by what (counts_now past) (unpressed past) in
    let rest : Option Why = if is_exchanged what past then Some OtherTime else None in
    chosen test (takes_back what past) (Some TakenBack) (if is_left then Some Unpressed else rest) back (
    chosen test is_left (Some Unpressed) rest left (chosen test (is_exchanged what past) (Some OtherTime) None other refl))

pub not_moved_on : (event : Event) (past : List Event) → IsSilentNot is_moved_on event.what past → IsDoubtedFor MovedOn event past → ⊥
not_moved_on event past =
    not_for is_moved_on (record { late_is = refl; elsewhere_is = refl; both_is = refl; gap_is = refl }) MovedOn refl event past
    (never_by_ply is_moved_on refl refl refl event.what past)

pub not_returned : (event : Event) (past : List Event) → IsSilentNot is_returned event.what past → IsDoubtedFor Returned event past → ⊥
not_returned event past =
    not_for is_returned (record { late_is = refl; elsewhere_is = refl; both_is = refl; gap_is = refl }) Returned refl event past
    (never_by_ply is_returned refl refl refl event.what past)

-- plies that take none back
other_not : (on again : Bool) → meets is_taken_back (suspects false on again) ≡ false
other_not true again = refl
other_not false true = refl
other_not false false = refl

back_so : (added used pair one two on again : Bool)
    → meets is_taken_back (if added then None else if used then suspects (pair && (one && two)) on again else None) ≡ true → one ≡ true
back_so true used pair one two on again is = absurd (true≢false (sym is))
back_so false false pair one two on again is = absurd (true≢false (sym is))
back_so false true false one two on again is = absurd (true≢false (sym is ∙ other_not on again))
back_so false true true true two on again is = refl
back_so false true true false two on again is = absurd (true≢false (sym is ∙ other_not on again))

back_by : (what : Heard) (unheard : Bool) (new before : Option Why) (old : ℕ → Option Ply)
    → (meets is_taken_back new ≡ true → is_back (played_by what old 0) (played_by what old 2) ≡ true)
    → (meets is_taken_back before ≡ true → is_back (old 0) (old 2) ≡ true)
    → meets is_taken_back (pending_by what unheard new before) ≡ true → is_back (played_by what old 0) (played_by what old 2) ≡ true
back_by (Plays ply) unheard new before old one other is = one is
back_by (Replaces ply) unheard new before old one other is = one is
back_by (Shows seen) true new before old one other is = other is
back_by (Shows seen) false new before old one other is = absurd (true≢false (sym is))
back_by (Clock runs) unheard new before old one other is = absurd (true≢false (sym is))
back_by Reopens unheard new before old one other is = absurd (true≢false (sym is))
back_by PutsBack unheard new before old one other is = absurd (true≢false (sym is))
back_by _ unheard new before old one other is = other is

pending_back : (past : List Event) → meets is_taken_back (pending past) ≡ true → is_back (played past 0) (played past 2) ≡ true
pending_back [] is = absurd (true≢false (sym is))
pending_back (event ∷ past) is =
    let plies : ℕ → Option Ply = played_by event.what (played past) in
    let pair : Bool = is_pair (ply_times past) in
    back_by event.what (is_unheard past) (if event.is_added then None else suspected event.what past) (pending past) (played past)
    (back_so event.is_added (is_used past) pair (is_back (plies 0) (plies 2)) (is_back (plies 1) (plies 3)) (pair && both_further plies)
    (has_repeated past && took_longer pause 3 (ply_times past)))
    (pending_back past) is

same_plies : (what : Heard) (old : ℕ → Option Ply) → decides what ≡ true → is_back (played_by what old 0) (played_by what old 2) ≡ is_back (old 0) (old 2)
same_plies (Plays ply) old is = absurd (true≢false (sym is))
same_plies (Replaces ply) old is = absurd (true≢false (sym is))
same_plies Reopens old is = absurd (true≢false (sym is))
same_plies PutsBack old is = absurd (true≢false (sym is))
same_plies _ old is = refl

not_true : (b c : Bool) → (b ≡ true → c ≡ true) → c ≡ false → b ≡ false
not_true true c so none = absurd (true≢false (sym (so refl) ∙ none))
not_true false c so none = refl

pub only_back_is_taken_back : OnlyBackIsTakenBack
only_back_is_taken_back event past none =
    let plies : ℕ → Option Ply = played_by event.what (played past) in
    let rest : Bool = ends_pair past || is_odd past in
    not_taken_back event past (ap (λ b. (b && is_back (plies 1) (plies 3)) && rest) none)
    (λ is count low. silent_not is_taken_back count (pending past)
    (not_true (meets is_taken_back (pending past)) (is_back (played past 0) (played past 2)) (pending_back past)
    (sym (same_plies event.what (played past) is) ∙ none)))

pair_doubt : (ply : Ply) (now : ℕ) (past : List Event) → is_on past ≡ true → ends_pair past ≡ true → both_back (played_by (Plays ply) (played past)) ≡ true
    → doubt_by (Plays ply) now past ≡ Some (record { place = AtLast; why = TakenBack })
pair_doubt ply now past on pair back =
    let rest : Option Why = if is_left_by (Plays ply) (counts_now past) (unpressed past) then Some Unpressed else if is_exchanged (Plays ply) past then Some OtherTime else None in
    ap (λ b. doubted AtLast (if b then why_played (Plays ply) past else None)) on
    ∙ ap (λ b. doubted AtLast (if b && (ends_pair past || is_odd past) then Some TakenBack else rest)) back
    ∙ ap (λ b. doubted AtLast (if b || is_odd past then Some TakenBack else rest)) pair

pub pair_back_is_doubted : PairBackIsDoubted
pair_back_is_doubted event ply past on is sent pair back =
    let B : Heard → Type 0 = λ what. both_back (played_by what (played past)) ≡ true in (
      AtLast,
      ap (λ b. if b then None else doubt_by event.what event.at past) sent
          ∙ ap (λ what. doubt_by what event.at past) is ∙ pair_doubt ply event.at past on pair (subst B is back),
    )

-- Plies that each have a press. How many of them count, by whether one was heard since the last ply, and whether that has one; and from
-- which on none is known, if the clock never was pressed
abbrev allowed : Option ℕ → Bool → ℕ
allowed (Some at) since = 0
allowed None true = 1
allowed None false = 2

abbrev behind : Bool → ℕ → ℕ
behind true n = suc n
behind false n = suc (suc n)

abbrev IsFew : ℕ → Option ℕ → Bool → (ℕ → Option Ply) → Type 0
IsFew count at since plies = ((count ≡ many) × (is_some at ≡ false) × ((n : ℕ) → plies (behind since n) ≡ None)) ⊎ (count ≤ allowed at since)

still_many : (b : Bool) (count : ℕ) → count ≡ many → (if b then min many (count + 1) else count) ≡ many
still_many true count e = omega arith
still_many false count e = e

one_more : (b : Bool) (count n : ℕ) → count ≤ n → (if b then min many (count + 1) else count) ≤ n + 1
one_more true count n low = omega (arith, low)
one_more false count n low = omega (arith, low)

one_allowed : (b early : Bool) (count : ℕ) → count ≤ 0 → (if b then min many (count + 1) else count) ≤ allowed None early
one_allowed b true count low = one_more b count 0 low
one_allowed b false count low = let more = one_more b count 0 low in omega (arith, more)

few_by : (what : Heard) (now : ℕ) (press counts since : Bool) (at : Option ℕ) (count : ℕ) (plies : ℕ → Option Ply)
    → (is_ply what ≡ true → since ≡ true) → IsFew count at since plies
    → IsFew (unpressed_by what press counts count) (pressed_at_by what now press at) (has_press_by what press (is_early now at) since) (played_by what plies)
few_by (Plays ply) now press counts true None count plies h (inl never) = inl (still_many counts count never.0, refl, (λ n. never.2 n))
few_by (Plays ply) now press counts true None count plies h (inr low) = inr (one_more counts count 1 low)
few_by (Plays ply) now press counts true (Some at) count plies h (inl never) = absurd (true≢false never.1)
few_by (Plays ply) now press counts true (Some at) count plies h (inr low) = inr (one_allowed counts (nat_le (now - at) early) count low)
few_by (Plays ply) now press counts false at count plies h few = absurd (true≢false (sym (h refl)))
few_by (Replaces ply) now true counts since at count plies h few = inr (omega arith)
few_by (Replaces ply) now false counts true at count plies h (inl never) = inl (never.0, never.1, never.2)
few_by (Replaces ply) now false counts false at count plies h (inl never) = inl (never.0, never.1, never.2)
few_by (Replaces ply) now false counts since at count plies h (inr low) = inr low
few_by Reopens now true counts since at count plies h few = inr (omega arith)
few_by Reopens now false counts since at count plies h (inl never) = inl (never.0, never.1, (λ n. refl))
few_by Reopens now false counts since at count plies h (inr low) = inr low
few_by PutsBack now true counts since at count plies h few = inr (omega arith)
few_by PutsBack now false counts since at count plies h (inl never) = inl (never.0, never.1, (λ n. refl))
few_by PutsBack now false counts since at count plies h (inr low) = inr low
few_by _ now true counts since at count plies h few = inr (omega arith)
few_by _ now false counts since at count plies h few = few

few_in : (past : List Event) → PressesEach past → IsFew (unpressed past) (pressed_at past) (has_press past) (played past)
few_in [] each = inl (refl, refl, (λ n. refl))
few_in (event ∷ past) each =
    few_by event.what event.at (presses event.what past) (counts_now past && not event.is_added) (has_press past) (pressed_at past) (unpressed past) (played past)
    each.0 (few_in past each.1)

few_below : (at : Option ℕ) (since : Bool) (count : ℕ) → count ≤ allowed at since → count < 3
few_below (Some at) since count low = omega (arith, low)
few_below None true count low = omega (arith, low)
few_below None false count low = omega (arith, low)

not_sixth : (at : Option ℕ) (since : Bool) (count : ℕ) (plies : ℕ → Option Ply) → IsFew count at since plies → (count + 1 == many) ≡ false
not_sixth at since count plies (inl never) = ne_eqb (count + 1) many (let e : count + 1 ≢ many = omega (arith, never.0) in e)
not_sixth at since count plies (inr low) =
    let below = few_below at since count low in
    ne_eqb (count + 1) many (let e : count + 1 ≢ many = omega (arith, below) in e)

not_left : (what : Heard) (counts : Bool) (at : Option ℕ) (since : Bool) (count : ℕ) (plies : ℕ → Option Ply) → IsFew count at since plies
    → is_left_by what counts count ≡ false
not_left (Plays ply) counts at since count plies few = ap (λ b. counts && b) (not_sixth at since count plies few) ∙ and-false counts
not_left _ counts at since count plies few = refl

-- how many of them have no press
abbrev most_of : Bool → ℕ
most_of true = 0
most_of false = 1

known_low : (unheard : Bool) (before : ℕ) → before ≤ 0 → known unheard before ≤ 0
known_low true before low = omega arith
known_low false before low = low

quiet_by_low : (what : Heard) (press pressed unheard since : Bool) (before : ℕ) → (is_ply what ≡ true → since ≡ true) → before ≤ most_of since
    → quiet_by what press pressed unheard before ≤ most_of (has_press_by what press pressed since)
quiet_by_low (Plays ply) press true unheard since before h low = omega arith
quiet_by_low (Plays ply) press false unheard true before h low =
    let none = known_low unheard before low in
    omega (arith, none)
quiet_by_low (Plays ply) press false unheard false before h low = absurd (true≢false (sym (h refl)))
quiet_by_low _ true pressed unheard since before h low = omega arith
quiet_by_low _ false pressed unheard since before h low = low

quiet_low : (past : List Event) → PressesEach past → quiet past ≤ most_of (has_press past)
quiet_low [] each = omega arith
quiet_low (event ∷ past) each =
    quiet_by_low event.what (presses event.what past) (is_early event.at (pressed_at past)) (is_unheard past) (has_press past) (quiet past) each.0
    (quiet_low past each.1)

most_below : (since : Bool) (count : ℕ) → count ≤ most_of since → count < 2
most_below true count low = omega (arith, low)
most_below false count low = omega (arith, low)

no_fourth : (what : Heard) (since : Bool) (plies : ℕ → Option Ply) → (is_ply what ≡ true → since ≡ true) → ((n : ℕ) → plies (behind since n) ≡ None)
    → played_by what plies 3 ≡ None
no_fourth (Plays ply) true plies h none = none 1
no_fourth (Plays ply) false plies h none = absurd (true≢false (sym (h refl)))
no_fourth (Replaces ply) true plies h none = none 2
no_fourth (Replaces ply) false plies h none = none 1
no_fourth Reopens since plies h none = refl
no_fourth PutsBack since plies h none = refl
no_fourth _ true plies h none = none 2
no_fourth _ false plies h none = none 1

none_back : (later : Option Ply) → is_back later None ≡ false
none_back None = refl
none_back (Some later) = refl

back_to_none : (later earlier : Option Ply) → earlier ≡ None → is_back later earlier ≡ false
back_to_none later earlier e = ap (is_back later) e ∙ none_back later

taken_not : (event : Event) (past : List Event) → PressesEach (event ∷ past) → IsFew (unpressed past) (pressed_at past) (has_press past) (played past)
    → ends_pair past ≡ false → takes_back event.what past ≡ false
taken_not event past each (inl never) shown =
    let plies : ℕ → Option Ply = played_by event.what (played past) in
    let rest : Bool = ends_pair past || is_odd past in
    ap (λ b. (is_back (plies 0) (plies 2) && b) && rest)
    (back_to_none (plies 1) (plies 3) (no_fourth event.what (has_press past) (played past) each.0 never.2))
    ∙ ap (λ b. b && rest) (and-false (is_back (plies 0) (plies 2)))
taken_not event past each (inr low) shown =
    let back : Bool = both_back (played_by event.what (played past)) in
    let quick : Bool = last_within at_once (ply_times past) in
    let below = few_below (pressed_at past) (has_press past) (unpressed past) low in
    let used : is_used past ≡ true = lt-ltb (unpressed past) many (omega (arith, below)) in
    ap (λ b. back && (ends_pair past || (quick && (is_unhurried past && not b)))) used
    ∙ ap (λ b. back && (ends_pair past || (quick && b))) (and-false (is_unhurried past))
    ∙ ap (λ b. back && (ends_pair past || b)) (and-false quick) ∙ ap (λ b. back && (b || false)) shown ∙ and-false back

at_least_two : (why : Why) → 2 ≤ needed why
at_least_two Returned = omega arith
at_least_two _ = omega arith

pub silent_few : (test : Why → Bool) (count : ℕ) (waits : Option Why) → count < 2 → meets test (silent_by count waits) ≡ false
silent_few test count None low = refl
silent_few test count (Some why) low =
    let two = at_least_two why in
    ap (λ b. meets test (if b then None else Some why)) (lt-ltb count (needed why) (omega (arith, low, two)))

pub pressed_ply_passes : PressedPlyPasses
pressed_ply_passes event past each =
    let few : IsFew (unpressed past) (pressed_at past) (has_press past) (played past) = few_in past each.1 in
    let two : quiet past < 2 = most_below (has_press past) (quiet past) (quiet_low past each.1) in
    let none : (test : Why → Bool) → IsSilentNot test event.what past = λ test is count low. silent_few test count (pending past) (omega (arith, two, low)) in (
      not_unpressed event past (not_left event.what (counts_now past) (pressed_at past) (has_press past) (unpressed past) (played past) few),
      (λ shown. not_taken_back event past (taken_not event past each few shown) (none is_taken_back)),
      not_moved_on event past (none is_moved_on),
      not_returned event past (none is_returned),
    )

-- plies without a press
runs_still : (what : Heard) (before : Bool) → leaves_running what ≡ true → before ≡ true → runs_by what before ≡ true
runs_still (Clock runs) before stays h = stays
runs_still _ before stays h = h

runs_in : (past later : List Event) → StaysUnpressed past later → runs past ≡ true → runs (later ++ past) ≡ true
runs_in past [] stays h = h
runs_in past (event ∷ later) stays h = runs_still event.what (runs (later ++ past)) stays.0 (runs_in past later stays.2 h)

runs_pressed : (press : Event) (past : List Event) → press.what ≡ Presses → runs past ≡ true → runs (press ∷ past) ≡ true
runs_pressed press past is h = ap (λ what. runs_by what (runs past)) is ∙ h

counted_by : (what : Heard) (press running quick added : Bool) (before count : ℕ) → press ≡ false → running ≡ true → before ≡ count
    → count + one_by what added quick ≤ 5 → unpressed_by what press ((running && not quick) && not added) before ≡ count + one_by what added quick
counted_by (Plays ply) press true quick true before count none h e low =
    ap (λ b. if b then min many (before + 1) else before) (and-false (not quick)) ∙ omega (arith, e)
counted_by (Plays ply) press true true false before count none h e low = omega (arith, e)
counted_by (Plays ply) press true false false before count none h e low = omega (arith, e, low)
counted_by (Plays ply) press false quick added before count none h e low = absurd (true≢false (sym h))
counted_by _ true running quick added before count none h e low = absurd (true≢false none)
counted_by _ false running quick added before count none h e low = omega (arith, e)

counted_in : (press : Event) (past later : List Event) → press.what ≡ Presses → runs past ≡ true → StaysUnpressed (press ∷ past) later
    → plies_after (press ∷ past) later ≤ 5 → unpressed (later ++ press ∷ past) ≡ plies_after (press ∷ past) later
counted_in press past [] is h stays low =
    ap (λ what. unpressed_by what (is_press what (counting past)) (counts_now past && not press.is_added) (unpressed past)) is
counted_in press past (event ∷ later) is h stays low =
    let all : List Event = later ++ press ∷ past in
    counted_by event.what (presses event.what all) (runs all) (last_within quickest (ply_times all)) event.is_added (unpressed all)
    (plies_after (press ∷ past) later) stays.1 (runs_in (press ∷ past) later stays.2 (runs_pressed press past is h))
    (counted_in press past later is h stays.2 (omega (arith, low))) low

some_doubt : (back left : Bool) (rest : Option Why) → left ≡ true
    → is_some (doubted AtLast (if back then Some TakenBack else if left then Some Unpressed else rest)) ≡ true
some_doubt true left rest h = refl
some_doubt false left rest h = ap (λ b. is_some (doubted AtLast (if b then Some Unpressed else rest))) h

pub sixth_ply_is_doubted : SixthPlyIsDoubted
sixth_ply_is_doubted sixth press ply past later running is stays five plays own slow on =
    let all : List Event = later ++ press ∷ past in
    let count : unpressed all ≡ 5 = counted_in press past later is running stays (omega (arith, five)) ∙ five in
    let run : runs all ≡ true = runs_in (press ∷ past) later stays (runs_pressed press past is running) in
    let left : is_left_by (Plays ply) (counts_now all) (unpressed all) ≡ true =
    ap (λ b. (b && not (last_within quickest (ply_times all))) && (unpressed all + 1 == many)) run
    ∙ ap (λ b. not b && (unpressed all + 1 == many)) slow ∙ ap (λ n. n + 1 == many) count in
    let rest : Option Why = if is_exchanged (Plays ply) all then Some OtherTime else None in
    ap (λ b. is_some (if b then None else doubt_by sixth.what sixth.at all)) own
    ∙ ap (λ what. is_some (doubt_by what sixth.at all)) plays
    ∙ ap (λ b. is_some (doubted AtLast (if b then why_played (Plays ply) all else None))) on
    ∙ some_doubt (takes_back (Plays ply) all) (is_left_by (Plays ply) (counts_now all) (unpressed all)) rest left

-- pieces that are put elsewhere while nobody presses
abbrev is_two : Why → Bool
is_two why = needed why == 2

two_so : (added used pair on back again : Bool) → added ≡ false → used ≡ true → pair ≡ true → on ≡ true
    → meets is_two (if added then None else if used then suspects (pair && back) (pair && on) again else None) ≡ true
two_so false true true true true again a u p o = refl
two_so false true true true false again a u p o = refl
two_so true used pair on back again a u p o = absurd (true≢false a)
two_so false false pair on back again a u p o = absurd (true≢false (sym u))
two_so false true false on back again a u p o = absurd (true≢false (sym p))
two_so false true true false back again a u p o = absurd (true≢false (sym o))

still_pending : (what : Heard) (unheard : Bool) (new before : Option Why) → waits_on what ≡ true → pending_by what unheard new before ≡ before
still_pending (Shows seen) unheard new before is = absurd (true≢false (sym is))
still_pending (Plays ply) unheard new before is = absurd (true≢false (sym is))
still_pending (Replaces ply) unheard new before is = absurd (true≢false (sym is))
still_pending (Clock runs) unheard new before is = absurd (true≢false (sym is))
still_pending Reopens unheard new before is = absurd (true≢false (sym is))
still_pending PutsBack unheard new before is = absurd (true≢false (sym is))
still_pending _ unheard new before is = refl

still_quiet : (what : Heard) (press pressed unheard : Bool) (before : ℕ) → waits_on what ≡ true → press ≡ false → quiet_by what press pressed unheard before ≡ before
still_quiet (Plays ply) press pressed unheard before is none = absurd (true≢false (sym is))
still_quiet _ true pressed unheard before is none = absurd (true≢false none)
still_quiet _ false pressed unheard before is none = refl

pub pending_in : (past later : List Event) → NobodyPresses past later → pending (later ++ past) ≡ pending past
pending_in past [] waits = refl
pending_in past (event ∷ later) waits =
    let all : List Event = later ++ past in
    still_pending event.what (is_unheard all) (if event.is_added then None else suspected event.what all) (pending all) waits.0 ∙ pending_in past later waits.2

pub quiet_still : (past later : List Event) → NobodyPresses past later → quiet (later ++ past) ≡ quiet past
quiet_still past [] waits = refl
quiet_still past (event ∷ later) waits =
    let all : List Event = later ++ past in
    still_quiet event.what (presses event.what all) (is_early event.at (pressed_at all)) (is_unheard all) (quiet all) waits.0 waits.1 ∙ quiet_still past later waits.2

some_silent : (count : ℕ) (waits : Option Why) → meets is_two waits ≡ true → 2 ≤ count → is_some (doubted AtLast (silent_by count waits)) ≡ true
some_silent count None is low = absurd (true≢false (sym is))
some_silent count (Some Returned) is low = absurd (true≢false (sym is))
some_silent count (Some why) is low = ap (λ b. is_some (doubted AtLast (if b then None else Some why))) (le-ltb count 2 low)

pub silent_replacement_is_doubted : SilentReplacementIsDoubted
silent_replacement_is_doubted second clock ply runs past later plays own used pair further two waits says seen on =
    let plies : ℕ → Option Ply = played_by second.what (played past) in
    let all : List Event = later ++ second ∷ past in
    let new : Option Why = if second.is_added then None else suspected second.what past in
    let begun : meets is_two new ≡ true =
    two_so second.is_added (is_used past) (is_pair (ply_times past)) (both_further plies) (both_back plies)
    (has_repeated past && took_longer pause 3 (ply_times past)) own used pair further in
    let is : pending (second ∷ past) ≡ new = ap (λ what. pending_by what (is_unheard past) new (pending past)) plays in
    let still : meets is_two (pending all) ≡ true = ap (meets is_two) (pending_in (second ∷ past) later waits ∙ is) ∙ begun in
    let same : quiet all ≡ quiet (second ∷ past) = quiet_still (second ∷ past) later waits in
    ap (λ b. is_some (if b then None else doubt_by clock.what clock.at all)) seen
    ∙ ap (λ what. is_some (doubt_by what clock.at all)) says
    ∙ ap (λ b. is_some (doubted AtLast (if b then silent (quiet all) all else None))) on
    ∙ some_silent (quiet all) (pending all) still (omega (arith, same, two))

-- plies on their own side's time
abbrev AllOwn : List Bool → Type 0
AllOwn [] = ⊤
AllOwn (one ∷ others) = (one ≡ false) × AllOwn others

none_counted : (n a : ℕ) (plies : List Bool) → AllOwn plies → fold (λ a x. a + cond x 1 0) a (take n plies) ≡ a
none_counted zero a plies own = refl
none_counted (suc n) a [] own = refl
none_counted (suc n) a (one ∷ plies) own =
    ap (λ b. fold (λ a x. a + cond x 1 0) (a + cond b 1 0) (take n plies)) own.0 ∙ none_counted n (a + 0) plies own.1 ∙ omega arith

few_lent : (plies : List Bool) → AllOwn plies → are_most_lent plies ≡ false
few_lent plies own = ap (nat_le 7) (none_counted pace_of 0 plies own)

not_is : (b : Bool) → not b ≡ true → b ≡ false
not_is true h = sym h
not_is false h = refl

not_other : (one other : Bool) → are_alike one other ≡ true → is_other one other ≡ false
not_other true true h = refl
not_other true false h = absurd (true≢false (sym h))
not_other false true h = absurd (true≢false (sym h))
not_other false false h = refl

own_by : (what : Heard) (added : Bool) (counts : Option Bool) (before : List Bool) → is_own what counts ≡ true → AllOwn before → AllOwn (lent_by what added counts before)
own_by (Plays ply) true (Some black) before own all = all
own_by (Plays ply) false (Some black) before own all = (not_other black ply.black own, all)
own_by (Plays ply) added None before own all = all
own_by _ added counts before own all = all

own_in : (past : List Event) → OnOwnTime past → AllOwn (lent past)
own_in [] own = tt
own_in (event ∷ past) own = own_by event.what event.is_added (known_counting past) (lent past) own.0 (own_in past own.1)

pub own_time_passes : OwnTimePasses
own_time_passes event past own =
    let all : AllOwn (lent_by event.what false (known_counting past) (lent past)) = own_by event.what false (known_counting past) (lent past) own.0 (own_in past own.1) in
    not_other_time event past (ap (λ b. b && not (are_most_lent (lent past))) (few_lent (lent_by event.what false (known_counting past) (lent past)) all))

lends_none : (what : Heard) (added : Bool) (before : List Bool) → lent_by what added None before ≡ before
lends_none (Plays ply) added before = refl
lends_none _ added before = refl

and_not : (b : Bool) → (b && not b) ≡ false
and_not true = refl
and_not false = refl

unknown_if_quick : (unheard quick : Bool) (counts : Option Bool) → quick ≡ true → (if unheard || quick then None else counts) ≡ None
unknown_if_quick true quick counts is = refl
unknown_if_quick false quick counts is = ap (λ b. if b then None else counts) is

pub quick_ply_passes : QuickPlyPasses
quick_ply_passes event past quick =
    let none : known_counting past ≡ None = unknown_if_quick (is_unheard past) (last_within told_late (ply_times past)) (counting past) quick in
    not_other_time event past (
    ap (λ k. are_most_lent (lent_by event.what false k (lent past)) && not (are_most_lent (lent past))) none
    ∙ ap (λ l. are_most_lent l && not (are_most_lent (lent past))) (lends_none event.what false (lent past)) ∙ and_not (are_most_lent (lent past)))
