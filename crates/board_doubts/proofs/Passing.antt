-- What is never doubted, and what holds of what isn't.
use Rattle.std.proofs.Common.{◌≡◌, ◌==◌, ◌&&◌, ◌||◌, not, ℕ, Bool, true, false, List, [], ◌∷◌, ◌++◌, Option, Some, None, refl, sym, ap, ◌∙◌}
use Rattle.std.specs.Prelude.{if◌then◌else◌, is_some, nat_lt}
use Rattle.std.specs.Int.{bit_at}
use Rattle.std.proofs.lemmas.Bool.{le-ltb, true≢false}
use Rattle.std.proofs.lemmas.Nat.Bits.{bit_at-zero}
use Rattle.std.proofs.Math.Bool.{and-false}
use Rattle.square_runs.specs.Lasting.{carry, has_lasted}
use Rattle.square_runs.specs.Shown.{has, since_when}
use Rattle.square_runs.proofs.Squares.{any_none}
use Rattle.board_doubts.specs.declared.heard.Doubt.{Doubt}
use Rattle.board_doubts.specs.declared.heard.Event.{Event}
use Rattle.board_doubts.specs.declared.heard.Heard.{Heard}
use Rattle.board_doubts.specs.declared.heard.Heard.TheVariants.{Shows, Moves, Away, Clock, Counts, Presses}
use Rattle.board_doubts.specs.declared.heard.Place.TheVariants.{AtLast, AfterLast}
use Rattle.board_doubts.specs.declared.heard.Why.TheVariants.{Late, Elsewhere, BothElsewhere, AfterGap}
use Rattle.board_doubts.specs.declared.stopped_clock.Tried.{Tried}
use Rattle.board_doubts.specs.Clock.{ago, has_run, seen_late, stands_by, stands_since, tried, tries_by}
use Rattle.board_doubts.specs.Doubts.{doubt_of, doubted, hides, hides_by, is_on, may_be_played, late, may_be_moved}
use Rattle.board_doubts.specs.Laws.{HandsOffPasses, NoClock, NoneShows, QuickCorrectionPasses, RunningClockPasses, StaysDoubtful, doubts, says_nothing, with_doubt}
use Rattle.board_doubts.specs.Pictures.{Laid, Squares, by_one, has_left, has_stood, moved_on, others, own, shown_as, stands, stands_again, stood_till}
use Rattle.board_doubts.specs.Recent.{gap, gap_by, has_gap, pictures, since_news, touched, touched_by}
use Rattle.board_doubts.specs.Unheard.{is_unheard}
use Rattle.board_doubts.specs.Waiting.{has_moved, waited}

grown : (doubt : Option Doubt) (more all before : List Doubt) → all ≡ more ++ before → (longer : List Doubt) × (with_doubt doubt all ≡ longer ++ before)
grown None more all before same = (more, same)
grown (Some doubt) more all before same = (doubt ∷ more, ap (λ list. doubt ∷ list) same)

pub stays_doubtful : StaysDoubtful
stays_doubtful past [] = ([], refl)
stays_doubtful past (event ∷ later) =
    let rest = stays_doubtful past later in
    grown (doubt_of event (later ++ past)) rest.0 (doubts (later ++ past)) (doubts past) rest.1

-- no square, no time since when
none_since : (squares : Squares) (s : ℕ) (past : List Laid) → NoneShows squares past → since_when (has s) (shown_as squares past) ≡ None
none_since squares s [] none = refl
none_since squares s (picture ∷ before) none =
    ap (λ mask. carry (bit_at mask s == 1) picture.since (since_when (has s) (shown_as squares before))) none.0
    ∙ ap (λ bit. carry (bit == 1) picture.since (since_when (has s) (shown_as squares before))) (bit_at-zero s)

pub none_stood : (squares : Squares) (span : ℕ) (past : List Laid) → NoneShows squares past → has_stood squares span past ≡ false
none_stood squares span [] none = refl
none_stood squares span (picture ∷ before) none =
    ap (λ b. b || has_stood squares span before)
    (any_none 64 (stood_till squares span picture before) (λ s low. ap (has_lasted span picture.time) (none_since squares s before none.1)))
    ∙ none_stood squares span before none.1

zero_if : (b : Bool) (mask : ℕ) → mask ≡ 0 → (if b then mask else 0) ≡ 0
zero_if true mask none = none
zero_if false mask none = refl

pub none_moved_on : (past : List Laid) → NoneShows others past → NoneShows moved_on past
none_moved_on [] none = tt
none_moved_on (picture ∷ before) none = (zero_if picture.is_off picture.others none.0, none_moved_on before none.1)

-- without a time in which the board wasn't heard
no_gap : (gap : Option ℕ) → is_some gap ≡ false → gap ≡ None
no_gap None none = refl
no_gap (Some lasted) none = absurd (true≢false none)

nothing_hidden : (is_move : Bool) (past : List Event) (gap : Option ℕ) → is_some gap ≡ false → hides_by is_move gap past ≡ false
nothing_hidden is_move past gap none = ap (λ g. hides_by is_move g past) (no_gap gap none)

touched_keeps : (what : Heard) (gap : Option ℕ) (before : Bool) → is_some (gap_by what gap) ≡ false → (is_some gap ≡ false → before ≡ false)
    → touched_by what (is_some gap) before ≡ false
touched_keeps (Shows seen) gap before none same = ap (λ b. before || (b && seen.in_hand)) none ∙ ap (λ b. b || false) (same none)
touched_keeps (Away lasted) gap before none same = absurd (true≢false none)
touched_keeps other gap before none same = same none

untouched : (past : List Event) → has_gap past ≡ false → touched past ≡ false
untouched [] none = refl
untouched (event ∷ past) none = touched_keeps event.what (gap past) (touched past) none (untouched past)

no_move : (others_stood own_left on_stood own_stood away one : Bool) → others_stood ≡ false → on_stood ≡ false → away ≡ false
    → ((others_stood && own_left) || (on_stood && own_stood)) || (away && one) ≡ false
no_move a b c d e f x y z = ap (λ v. ((v && b) || (c && d)) || (e && f)) x ∙ ap (λ v. ((false && b) || (v && d)) || (e && f)) y ∙ ap (λ v. ((false && b) || (false && d)) || (v && f)) z

move_passes : (on moved may hidden : Bool) → may ≡ false → hidden ≡ false
    → doubted AtLast (if on then (if may then Some BothElsewhere else if moved && hidden then Some AfterGap else None) else None) ≡ None
move_passes false moved may hidden none nothing = refl
move_passes true false may hidden none nothing = ap (λ b. doubted AtLast (if b then Some BothElsewhere else None)) none
move_passes true true may hidden none nothing =
    ap (λ b. doubted AtLast (if b then Some BothElsewhere else if hidden then Some AfterGap else None)) none
    ∙ ap (λ b. doubted AtLast (if b then Some AfterGap else None)) nothing

agreement_passes : (on may hidden hand : Bool) → may ≡ false → hidden ≡ false → hand ≡ false
    → doubted AfterLast (if on then (if may then Some BothElsewhere else if hidden || hand then Some AfterGap else None) else None) ≡ None
agreement_passes false may hidden hand none nothing still = refl
agreement_passes true may hidden hand none nothing still =
    ap (λ b. doubted AfterLast (if b then Some BothElsewhere else if hidden || hand then Some AfterGap else None)) none
    ∙ ap (λ b. doubted AfterLast (if b || hand then Some AfterGap else None)) nothing
    ∙ ap (λ b. doubted AfterLast (if b then Some AfterGap else None)) still

pub hands_off_passes : HandsOffPasses
hands_off_passes repeats now past heard still =
    let recent : List Event = since_news past in
    let shown : List Laid = pictures recent in
    let none : may_be_moved recent ≡ false =
    no_move (has_stood others stands shown) (has_left own stands shown) (has_stood moved_on stands_again shown) (has_stood own stands shown) (has_gap recent) (by_one shown)
    (none_stood others stands shown still) (none_stood moved_on stands_again shown (none_moved_on shown still)) heard in (
      move_passes (is_on past) (has_moved past) (may_be_moved recent) (hides true past) none (nothing_hidden true past (gap recent) heard),
      agreement_passes (is_on past && may_be_played past) (may_be_moved recent) (hides false past) (touched recent) none
          (nothing_hidden false past (gap recent) heard) (untouched recent heard),
    )

correction_passes : (on away stood waits : Bool) → away ≡ false → stood ≡ false → waits ≡ false
    → doubted AtLast (if on then (if away then Some AfterGap else if stood then Some Elsewhere else if waits then Some Late else None) else None) ≡ None
correction_passes false away stood waits heard still quick = refl
correction_passes true away stood waits heard still quick =
    ap (λ b. doubted AtLast (if b then Some AfterGap else if stood then Some Elsewhere else if waits then Some Late else None)) heard
    ∙ ap (λ b. doubted AtLast (if b then Some Elsewhere else if waits then Some Late else None)) still
    ∙ ap (λ b. doubted AtLast (if b then Some Late else None)) quick

pub quick_correction_passes : QuickCorrectionPasses
quick_correction_passes repeats now past heard still quick =
    let recent : List Event = since_news past in
    correction_passes (is_on past) (has_gap recent) (has_stood own stands (pictures recent)) (nat_lt late (waited now past)) heard
    (none_stood own stands (pictures recent) still) (le-ltb late (waited now past) quick)

-- a clock that runs
none_stands : (what : Heard) (at : ℕ) (unheard : Bool) (since : Option ℕ) → says_nothing what ≡ true → since ≡ None → stands_by what at unheard since ≡ None
none_stands (Clock runs) at unheard since nothing none = absurd (true≢false (sym nothing))
none_stands Presses at true since nothing none = refl
none_stands Presses at false since nothing none = none
none_stands (Counts black) at true since nothing none = refl
none_stands (Counts black) at false since nothing none = none
none_stands other at unheard since nothing none = none

pub runs_on : (said : Event) (past later : List Event) → said.what ≡ Clock true → NoClock later → stands_since (later ++ said ∷ past) ≡ None
runs_on said past [] runs none = ap (λ what. stands_by what said.at (is_unheard past) (stands_since past)) runs
runs_on said past (event ∷ later) runs none =
    none_stands event.what event.at (is_unheard (later ++ said ∷ past)) (stands_since (later ++ said ∷ past)) none.0 (runs_on said past later runs none.1)

none_tried : (what : Heard) (event : Event) (past : List Event) → stands_since past ≡ None → tries_by what event past ≡ None
none_tried (Moves repeats) event past none =
    let given : Option Tried = Some (record { moves = tried (event ∷ past); plies = ago (event ∷ past) }) in
    let seen : Bool = not (tried past == 0) in
    ap (λ since. if not event.is_added && ((has_run past && (is_some since && not (is_unheard past))) && (seen || has_lasted seen_late event.at since)) then given else None) none
    ∙ ap (λ b. if not event.is_added && (b && (seen || false)) then given else None) (and-false (has_run past))
    ∙ ap (λ b. if b then given else None) (and-false (not event.is_added))
none_tried other event past none = refl

pub running_clock_passes : RunningClockPasses
running_clock_passes event said past later runs none = none_tried event.what event (later ++ said ∷ past) (runs_on said past later runs none)
