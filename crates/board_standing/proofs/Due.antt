-- What stays the same until it is due.
use Rattle.std.proofs.Common.{◌≡◌, ℕ, ◌<◌, ◌≤◌, ◌^◌, ◌==◌, ◌&&◌, ◌||◌, inl, inr, not, Bool, true, false, List, [], ◌∷◌, Option, None, refl, sym, ap, ◌∙◌}
use Rattle.std.specs.Prelude.{is_some, if◌then◌else◌}
use Rattle.std.specs.Int.{bit_at}
use Rattle.std.proofs.lemmas.Bool.{cases_Bool, true≢false}
use Rattle.square_runs.specs.Lasting.{IsBefore, earlier, has_lasted, will_have_lasted}
use Rattle.square_runs.specs.Shown.{Shown, has, has_held, since_when}
use Rattle.square_runs.specs.Squares.{first_of, first_where, some_square}
use Rattle.square_runs.proofs.Due.{before_both, before_first, first_same, same_until_due}
use Rattle.square_runs.proofs.Squares.{any_same}
use Rattle.board_standing.specs.declared.heard.Event.{Event}
use Rattle.board_standing.specs.declared.state.Kind.{Kind}
use Rattle.board_standing.specs.declared.state.Kind.TheVariants.{Waits, Agrees, Ended, InHand, Wrong, NoStart, SettingUp, Silent, Unplugged}
use Rattle.board_standing.specs.Hints.{hint_of}
use Rattle.board_standing.specs.Laws.{StaysUntilDue}
use Rattle.board_standing.specs.Line.{ended_since, has_played, pictures, silent_since, unplugged_since, waits}
use Rattle.board_standing.specs.Pictures.{agrees, due_of, hand, has_agreed, is_many, is_named, is_no_nearer, is_old, is_overdue, is_set_up, kind_of, last_squares, last_time, named_since, patience, since_set_up}
use Rattle.board_standing.specs.States.{is_seen, kind_at, may_change, names_squares, since_by}

-- The same has lasted at both times.
pub record LastsAlike (now later : ℕ) (past : List Shown) : Type 0 where
  pub far : has_held is_no_nearer patience later past ≡ has_held is_no_nearer patience now past
  pub last : has_lasted hand later (last_time past) ≡ has_lasted hand now (last_time past)
  pub runs : (s : ℕ) → s < 64 → is_old later past s ≡ is_old now past s

lasts_alike : (now later : ℕ) (past : List Shown) → now ≤ later → later < 2 ^ 64 → IsBefore later (due_of now past) → LastsAlike now later past
lasts_alike now later past from fits before =
    let squares : Option ℕ = first_of (λ s. will_have_lasted hand now (since_when (has s) (since_set_up past))) in
    let last : Option ℕ = will_have_lasted hand now (last_time past) in
    let both = before_both later (earlier squares last) (will_have_lasted patience now (since_when is_no_nearer past)) before in
    let two = before_both later squares last both.0 in
    record {
      far = same_until_due patience now later (since_when is_no_nearer past) from fits both.1;
      last = same_until_due hand now later (last_time past) from fits two.1;
      runs = λ s low. same_until_due hand now later (since_when (has s) (since_set_up past)) from fits
          (before_first 64 later (λ k. will_have_lasted hand now (since_when (has k) (since_set_up past))) two.0 s low);
    }

some_same : (now later : ℕ) (past : List Shown) → LastsAlike now later past → some_square (is_old later past) ≡ some_square (is_old now past)
some_same now later past h = any_same 64 (is_old later past) (is_old now past) h.runs

named_same : (now later : ℕ) (past : List Shown) → LastsAlike now later past → (s : ℕ) → s < 64 → is_named later past s ≡ is_named now past s
named_same now later past h s low =
    ap (λ b. if b then is_old later past s else bit_at (last_squares past) s == 1) (some_same now later past h)
    ∙ ap (λ b. if some_square (is_old now past) then b else bit_at (last_squares past) s == 1) (h.runs s low)

since_same : (now later : ℕ) (past : List Shown) → LastsAlike now later past → named_since later past ≡ named_since now past
since_same now later past h =
    let time : ℕ → Option ℕ = λ s. since_when (has s) (since_set_up past) in
    ap (λ b. if b then since_when is_no_nearer past else first_where (is_named later past) time) h.far
    ∙ ap (λ first. if is_overdue now past then since_when is_no_nearer past else first)
    (first_same 64 (λ s. if is_named later past s then time s else None) (λ s. if is_named now past s then time s else None)
    (λ s low. ap (λ b. if b then time s else None) (named_same now later past h s low)))

-- the kind by what has lasted
kind_from : Bool → Shown → List Shown → Bool → Bool → Bool → Kind
kind_from has_played picture before overdue lasting has_old =
    if agrees picture then Agrees
    else if overdue then (if has_agreed (picture ∷ before) then Wrong else NoStart)
    else if is_set_up (picture ∷ before) && (not lasting || (is_many picture && not has_played)) then SettingUp
    else if has_old then Wrong
    else InHand

kind_same : (now later : ℕ) (has_played : Bool) (past : List Shown) → LastsAlike now later past → kind_of later has_played past ≡ kind_of now has_played past
unfolding kind_from
kind_same now later has_played [] h = refl
kind_same now later has_played (picture ∷ before) h =
    let past : List Shown = picture ∷ before in
    let k : Bool → Bool → Bool → Kind = kind_from has_played picture before in
    ap (λ o. k o (has_lasted hand later (last_time past)) (some_square (is_old later past))) h.far
    ∙ ap (λ m. k (is_overdue now past) m (some_square (is_old later past))) h.last
    ∙ ap (k (is_overdue now past) (has_lasted hand now (last_time past))) (some_same now later past h)

-- a kind of pictures that differ
differing : Bool → Bool → Bool → Bool → Kind
differing overdue agreed set_up old = if overdue then (if agreed then Wrong else NoStart) else if set_up then SettingUp else if old then Wrong else InHand

differing_change : (o a s d : Bool) → may_change (differing o a s d) ≡ true
unfolding differing
differing_change true true s d = refl
differing_change true false s d = refl
differing_change false a true d = refl
differing_change false a false true = refl
differing_change false a false false = refl

agreeing_same : (b : Bool) (one other : Kind) → may_change other ≡ true → may_change (if b then Agrees else other) ≡ false
    → (if b then Agrees else one) ≡ (if b then Agrees else other)
agreeing_same true one other changes still = refl
agreeing_same false one other changes still = absurd (true≢false (sym changes ∙ still))

-- a kind that doesn't change by time
still_same : (now later : ℕ) (has_played : Bool) (past : List Shown) → may_change (kind_of now has_played past) ≡ false
    → kind_of later has_played past ≡ kind_of now has_played past
unfolding differing
still_same now later has_played [] still = refl
still_same now later has_played (picture ∷ before) still =
    let past : List Shown = picture ∷ before in
    let k : ℕ → Kind = λ time. differing (is_overdue time past) (has_agreed past) (is_set_up past && (not (has_lasted hand time (last_time past)) || (is_many picture && not has_played))) (some_square (is_old time past)) in
    agreeing_same (agrees picture) (k later) (k now) (differing_change (is_overdue now past) (has_agreed past) (is_set_up past && (not (has_lasted hand now (last_time past)) || (is_many picture && not has_played))) (some_square (is_old now past))) still

-- the kind by what was heard beside the pictures
kind_with : Bool → Bool → Bool → Bool → Kind → Kind
kind_with unplugged silent waiting ended kind =
    if unplugged then Unplugged else if silent then Silent else if waiting then Waits else if ended then Ended else kind

kinds_same : (u s w e : Bool) (one other : Kind) → (kind_with u s w e other ≡ other → one ≡ other) → kind_with u s w e one ≡ kind_with u s w e other
unfolding kind_with
kinds_same true s w e one other h = refl
kinds_same false true w e one other h = refl
kinds_same false false true e one other h = refl
kinds_same false false false true one other h = refl
kinds_same false false false false one other h = h refl

due_is : (later : ℕ) (b : Bool) (due : Option ℕ) → b ≡ true → IsBefore later (if b then due else None) → IsBefore later due
due_is later true due e h = h
due_is later false due e h = absurd (true≢false (sym e))

picked : (b : Bool) (one other : Bool) → (b ≡ true → one ≡ other) → (if b then one else false) ≡ (if b then other else false)
picked true one other h = h refl
picked false one other h = refl

named_changes : (kind : Kind) → names_squares kind ≡ true → may_change kind ≡ true
named_changes SettingUp e = refl
named_changes InHand e = e
named_changes Wrong e = e
named_changes NoStart e = e
named_changes other e = e

since_alike : (kind : Kind) (now later : ℕ) (past : List Event) → (names_squares kind ≡ true → named_since later (pictures past) ≡ named_since now (pictures past))
    → since_by kind later past ≡ since_by kind now past
since_alike Unplugged now later past h = refl
since_alike Silent now later past h = refl
since_alike Waits now later past h = refl
since_alike Ended now later past h = refl
since_alike Agrees now later past h = refl
since_alike SettingUp now later past h = refl
since_alike InHand now later past h = h refl
since_alike Wrong now later past h = h refl
since_alike NoStart now later past h = h refl

kind_alike : (now later : ℕ) (past : List Event) → (may_change (kind_at now past) ≡ true → LastsAlike now later (pictures past))
    → kind_at later past ≡ kind_at now past
unfolding kind_with
kind_alike now later past lasts =
    let shows : List Shown = pictures past in
    kinds_same (is_some (unplugged_since past)) (is_some (silent_since past)) (waits past) (is_some (ended_since past))
    (kind_of later (has_played past) shows) (kind_of now (has_played past) shows)
    (λ is. elim (cases_Bool (may_change (kind_of now (has_played past) shows))) [
      | inl changes ↦ kind_same now later (has_played past) shows (lasts (ap may_change is ∙ changes))
      | inr still ↦ still_same now later (has_played past) shows still
    ])

pub stays_until_due : StaysUntilDue
stays_until_due now later past from fits before =
    let lasts : may_change (kind_at now past) ≡ true → LastsAlike now later (pictures past) =
    λ changes. lasts_alike now later (pictures past) from fits (due_is later (may_change (kind_at now past)) (due_of now (pictures past)) changes before) in
    let same = kind_alike now later past lasts in
    let named : names_squares (kind_at now past) ≡ true → LastsAlike now later (pictures past) =
    λ names. lasts (named_changes (kind_at now past) names) in
    record {
      kind = same;
      since = ap (λ kind. since_by kind later past) same
          ∙ since_alike (kind_at now past) now later past (λ names. since_same now later (pictures past) (named names));
      squares = λ s low. ap (λ kind. if names_squares kind then is_named later (pictures past) s else false) same
          ∙ picked (names_squares (kind_at now past)) (is_named later (pictures past) s) (is_named now (pictures past) s)
          (λ names. named_same now later (pictures past) (named names) s low);
      hint = ap (λ kind. if is_seen kind then hint_of past else None) same;
    }
