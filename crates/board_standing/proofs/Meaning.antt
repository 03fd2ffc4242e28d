-- What each state means.
use Rattle.std.proofs.Common.{◌≡◌, ℕ, ◌<◌, ◌==◌, ◌&&◌, ◌||◌, ◌⊎◌, inl, inr, not, Bool, true, false, List, [], ◌∷◌, Option, None, Some, refl, sym, ap, subst, ◌∙◌, arith}
use Rattle.std.specs.Prelude.{◌↔◌, IsTrue, is_some, count_ones, if◌then◌else◌}
use Rattle.std.specs.Int.{bit_at}
use Rattle.std.proofs.lemmas.Bool.{cases_Bool, eqb-true, true≢false}
use Rattle.std.proofs.lemmas.Nat.{ones_le_self, zero_from_ones}
use Rattle.std.proofs.lemmas.Nat.Bits.{bit_at-zero}
use Rattle.square_runs.specs.Lasting.{carry, has_lasted}
use Rattle.square_runs.specs.Shown.{Shown, has, since_when}
use Rattle.square_runs.specs.Squares.{some_square}
use Rattle.square_runs.proofs.Squares.{any_some}
use Rattle.board_standing.specs.declared.heard.Event.{Event}
use Rattle.board_standing.specs.declared.heard.Heard.{Heard}
use Rattle.board_standing.specs.declared.heard.Heard.TheVariants.{Shows, Repeats, Moves, Ends, Reopens, Stops, Answers, Unplugs, Plugs, Begins}
use Rattle.board_standing.specs.declared.state.Kind.{Kind}
use Rattle.board_standing.specs.declared.state.Kind.TheVariants.{Waits, Agrees, Ended, InHand, Wrong, NoStart, SettingUp, Silent, Unplugged}
use Rattle.board_standing.specs.Line.{ended_by, ended_since, has_played, pictures, silent_by, silent_since, unplugged_by, unplugged_since, waits, waits_by, with_picture}
use Rattle.board_standing.specs.Meaning.{AgreesExactly, HasDiffered, IsPlayed, SilentExactly, UnpluggedExactly, WrongIsSaid, WrongNamesExactly, answers, begins, ends, goes, opens, reopens, shows, shows_other, shows_position, stands, stands_by, stops}
use Rattle.board_standing.specs.Pictures.{agrees, has_agreed, is_left, is_many, is_named, is_old, is_overdue, is_set_up, kind_of, last_squares, last_time, since_set_up}
use Rattle.board_standing.specs.States.{kind_at, names_at, names_squares}
use Rattle.board_standing.proofs.Throughout.{old_is_throughout, overdue_is_throughout}

carried : (at : ℕ) (since : Option ℕ) → is_some (carry true at since) ≡ true
carried at None = refl
carried at (Some since) = refl

-- What is kept of the line is what stands.
gone_by : (what : Heard) (at : ℕ) (since : Option ℕ) (b : Bool) → is_some since ≡ b → is_some (unplugged_by what at since) ≡ stands_by (goes what) (opens what) b
gone_by Unplugs at since b h = carried at since
gone_by Plugs at since b h = refl
gone_by other at since b h = h

pub gone : (past : List Event) → is_some (unplugged_since past) ≡ stands goes opens past
gone [] = refl
gone (event ∷ past) = gone_by event.what event.at (unplugged_since past) (stands goes opens past) (gone past)

still_by : (what : Heard) (at : ℕ) (since : Option ℕ) (b : Bool) → is_some since ≡ b → is_some (silent_by what at since) ≡ stands_by (stops what) (answers what) b
still_by Stops at since b h = carried at since
still_by Answers at since b h = refl
still_by Unplugs at since b h = refl
still_by Plugs at since b h = refl
still_by other at since b h = h

pub still : (past : List Event) → is_some (silent_since past) ≡ stands stops answers past
still [] = refl
still (event ∷ past) = still_by event.what event.at (silent_since past) (stands stops answers past) (still past)

ended_as : (what : Heard) (at : ℕ) (since : Option ℕ) (b : Bool) → is_some since ≡ b → is_some (ended_by what at since) ≡ stands_by (ends what) (reopens what) b
ended_as Ends at since b h = refl
ended_as Reopens at since b h = refl
ended_as other at since b h = h

ended : (past : List Event) → is_some (ended_since past) ≡ stands ends reopens past
ended [] = refl
ended (event ∷ past) = ended_as event.what event.at (ended_since past) (stands ends reopens past) (ended past)

-- Nothing was shown at all; or what waits is what stands.
waits_as : (what : Heard) (w b : Bool) → w ≡ b → waits_by what w ≡ stands_by (begins what) (shows what) b
waits_as Begins w b h = refl
waits_as (Shows picture) w b h = refl
waits_as Repeats w b h = refl
waits_as Moves w b h = refl
waits_as Ends w b h = refl
waits_as Reopens w b h = refl
waits_as other w b h = h

-- Something was shown.
abbrev pub any_shown : List Shown → Bool
any_shown [] = false
any_shown (picture ∷ before) = true

abbrev head_agrees : List Shown → Bool
head_agrees [] = false
head_agrees (picture ∷ before) = agrees picture

decided : (c b : Bool) → c ≡ stands_by c (not c) b
decided true b = refl
decided false b = refl

no_ones : count_ones 0 ≡ 0
no_ones = let low = ones_le_self 0 in omega arith

none_agrees : (count_ones 0 == 0) ≡ true
none_agrees = ap (λ n. n == 0) no_ones

head_by : (what : Heard) (at : ℕ) (before : List Shown) (b : Bool) → head_agrees before ≡ b
    → head_agrees (with_picture what at before) ≡ stands_by (shows_position what) (shows_other what) b
head_by (Shows picture) at before b h = decided (count_ones picture.differs == 0) b
head_by Moves at before b h = none_agrees
head_by Ends at before b h = none_agrees
head_by Reopens at before b h = none_agrees
head_by other at before b h = h

head_is : (past : List Event) → head_agrees (pictures past) ≡ stands shows_position shows_other past
head_is [] = refl
head_is (event ∷ past) = head_by event.what event.at (pictures past) (stands shows_position shows_other past) (head_is past)

-- Where a picture was shown, or nothing is waited for.
waits_if : (what : Heard) (at : ℕ) (w b : Bool) (before : List Shown) → (any_shown before ≡ true → w ≡ b)
    → any_shown (with_picture what at before) ≡ true → waits_by what w ≡ stands_by (begins what) (shows what) b
waits_if Begins at w b before h some = refl
waits_if (Shows picture) at w b before h some = refl
waits_if Repeats at w b before h some = refl
waits_if Moves at w b before h some = refl
waits_if Ends at w b before h some = refl
waits_if Reopens at w b before h some = refl
waits_if other at w b before h some = h some

pub waits_is : (past : List Event) → any_shown (pictures past) ≡ true → waits past ≡ stands begins shows past
waits_is [] some = absurd (true≢false (sym some))
waits_is (event ∷ past) some = waits_if event.what event.at (waits past) (stands begins shows past) (pictures past) (waits_is past) some

agreeing_shown : (past : List Shown) → head_agrees past ≡ true → any_shown past ≡ true
agreeing_shown [] h = h
agreeing_shown (picture ∷ before) h = refl

-- A kind by what was heard beside the pictures.
abbrev pub kind_with : Bool → Bool → Bool → Bool → Kind → Kind
kind_with u s w e kind = if u then Unplugged else if s then Silent else if w then Waits else if e then Ended else kind

abbrev is_agrees : Kind → Bool
is_agrees Agrees = true
is_agrees other = false

abbrev is_silent : Kind → Bool
is_silent Silent = true
is_silent other = false

abbrev is_unplugged : Kind → Bool
is_unplugged Unplugged = true
is_unplugged other = false

-- A kind that only pictures give.
pub with_kind : (is : Kind → Bool) (u s w e : Bool) (k : Kind) → is Unplugged ≡ false → is Silent ≡ false → is Waits ≡ false → is Ended ≡ false
    → is (kind_with u s w e k) ≡ true → (u ≡ false) × (s ≡ false) × (w ≡ false) × (e ≡ false) × (is k ≡ true)
with_kind is true s w e k p q r t h = absurd (true≢false (sym h ∙ p))
with_kind is false true w e k p q r t h = absurd (true≢false (sym h ∙ q))
with_kind is false false true e k p q r t h = absurd (true≢false (sym h ∙ r))
with_kind is false false false true k p q r t h = absurd (true≢false (sym h ∙ t))
with_kind is false false false false k p q r t h = (refl, refl, refl, refl, h)

played_with : (u s w e : Bool) (k : Kind) → u ≡ false → s ≡ false → w ≡ false → e ≡ false → kind_with u s w e k ≡ k
played_with false false false false k a b c d = refl
played_with true s w e k a b c d = absurd (true≢false a)
played_with false true w e k a b c d = absurd (true≢false b)
played_with false false true e k a b c d = absurd (true≢false c)
played_with false false false true k a b c d = absurd (true≢false d)

-- a kind of pictures that differ
abbrev differing : Bool → Bool → Bool → Bool → Kind
differing o a s d = if o then (if a then Wrong else NoStart) else if s then SettingUp else if d then Wrong else InHand

abbrev pub kind_split : Bool → Bool → Bool → Bool → Bool → Kind
kind_split c o a s d = if c then Agrees else differing o a s d

differing_is : (o a s d : Bool) → (is_agrees (differing o a s d) ≡ false) × (is_silent (differing o a s d) ≡ false) × (is_unplugged (differing o a s d) ≡ false)
differing_is true true s d = (refl, refl, refl)
differing_is true false s d = (refl, refl, refl)
differing_is false a true d = (refl, refl, refl)
differing_is false a false true = (refl, refl, refl)
differing_is false a false false = (refl, refl, refl)

split_is : (c o a s d : Bool) → (is_agrees (kind_split c o a s d) ≡ c) × (is_silent (kind_split c o a s d) ≡ false) × (is_unplugged (kind_split c o a s d) ≡ false)
split_is true o a s d = (refl, refl, refl)
split_is false o a s d = differing_is o a s d

kind_is : (now : ℕ) (played : Bool) (past : List Shown) → (is_agrees (kind_of now played past) ≡ head_agrees past) × (is_silent (kind_of now played past) ≡ false)
    × (is_unplugged (kind_of now played past) ≡ false)
kind_is now played [] = (refl, refl, refl)
kind_is now played (picture ∷ before) =
    let past : List Shown = picture ∷ before in
    split_is (agrees picture) (is_overdue now past) (has_agreed past)
    (is_set_up past && (not (has_lasted 10000 now (last_time past)) || (is_many picture && not played))) (some_square (is_old now past))

agrees_from : (k : Kind) → is_agrees k ≡ true → k ≡ Agrees
agrees_from Agrees h = refl
agrees_from other h = absurd (true≢false (sym h))

-- In a game that is played the pictures decide.
pub played_from : (past : List Event) → any_shown (pictures past) ≡ true → is_some (unplugged_since past) ≡ false → is_some (silent_since past) ≡ false
    → waits past ≡ false → is_some (ended_since past) ≡ false → IsPlayed past
played_from past some u s w e = record {
  line = sym (gone past) ∙ u;
  answers = sym (still past) ∙ s;
  shown = sym (waits_is past some) ∙ w;
  result = sym (ended past) ∙ e;
}

pub played_is : (now : ℕ) (past : List Event) → any_shown (pictures past) ≡ true → IsPlayed past → kind_at now past ≡ kind_of now (has_played past) (pictures past)
played_is now past some played =
    played_with (is_some (unplugged_since past)) (is_some (silent_since past)) (waits past) (is_some (ended_since past)) (kind_of now (has_played past) (pictures past))
    (gone past ∙ played.line) (still past ∙ played.answers) (waits_is past some ∙ played.shown) (ended past ∙ played.result)

pub agrees_exactly : AgreesExactly
agrees_exactly now past =
    let k : Kind = kind_of now (has_played past) (pictures past) in
    let kinds = kind_is now (has_played past) (pictures past) in (
      λ h. let all = with_kind is_agrees (is_some (unplugged_since past)) (is_some (silent_since past)) (waits past) (is_some (ended_since past)) k refl refl refl refl (ap is_agrees h) in
          let head : head_agrees (pictures past) ≡ true = sym kinds.0 ∙ all.4 in
          (played_from past (agreeing_shown (pictures past) head) all.0 all.1 all.2 all.3, sym (head_is past) ∙ head),
      λ h. let head : head_agrees (pictures past) ≡ true = head_is past ∙ h.1 in
          played_is now past (agreeing_shown (pictures past) head) h.0 ∙ agrees_from k (kinds.0 ∙ head),
    )

unplugged_with : (u s w e : Bool) (k : Kind) → is_unplugged k ≡ false → (kind_with u s w e k ≡ Unplugged) ↔ (u ≡ true)
unplugged_with true s w e k h = (λ a. refl, λ a. refl)
unplugged_with false true w e k h = (λ a. absurd (true≢false (sym (ap is_unplugged a))), λ a. absurd (true≢false (sym a)))
unplugged_with false false true e k h = (λ a. absurd (true≢false (sym (ap is_unplugged a))), λ a. absurd (true≢false (sym a)))
unplugged_with false false false true k h = (λ a. absurd (true≢false (sym (ap is_unplugged a))), λ a. absurd (true≢false (sym a)))
unplugged_with false false false false k h = (λ a. absurd (true≢false (sym (ap is_unplugged a) ∙ h)), λ a. absurd (true≢false (sym a)))

pub unplugged_exactly : UnpluggedExactly
unplugged_exactly now past =
    let both = unplugged_with (is_some (unplugged_since past)) (is_some (silent_since past)) (waits past) (is_some (ended_since past))
    (kind_of now (has_played past) (pictures past)) (kind_is now (has_played past) (pictures past)).2 in
    (λ h. sym (gone past) ∙ both.0 h, λ h. both.1 (gone past ∙ h))

silent_with : (u s w e : Bool) (k : Kind) → is_silent k ≡ false → (kind_with u s w e k ≡ Silent) ↔ ((u ≡ false) × (s ≡ true))
silent_with true s w e k h = (λ a. absurd (true≢false (sym (ap is_silent a))), λ a. absurd (true≢false a.0))
silent_with false true w e k h = (λ a. (refl, refl), λ a. refl)
silent_with false false true e k h = (λ a. absurd (true≢false (sym (ap is_silent a))), λ a. absurd (true≢false (sym a.1)))
silent_with false false false true k h = (λ a. absurd (true≢false (sym (ap is_silent a))), λ a. absurd (true≢false (sym a.1)))
silent_with false false false false k h = (λ a. absurd (true≢false (sym (ap is_silent a) ∙ h)), λ a. absurd (true≢false (sym a.1)))

pub silent_exactly : SilentExactly
silent_exactly now past =
    let both = silent_with (is_some (unplugged_since past)) (is_some (silent_since past)) (waits past) (is_some (ended_since past))
    (kind_of now (has_played past) (pictures past)) (kind_is now (has_played past) (pictures past)).1 in
    (λ h. let all = both.0 h in (sym (gone past) ∙ all.0, sym (still past) ∙ all.1), λ h. both.1 (gone past ∙ h.0, still past ∙ h.1))

abbrev is_wrong : Kind → Bool
is_wrong Wrong = true
is_wrong other = false

-- Where no square is old the game is overdue.
overdue_split : (c o a s d : Bool) → is_wrong (kind_split c o a s d) ≡ true → d ≡ false → o ≡ true
overdue_split true o a s d h none = absurd (true≢false (sym h))
overdue_split false true a s d h none = refl
overdue_split false false a true d h none = absurd (true≢false (sym h))
overdue_split false false a false true h none = absurd (true≢false none)
overdue_split false false a false false h none = absurd (true≢false (sym h))

overdue_if : (now : ℕ) (played : Bool) (past : List Shown) → is_wrong (kind_of now played past) ≡ true → some_square (is_old now past) ≡ false
    → is_overdue now past ≡ true
overdue_if now played [] h none = absurd (true≢false (sym h))
overdue_if now played (picture ∷ before) h none =
    let past : List Shown = picture ∷ before in
    overdue_split (agrees picture) (is_overdue now past) (has_agreed past)
    (is_set_up past && (not (has_lasted 10000 now (last_time past)) || (is_many picture && not played))) (some_square (is_old now past)) h none

named_if : (now : ℕ) (past : List Shown) (s : ℕ) (b : Bool) → some_square (is_old now past) ≡ b
    → is_named now past s ≡ (if b then is_old now past s else bit_at (last_squares past) s == 1)
named_if now past s b h = ap (λ c. if c then is_old now past s else bit_at (last_squares past) s == 1) h

same_true : (a b : Bool) (P : Type 0) → a ≡ b → (IsTrue b ↔ P) → (IsTrue a ↔ P)
same_true a b P e h = subst (λ c. IsTrue c ↔ P) (sym e) h

pub wrong_names_exactly : WrongNamesExactly
wrong_names_exactly now past order is =
    let shown : List Shown = pictures past in
    let names : (s : ℕ) → names_at now past s ≡ is_named now shown s = λ s. ap (λ k. if names_squares k then is_named now shown s else false) is in
    elim (cases_Bool (some_square (is_old now shown))) [
      | inl some ↦ inl (λ s low. same_true (names_at now past s) (is_old now shown s) (HasDiffered now past s) (names s ∙ named_if now shown s true some)
          (old_is_throughout now s shown order))
      | inr none ↦ inr (
        λ s low h. true≢false (sym (any_some 64 (is_old now shown) s low ((old_is_throughout now s shown order).1 h)) ∙ none),
        (overdue_is_throughout now shown order).0 ((overdue_if now (has_played past) shown
            (with_kind is_wrong (is_some (unplugged_since past)) (is_some (silent_since past)) (waits past) (is_some (ended_since past)) (kind_of now (has_played past) shown) refl refl refl refl
            (ap is_wrong is)).4 none)),
        λ s low. same_true (names_at now past s) (bit_at (last_squares shown) s == 1) (IsTrue (bit_at (last_squares shown) s == 1)) (names s ∙ named_if now shown s false none)
            (λ h. h, λ h. h),
      )
    ]

-- A kind that calls somebody for what the pictures show.
said_split : (c o a s d : Bool) → c ≡ false → s ≡ false → d ≡ true → (kind_split c o a s d ≡ Wrong) ⊎ (kind_split c o a s d ≡ NoStart)
said_split false true true s d p q r = inl refl
said_split false true false s d p q r = inr refl
said_split false false a false true p q r = inl refl
said_split true o a s d p q r = absurd (true≢false p)
said_split false false a true d p q r = absurd (true≢false q)
said_split false false a false false p q r = absurd (true≢false (sym r))

-- A picture that agrees has no square.
has_none : (mask s : ℕ) → (count_ones mask == 0) ≡ true → (bit_at mask s == 1) ≡ false
has_none mask s h =
    let zero : mask ≡ 0 = zero_from_ones mask (eqb-true (count_ones mask) 0 h) in
    ap (λ n. bit_at n s == 1) zero ∙ ap (λ n. n == 1) (bit_at-zero s)

differs_if : (now s : ℕ) (picture : Shown) (before : List Shown) → is_old now (picture ∷ before) s ≡ true → agrees picture ≡ false
differs_if now s picture before old =
    elim (cases_Bool (agrees picture)) [
      | inr other ↦ other
      | inl same ↦ absurd (true≢false (sym old ∙ ap (λ b. has_lasted 10000 now (carry b picture.time
          (since_when (has s) (if is_left picture before then [] else since_set_up before)))) (has_none picture.squares s same)))
    ]

said_of : (now s : ℕ) (played : Bool) (past : List Shown) → s < 64 → is_old now past s ≡ true → is_set_up past ≡ false
    → (kind_of now played past ≡ Wrong) ⊎ (kind_of now played past ≡ NoStart)
said_of now s played [] low old up = absurd (true≢false (sym old))
said_of now s played (picture ∷ before) low old up =
    let past : List Shown = picture ∷ before in
    let moved : Bool = not (has_lasted 10000 now (last_time past)) || (is_many picture && not played) in
    said_split (agrees picture) (is_overdue now past) (has_agreed past) (is_set_up past && moved) (some_square (is_old now past))
    (differs_if now s picture before old) (ap (λ b. b && moved) up) (any_some 64 (is_old now past) s low old)

shown_if : (now s : ℕ) (past : List Shown) → is_old now past s ≡ true → any_shown past ≡ true
shown_if now s [] old = absurd (true≢false (sym old))
shown_if now s (picture ∷ before) old = refl

pub wrong_is_said : WrongIsSaid
wrong_is_said now s past order played up low differed =
    let shown : List Shown = pictures past in
    let old : is_old now shown s ≡ true = (old_is_throughout now s shown order).1 differed in
    let same = played_is now past (shown_if now s shown old) played in
    elim (said_of now s (has_played past) shown low old up) [ inl wrong ↦ inl (same ∙ wrong) | inr none ↦ inr (same ∙ none) ]
