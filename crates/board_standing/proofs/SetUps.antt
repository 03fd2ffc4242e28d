-- When pieces are set up, when a game is overdue, and when a board lies turned round.
use Rattle.std.proofs.Common.{◌≡◌, ℕ, ◌<◌, ◌+◌, ◌==◌, ◌&&◌, ◌||◌, inl, inr, min, not, nat_le, nat_lt, Bool, true, false, List, [], ◌∷◌, Option, None, Some, refl, sym, ap, subst, ◌∙◌, arith}
use Rattle.std.specs.Prelude.{◌↔◌, is_some, count_ones, if◌then◌else◌}
use Rattle.std.proofs.lemmas.Bool.{and_from, and_parts, cases_Bool, cases_lt, eq-eqb, eqb-true, false_from_ne_true, leb-false, lt-leb, lt-ltb, ltb-true, ne_eqb, not-true, or_cases, or_left, or_right, true≢false}
use Rattle.std.proofs.lemmas.Nat.{ones_le_self}
use Rattle.square_runs.specs.Lasting.{carry, has_lasted}
use Rattle.square_runs.specs.Shown.{Shown, since_when}
use Rattle.square_runs.specs.Squares.{some_square}
use Rattle.board_standing.specs.declared.heard.Event.{Event}
use Rattle.board_standing.specs.declared.heard.Heard.{Heard}
use Rattle.board_standing.specs.declared.heard.Heard.TheVariants.{Shows, Moves, Ends, Reopens}
use Rattle.board_standing.specs.declared.state.Hint.{Hint}
use Rattle.board_standing.specs.declared.state.Hint.TheVariants.{TurnedRound, OtherBoard}
use Rattle.board_standing.specs.declared.state.Kind.{Kind}
use Rattle.board_standing.specs.declared.state.Kind.TheVariants.{Waits, Ended, Wrong, NoStart, SettingUp, Silent, Unplugged}
use Rattle.board_standing.specs.Hints.{is_other, lies_turned, turned_by}
use Rattle.board_standing.specs.Line.{ended_since, has_played, pictures, played_by, silent_since, unplugged_since, waits, with_picture}
use Rattle.board_standing.specs.Meaning.{GoesOn, IsPlayed, NoStartExactly, OverdueIsSaid, SettingUpExactly, TurnedRoundExactly, never, plays, shows_many, shows_position, shows_straight, shows_turned, stands, stands_by}
use Rattle.board_standing.specs.Pictures.{agrees, count, fewest, has_agreed, is_many, is_moved, is_no_nearer, is_old, is_overdue, is_set_up, kind_of}
use Rattle.board_standing.specs.States.{is_seen, kind_at}
use Rattle.board_standing.proofs.Meaning.{any_shown, gone, kind_split, kind_with, played_from, played_is, still, waits_is, with_kind}
use Rattle.board_standing.proofs.Throughout.{overdue_is_throughout}

no_ones : count_ones 0 ≡ 0
no_ones = let low = ones_le_self 0 in omega arith

-- What is kept of the pictures is what stands.
many_as : (n : ℕ) (b : Bool) → (not (n == 0) && (nat_lt 6 n || b)) ≡ stands_by (nat_lt 6 n) (n == 0) b
many_as n b =
    let S : Bool → Bool → Type 0 = λ zero many. (not zero && (many || b)) ≡ stands_by many zero b in
    let some : (many : Bool) → S false many = λ many. elim (cases_Bool many) [ inl is ↦ subst (S false) (sym is) refl | inr is ↦ subst (S false) (sym is) refl ] in
    elim (cases_Bool (n == 0)) [
      | inl zero ↦ (let none : nat_lt 6 n ≡ false = false_from_ne_true (nat_lt 6 n) (λ h. let e = eqb-true n 0 zero in let l = ltb-true 6 n h in let never : ⊥ = omega arith in never) in
          subst (λ m. S (n == 0) m) (sym none) (subst (λ z. S z false) (sym zero) refl))
      | inr other ↦ subst (λ z. S z (nat_lt 6 n)) (sym other) (some (nat_lt 6 n))
    ]

set_up_by : (what : Heard) (at : ℕ) (before : List Shown) (b : Bool) → is_set_up before ≡ b
    → is_set_up (with_picture what at before) ≡ stands_by (shows_many what) (shows_position what) b
set_up_by (Shows picture) at before b h =
    ap (λ c. not (count_ones picture.differs == 0) && (nat_lt 6 (count_ones picture.differs) || c)) h ∙ many_as (count_ones picture.differs) b
set_up_by Moves at before b h = ap (λ n. not (n == 0) && (nat_lt 6 n || is_set_up before)) no_ones
set_up_by Ends at before b h = ap (λ n. not (n == 0) && (nat_lt 6 n || is_set_up before)) no_ones
set_up_by Reopens at before b h = ap (λ n. not (n == 0) && (nat_lt 6 n || is_set_up before)) no_ones
set_up_by other at before b h = h

set_up_is : (past : List Event) → is_set_up (pictures past) ≡ stands shows_many shows_position past
set_up_is [] = refl
set_up_is (event ∷ past) = set_up_by event.what event.at (pictures past) (stands shows_many shows_position past) (set_up_is past)

some_as : (m : ℕ) (b : Bool) → 0 < m → stands_by (m == 0) false b ≡ b
some_as m b some = ap (λ c. stands_by c false b) (ne_eqb m 0 (λ e. let never : ⊥ = omega arith in never))

least : (m n : ℕ) → (min m n == 0) ≡ stands_by (m == 0) false (n == 0)
least m n =
    elim (cases_lt 0 m) [
      | inr none ↦ (let e : m ≡ 0 = omega (arith, none) in eq-eqb (min m n) 0 (omega (arith, e)) ∙ ap (λ b. stands_by b false (n == 0)) (sym (eq-eqb m 0 e)))
      | inl some ↦ elim (cases_lt 0 n) [
        | inr none ↦ (let e : n ≡ 0 = omega (arith, none) in eq-eqb (min m n) 0 (omega (arith, e)) ∙ sym (some_as m (n == 0) some ∙ eq-eqb n 0 e))
        | inl more ↦ ne_eqb (min m n) 0 (λ e. let never : ⊥ = omega (arith, some, more, e) in never)
            ∙ sym (some_as m (n == 0) some ∙ ne_eqb n 0 (λ e. let never : ⊥ = omega (arith, more, e) in never))
      ]
    ]

agreed_by : (what : Heard) (at : ℕ) (before : List Shown) (b : Bool) → has_agreed before ≡ b
    → has_agreed (with_picture what at before) ≡ stands_by (shows_position what) (never what) b
agreed_by (Shows picture) at before b h = least (count_ones picture.differs) (fewest before) ∙ ap (stands_by (count_ones picture.differs == 0) false) h
agreed_by Moves at before b h = least (count_ones 0) (fewest before) ∙ ap (λ n. stands_by (n == 0) false (fewest before == 0)) no_ones
agreed_by Ends at before b h = least (count_ones 0) (fewest before) ∙ ap (λ n. stands_by (n == 0) false (fewest before == 0)) no_ones
agreed_by Reopens at before b h = least (count_ones 0) (fewest before) ∙ ap (λ n. stands_by (n == 0) false (fewest before == 0)) no_ones
agreed_by other at before b h = h

agreed_is : (past : List Event) → has_agreed (pictures past) ≡ stands shows_position never past
agreed_is [] = refl
agreed_is (event ∷ past) = agreed_by event.what event.at (pictures past) (stands shows_position never past) (agreed_is past)

played_as : (what : Heard) (b : Bool) → played_by what b ≡ stands_by (plays what) (never what) b
played_as Moves b = refl
played_as other b = refl

plays_is : (past : List Event) → has_played past ≡ stands plays never past
plays_is [] = refl
plays_is (event ∷ past) = played_as event.what (has_played past) ∙ ap (stands_by (plays event.what) (never event.what)) (plays_is past)

-- Which kind is read.
abbrev is_setting_up : Kind → Bool
is_setting_up SettingUp = true
is_setting_up other = false

abbrev is_no_start : Kind → Bool
is_no_start NoStart = true
is_no_start other = false

setting_up_from : (k : Kind) → is_setting_up k ≡ true → k ≡ SettingUp
setting_up_from SettingUp h = refl
setting_up_from other h = absurd (true≢false (sym h))

setting_up_if : (c o a s d : Bool) → is_setting_up (kind_split c o a s d) ≡ true → (c ≡ false) × (o ≡ false) × (s ≡ true)
setting_up_if true o a s d h = absurd (true≢false (sym h))
setting_up_if false true true s d h = absurd (true≢false (sym h))
setting_up_if false true false s d h = absurd (true≢false (sym h))
setting_up_if false false a true d h = (refl, refl, refl)
setting_up_if false false a false true h = absurd (true≢false (sym h))
setting_up_if false false a false false h = absurd (true≢false (sym h))

no_start_if : (c o a s d : Bool) → is_no_start (kind_split c o a s d) ≡ true → (c ≡ false) × (o ≡ true) × (a ≡ false)
no_start_if true o a s d h = absurd (true≢false (sym h))
no_start_if false true true s d h = absurd (true≢false (sym h))
no_start_if false true false s d h = (refl, refl, refl)
no_start_if false false a true d h = absurd (true≢false (sym h))
no_start_if false false a false true h = absurd (true≢false (sym h))
no_start_if false false a false false h = absurd (true≢false (sym h))

overdue_then : (c o a s d : Bool) → c ≡ false → o ≡ true → kind_split c o a s d ≡ (if a then Wrong else NoStart)
overdue_then false true true s d p q = refl
overdue_then false true false s d p q = refl
overdue_then true o a s d p q = absurd (true≢false p)
overdue_then false false a s d p q = absurd (true≢false (sym q))

setting_up_then : (c o a s d : Bool) → c ≡ false → o ≡ false → s ≡ true → kind_split c o a s d ≡ SettingUp
setting_up_then false false a true d p q r = refl
setting_up_then true o a s d p q r = absurd (true≢false p)
setting_up_then false true a s d p q r = absurd (true≢false q)
setting_up_then false false a false d p q r = absurd (true≢false (sym r))

-- What the last picture says.
abbrev goes_on : ℕ → Bool → List Shown → Bool
goes_on now played [] = false
goes_on now played (picture ∷ before) = is_moved now (picture ∷ before) || (is_many picture && not played)

abbrev head_agrees : List Shown → Bool
head_agrees [] = true
head_agrees (picture ∷ before) = agrees picture

kind_by_parts : (now : ℕ) (played : Bool) (past : List Shown) → any_shown past ≡ true
    → kind_of now played past ≡ kind_split (head_agrees past) (is_overdue now past) (has_agreed past) (is_set_up past && goes_on now played past) (some_square (is_old now past))
kind_by_parts now played [] some = absurd (true≢false (sym some))
kind_by_parts now played (picture ∷ before) some = refl

goes_on_is : (now : ℕ) (played : Bool) (past : List Shown) → (goes_on now played past ≡ true) ↔ GoesOn now played past
goes_on_is now played [] = (λ h. true≢false (sym h), λ h. absurd h)
goes_on_is now played (picture ∷ before) =
    let moved : Bool = is_moved now (picture ∷ before) in
    let many : Bool = is_many picture && not played in (
      λ h. elim (or_cases moved many h) [
        | inl soon ↦ inl (leb-false (picture.time + 10000) now (not-true (has_lasted 10000 now (Some picture.time)) soon))
        | inr large ↦ (let both = and_parts (is_many picture) (not played) large in inr (ltb-true 6 (count_ones picture.squares) both.0, not-true played both.1))
      ],
      λ h. elim h [
        | inl soon ↦ or_left moved many (ap not (lt-leb (picture.time + 10000) now soon))
        | inr large ↦ or_right moved many (and_from (is_many picture) (not played) (lt-ltb 6 (count_ones picture.squares) large.0) (ap not large.1))
      ],
    )

differs_if_set_up : (past : List Shown) → is_set_up past ≡ true → (head_agrees past ≡ false) × (any_shown past ≡ true)
differs_if_set_up [] h = absurd (true≢false (sym h))
differs_if_set_up (picture ∷ before) h = (not-true (agrees picture) (and_parts (not (agrees picture)) (is_many picture || is_set_up before) h).0, refl)

-- A game that is overdue has a picture, and the last one differs.
overdue_differs : (now : ℕ) (past : List Shown) → is_overdue now past ≡ true → (head_agrees past ≡ false) × (any_shown past ≡ true)
overdue_differs now [] h = absurd (true≢false (sym h))
overdue_differs now (picture ∷ before) h = (
  elim (cases_Bool (agrees picture)) [
    | inr other ↦ other
    | inl same ↦ absurd (true≢false (sym h ∙ ap (λ b. has_lasted 15000 now (carry (not b && nat_le (fewest before) (count picture)) picture.time (since_when is_no_nearer before))) same))
  ],
  refl,
)

pub overdue_is_said : OverdueIsSaid
overdue_is_said now past order played held =
    let shown : List Shown = pictures past in
    let over : is_overdue now shown ≡ true = (overdue_is_throughout now shown order).1 held in
    let differs = overdue_differs now shown over in
    played_is now past differs.1 played
    ∙ kind_by_parts now (has_played past) shown differs.1
    ∙ overdue_then (head_agrees shown) (is_overdue now shown) (has_agreed shown) (is_set_up shown && goes_on now (has_played past) shown) (some_square (is_old now shown)) differs.0 over
    ∙ ap (λ b. if b then Wrong else NoStart) (agreed_is past)

shown_if : (is : Kind → Bool) (now : ℕ) (played : Bool) (past : List Shown) → is Waits ≡ false → is (kind_of now played past) ≡ true → any_shown past ≡ true
shown_if is now played [] r h = absurd (true≢false (sym h ∙ r))
shown_if is now played (picture ∷ before) r h = refl

-- A kind that pictures give, and no other.
by_pictures : (is : Kind → Bool) (now : ℕ) (past : List Event) → is Unplugged ≡ false → is Silent ≡ false → is Waits ≡ false → is Ended ≡ false
    → is (kind_at now past) ≡ true → IsPlayed past × (any_shown (pictures past) ≡ true) × (is (kind_of now (has_played past) (pictures past)) ≡ true)
by_pictures is now past p q r t h =
    let all = with_kind is (is_some (unplugged_since past)) (is_some (silent_since past)) (waits past) (is_some (ended_since past)) (kind_of now (has_played past) (pictures past)) p q r t h in
    let some : any_shown (pictures past) ≡ true = shown_if is now (has_played past) (pictures past) r all.4 in
    (played_from past some all.0 all.1 all.2 all.3, some, all.4)

pub no_start_exactly : NoStartExactly
no_start_exactly now past order =
    let shown : List Shown = pictures past in (
      λ h. let all = by_pictures is_no_start now past refl refl refl refl (ap is_no_start h) in
          let split = no_start_if (head_agrees shown) (is_overdue now shown) (has_agreed shown) (is_set_up shown && goes_on now (has_played past) shown) (some_square (is_old now shown))
          (ap is_no_start (sym (kind_by_parts now (has_played past) shown all.1)) ∙ all.2) in
          (all.0, (overdue_is_throughout now shown order).0 split.1, sym (agreed_is past) ∙ split.2),
      λ h. overdue_is_said now past order h.0 h.1 ∙ ap (λ b. if b then Wrong else NoStart) h.2,
    )

pub setting_up_exactly : SettingUpExactly
setting_up_exactly now past order =
    let shown : List Shown = pictures past in
    let played : Bool = has_played past in
    let going : Bool = is_set_up shown && goes_on now played shown in
    let goes : Bool → Type 0 = λ b. GoesOn now b shown in (
      λ h. let all = by_pictures is_setting_up now past refl refl refl refl (ap is_setting_up h) in
          let split = setting_up_if (head_agrees shown) (is_overdue now shown) (has_agreed shown) going (some_square (is_old now shown))
          (ap is_setting_up (sym (kind_by_parts now played shown all.1)) ∙ all.2) in
          let both = and_parts (is_set_up shown) (goes_on now played shown) split.2 in
          record {
            played = all.0;
            many = sym (set_up_is past) ∙ both.0;
            goes_on = subst goes (plays_is past) ((goes_on_is now played shown).0 both.1);
            nearer = λ held. true≢false (sym ((overdue_is_throughout now shown order).1 held) ∙ split.1);
          },
      λ h. let up : is_set_up shown ≡ true = set_up_is past ∙ h.many in
          let differs = differs_if_set_up shown up in
          played_is now past differs.1 h.played
          ∙ kind_by_parts now played shown differs.1
          ∙ setting_up_then (head_agrees shown) (is_overdue now shown) (has_agreed shown) going (some_square (is_old now shown)) differs.0
          (false_from_ne_true (is_overdue now shown) (λ over. h.nearer ((overdue_is_throughout now shown order).0 over)))
          (and_from (is_set_up shown) (goes_on now played shown) up ((goes_on_is now played shown).1 (subst goes (sym (plays_is past)) h.goes_on))),
    )

-- A board that lies turned round.
turned_as : (t e b : Bool) → (t || (b && e)) ≡ stands_by t (not e) b
turned_as true e b = refl
turned_as false true true = refl
turned_as false true false = refl
turned_as false false true = refl
turned_as false false false = refl

turns_by : (what : Heard) (b : Bool) → turned_by what b ≡ stands_by (shows_turned what) (shows_straight what) b
turns_by (Shows picture) b =
    turned_as (nat_le (count_ones picture.turned) 4 && nat_le 16 (count_ones picture.differs)) (nat_lt (count_ones picture.turned) (count_ones picture.differs)) b
turns_by Moves b = refl
turns_by Ends b = refl
turns_by Reopens b = refl
turns_by other b = refl

turned_is : (past : List Event) → lies_turned past ≡ stands shows_turned shows_straight past
turned_is [] = refl
turned_is (event ∷ past) = turns_by event.what (lies_turned past) ∙ ap (stands_by (shows_turned event.what) (shows_straight event.what)) (turned_is past)

turned_shown_by : (what : Heard) (at : ℕ) (turned : Bool) (before : List Shown) → (turned ≡ true → any_shown before ≡ true) → turned_by what turned ≡ true
    → any_shown (with_picture what at before) ≡ true
turned_shown_by (Shows picture) at turned before h is = refl
turned_shown_by Moves at turned before h is = refl
turned_shown_by Ends at turned before h is = refl
turned_shown_by Reopens at turned before h is = refl
turned_shown_by other at turned before h is = h is

turned_shown : (past : List Event) → lies_turned past ≡ true → any_shown (pictures past) ≡ true
turned_shown [] h = h
turned_shown (event ∷ past) h = turned_shown_by event.what event.at (lies_turned past) (pictures past) (λ is. turned_shown past is) h

seen_with : (u s w e : Bool) (k : Kind) → is_seen (kind_with u s w e k) ≡ true → (u ≡ false) × (s ≡ false) × (w ≡ false)
seen_with true s w e k h = absurd (true≢false (sym h))
seen_with false true w e k h = absurd (true≢false (sym h))
seen_with false false true e k h = absurd (true≢false (sym h))
seen_with false false false e k h = (refl, refl, refl)

seen_from : (u s w e : Bool) (k : Kind) → u ≡ false → s ≡ false → w ≡ false → is_seen k ≡ true → is_seen (kind_with u s w e k) ≡ true
seen_from false false false true k a b c h = refl
seen_from false false false false k a b c h = h
seen_from true s w e k a b c h = absurd (true≢false a)
seen_from false true w e k a b c h = absurd (true≢false b)
seen_from false false true e k a b c h = absurd (true≢false c)

split_seen : (c o a s d : Bool) → is_seen (kind_split c o a s d) ≡ true
split_seen true o a s d = refl
split_seen false true true s d = refl
split_seen false true false s d = refl
split_seen false false a true d = refl
split_seen false false a false true = refl
split_seen false false a false false = refl

abbrev is_turned : Option Hint → Bool
is_turned (Some TurnedRound) = true
is_turned hint = false

turned_if : (seen turned played other : Bool) → is_turned (if seen then (if turned && not played then Some TurnedRound else if other then Some OtherBoard else None) else None) ≡ true
    → (seen ≡ true) × (turned ≡ true) × (played ≡ false)
turned_if true true false other h = (refl, refl, refl)
turned_if false turned played other h = absurd (true≢false (sym h))
turned_if true true true true h = absurd (true≢false (sym h))
turned_if true true true false h = absurd (true≢false (sym h))
turned_if true false played true h = absurd (true≢false (sym h))
turned_if true false played false h = absurd (true≢false (sym h))

turned_then : (seen turned played other : Bool) → seen ≡ true → turned ≡ true → played ≡ false
    → (if seen then (if turned && not played then Some TurnedRound else if other then Some OtherBoard else None) else None) ≡ Some TurnedRound
turned_then seen turned played other p q r =
    ap (λ b. if b then (if turned && not played then Some TurnedRound else if other then Some OtherBoard else None) else None) p
    ∙ ap (λ b. if b then Some TurnedRound else if other then Some OtherBoard else None) (and_from turned (not played) q (ap not r))

pub turned_round_exactly : TurnedRoundExactly
turned_round_exactly now past =
    let u : Bool = is_some (unplugged_since past) in
    let s : Bool = is_some (silent_since past) in
    let e : Bool = is_some (ended_since past) in
    let shown : List Shown = pictures past in
    let k : Kind = kind_of now (has_played past) shown in (
      λ h. let parts = turned_if (is_seen (kind_at now past)) (lies_turned past) (has_played past) (is_other past) (ap is_turned h) in
          let seen = seen_with u s (waits past) e k parts.0 in
          let some : any_shown shown ≡ true = turned_shown past parts.1 in (
            record { line = sym (gone past) ∙ seen.0; answers = sym (still past) ∙ seen.1; shown = sym (waits_is past some) ∙ seen.2 },
            sym (turned_is past) ∙ parts.1,
            sym (plays_is past) ∙ parts.2,
          ),
      λ h. let turned : lies_turned past ≡ true = turned_is past ∙ h.1 in
          let some : any_shown shown ≡ true = turned_shown past turned in
          let pictured : is_seen k ≡ true = ap is_seen (kind_by_parts now (has_played past) shown some)
          ∙ split_seen (head_agrees shown) (is_overdue now shown) (has_agreed shown) (is_set_up shown && goes_on now (has_played past) shown) (some_square (is_old now shown)) in
          turned_then (is_seen (kind_at now past)) (lies_turned past) (has_played past) (is_other past)
          (seen_from u s (waits past) e k (gone past ∙ h.0.line) (still past ∙ h.0.answers) (waits_is past some ∙ h.0.shown) pictured) turned (plays_is past ∙ h.2),
    )
