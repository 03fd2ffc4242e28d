-- For what a board is asked.
use Rattle.std.proofs.Common.{◌≡◌, ◌≢◌, ◌-◌, ◌<◌, ◌&&◌, ◌||◌, not, nat_lt, ℕ, Bool, true, false, List, [], ◌∷◌, ◌++◌, Option, Some, None, is_some, refl, sym, ap, ◌∙◌, arith}
use Rattle.std.specs.Prelude.{◌↔◌, if◌then◌else◌}
use Rattle.std.specs.List.{list_all}
use Rattle.std.specs.Str.{bytes_eq}
use Rattle.std.proofs.lemmas.Bool.{and_from, and_parts, false_from_ne_true, lt-ltb, ltb-true, not-true, or_right, true≢false}
use Rattle.std.proofs.lemmas.Slice.Eq.{bytes_eq-Decides}
use Rattle.board_cable.specs.declared.line.Event.{Event}
use Rattle.board_cable.specs.declared.line.Request.{Request}
use Rattle.board_cable.specs.declared.line.Request.TheVariants.{Dump, Numbered, Start}
use Rattle.board_cable.specs.declared.line.Happening.{Happening}
use Rattle.board_cable.specs.declared.line.Happening.TheVariants.{Begins, Opens, Updates, Dumps, Numbers, Asks}
use Rattle.board_cable.specs.Line.{is_unanswered, unanswered_by}
use Rattle.board_cable.specs.Requests.{FirstAsksForUpdates, KnownNumberIsNotAsked, LostUpdatesAreAsked, NumberIsAskedTwice, is_between, is_numberless}
use Rattle.board_cable.specs.Starting.{differs, has_updated, is_start, last_dump, last_dump_by, start_by, updates_by}
use Rattle.board_cable.specs.Still.{asks, asks_for_number, asks_for_updates, count, count_by, restarts, updates}
use Rattle.board_cable.specs.Whose.{is_number_asked, left, left_by, own_number}

-- The next request by what it depends on.
abbrev request_by : Bool → Bool → Bool → Request
request_by unanswered starts numbered = if unanswered || starts then Start else (if numbered then Numbered else Dump)

abbrev asks_updates : Request → Bool
asks_updates Start = true
asks_updates _ = false

abbrev asks_number : Request → Bool
asks_number Numbered = true
asks_number _ = false

starts : (u s n : Bool) → s ≡ true → request_by u s n ≡ Start
starts u s n h = ap (λ b. if b then Start else (if n then Numbered else Dump)) (or_right u s h)

start_if : (u s n : Bool) → u ≡ false → request_by u s n ≡ Start → s ≡ true
start_if u true n h is = refl
start_if false false true h is = absurd (true≢false (sym (ap asks_updates is)))
start_if false false false h is = absurd (true≢false (sym (ap asks_updates is)))
start_if true s n h is = absurd (true≢false h)

numbered_is : (u s n : Bool) → request_by u s n ≢ Start → (request_by u s n ≡ Numbered) ↔ (n ≡ true)
numbered_is true s n h = absurd (h refl)
numbered_is false true n h = absurd (h refl)
numbered_is false false true h = (λ e. refl, λ e. refl)
numbered_is false false false h = (λ e. absurd (true≢false (sym (ap asks_number e))), λ e. absurd (true≢false (sym e)))

unnumbered : (u s n : Bool) → n ≡ false → request_by u s n ≢ Numbered
unnumbered true s n h e = true≢false (sym (ap asks_number e))
unnumbered false true n h e = true≢false (sym (ap asks_number e))
unnumbered false false true h e = true≢false h
unnumbered false false false h e = true≢false (sym (ap asks_number e))

true_twice : (b : Bool) → not (not b) ≡ true → b ≡ true
true_twice true h = refl
true_twice false h = h

-- ---- updates

start_stays : (what : Happening) (last : Option (List ℕ)) (updated : Bool) → not (asks what || restarts what) ≡ true → start_by what last updated true ≡ true
start_stays (Asks request) last updated h = absurd (true≢false (sym h))
start_stays Opens last updated h = refl
start_stays Begins last updated h = absurd (true≢false (sym h))
start_stays (Dumps picture) last updated h = refl
start_stays _ last updated h = refl

start_in : (since past : List Event) → list_all (λ event. not (asks event.what || restarts event.what)) since ≡ true → is_start past ≡ true
    → is_start (since ++ past) ≡ true
start_in [] past all h = h
start_in (event ∷ since) past all h =
    let both = and_parts (not (asks event.what || restarts event.what)) (list_all (λ one. not (asks one.what || restarts one.what)) since) all in
    ap (start_by event.what (last_dump (since ++ past)) (has_updated (since ++ past))) (start_in since past both.1 h)
    ∙ start_stays event.what (last_dump (since ++ past)) (has_updated (since ++ past)) both.0

pub first_asks_for_updates : FirstAsksForUpdates
first_asks_for_updates opened since past all =
    let now : List Event = since ++ record { at = opened; what = Opens } ∷ past in
    starts (is_unanswered now) (is_start now) (is_number_asked now) (start_in since (record { at = opened; what = Opens } ∷ past) all refl)

-- Between two dumps.
dump_by : (what : Happening) (before : Option (List ℕ)) → is_between what ≡ true → last_dump_by what before ≡ before
dump_by (Dumps picture) before h = absurd (true≢false (sym h))
dump_by Opens before h = absurd (true≢false (sym h))
dump_by Begins before h = absurd (true≢false (sym h))
dump_by _ before h = refl

dump_in : (between past : List Event) → list_all (λ event. is_between event.what) between ≡ true → last_dump (between ++ past) ≡ last_dump past
dump_in [] past all = refl
dump_in (event ∷ between) past all =
    let both = and_parts (is_between event.what) (list_all (λ one. is_between one.what) between) all in
    dump_by event.what (last_dump (between ++ past)) both.0 ∙ dump_in between past both.1

updated_as : (what : Happening) (b : Bool) → is_between what ≡ true → updates_by what (not b) ≡ not (not (updates what) && b)
updated_as Updates b h = refl
updated_as (Dumps picture) b h = absurd (true≢false (sym h))
updated_as Opens b h = absurd (true≢false (sym h))
updated_as Begins b h = absurd (true≢false (sym h))
updated_as _ b h = refl

updated_in : (between past : List Event) → list_all (λ event. is_between event.what) between ≡ true → has_updated past ≡ false
    → has_updated (between ++ past) ≡ not (list_all (λ event. not (updates event.what)) between)
updated_in [] past all none = none
updated_in (event ∷ between) past all none =
    let both = and_parts (is_between event.what) (list_all (λ one. is_between one.what) between) all in
    ap (updates_by event.what) (updated_in between past both.1 none) ∙ updated_as event.what (list_all (λ one. not (updates one.what)) between) both.0

asked_by : (what : Happening) (last : Option (List ℕ)) (updated before none : Bool) → is_between what ≡ true → (none ≡ false → before ≡ false)
    → (not (asks what) && none) ≡ false → start_by what last updated before ≡ false
asked_by (Asks request) last updated before none h earlier some = refl
asked_by (Dumps picture) last updated before none h earlier some = absurd (true≢false (sym h))
asked_by Opens last updated before none h earlier some = absurd (true≢false (sym h))
asked_by Begins last updated before none h earlier some = refl
asked_by _ last updated before none h earlier some = earlier some

asked_in : (between past : List Event) → list_all (λ event. is_between event.what) between ≡ true → list_all (λ event. not (asks event.what)) between ≡ false
    → is_start (between ++ past) ≡ false
asked_in [] past all some = absurd (true≢false some)
asked_in (event ∷ between) past all some =
    let both = and_parts (is_between event.what) (list_all (λ one. is_between one.what) between) all in
    let q : List Event = between ++ past in
    asked_by event.what (last_dump q) (has_updated q) (is_start q) (list_all (λ one. not (asks one.what)) between) both.0 (λ none. asked_in between past both.1 none) some

-- Since the last dump, before a request.
same_by : (what : Happening) (last : Option (List ℕ)) (updated before : Bool) → (is_between what && not (asks what)) ≡ true → start_by what last updated before ≡ before
same_by (Asks request) last updated before h = absurd (true≢false (sym h))
same_by (Dumps picture) last updated before h = absurd (true≢false (sym h))
same_by Opens last updated before h = absurd (true≢false (sym h))
same_by Begins last updated before h = absurd (true≢false (sym h))
same_by _ last updated before h = refl

same_in : (since past : List Event) → list_all (λ event. is_between event.what && not (asks event.what)) since ≡ true → is_start (since ++ past) ≡ is_start past
same_in [] past all = refl
same_in (event ∷ since) past all =
    let both = and_parts (is_between event.what && not (asks event.what)) (list_all (λ one. is_between one.what && not (asks one.what)) since) all in
    let q : List Event = since ++ past in
    same_by event.what (last_dump q) (has_updated q) (is_start q) both.0 ∙ same_in since past both.1

answered_by : (what : Happening) → (is_between what && not (asks what)) ≡ true → unanswered_by what false ≡ false
answered_by (Asks request) h = absurd (true≢false (sym h))
answered_by _ h = refl

answered_in : (since past : List Event) → list_all (λ event. is_between event.what && not (asks event.what)) since ≡ true → is_unanswered past ≡ false
    → is_unanswered (since ++ past) ≡ false
answered_in [] past all h = h
answered_in (event ∷ since) past all h =
    let both = and_parts (is_between event.what && not (asks event.what)) (list_all (λ one. is_between one.what && not (asks one.what)) since) all in
    ap (unanswered_by event.what) (answered_in since past both.1 h) ∙ answered_by event.what both.0

pub lost_updates_are_asked : LostUpdatesAreAsked
lost_updates_are_asked at before picture other since between past all rest =
    let first : List Event = record { at = before; what = Dumps other } ∷ past in
    let q : List Event = between ++ first in
    let second : List Event = record { at = at; what = Dumps picture } ∷ q in
    let now : List Event = since ++ second in
    let none : Bool = list_all (λ (event : Event). not (updates event.what)) between in
    let decides = bytes_eq-Decides picture other in
    let updated : has_updated q ≡ not none = updated_in between first all refl in
    let dumped : last_dump q ≡ Some other = dump_in between first all in
    let same : is_start now ≡ is_start second = same_in since second rest in
    let lost : (not (has_updated q) && differs picture (last_dump q)) ≡ (not (not none) && not (bytes_eq picture other)) =
    ap (λ b. not b && differs picture (last_dump q)) updated ∙ ap (λ d. not (not none) && differs picture d) dumped in (
      λ is. starts (is_unanswered now) (is_start now) (is_number_asked now)
          (same ∙ or_right (is_start q) (not (has_updated q) && differs picture (last_dump q))
          (lost ∙ and_from (not (not none)) (not (bytes_eq picture other)) (ap (λ b. not (not b)) is.1)
          (ap not (false_from_ne_true (bytes_eq picture other) (λ e. is.0 (decides.0 e)))))),
      λ asked sent.
          let start : is_start now ≡ true = start_if (is_unanswered now) (is_start now) (is_number_asked now) (answered_in since second rest refl) sent in
          let found : (not (not none) && not (bytes_eq picture other)) ≡ true =
          sym lost ∙ ap (λ b. b || (not (has_updated q) && differs picture (last_dump q))) (sym (asked_in between first all asked)) ∙ sym same ∙ start in
          let both = and_parts (not (not none)) (not (bytes_eq picture other)) found in
          (λ e. true≢false (sym (decides.1 e) ∙ not-true (bytes_eq picture other) both.1), true_twice none both.0),
    )

-- ---- numbers

left_as : (what : Happening) (own : Option (List ℕ)) (before n most : ℕ) → is_numberless what ≡ true → before ≡ most - n
    → left_by what own before ≡ most - count_by (asks_for_number what) (asks_for_updates what) n
left_as (Asks Dump) own before n most h e = e
left_as (Asks Numbered) own before n most h e = omega (arith, e)
left_as (Asks Start) own before n most h e = absurd (true≢false (sym h))
left_as (Numbers number) own before n most h e = absurd (true≢false (sym h))
left_as Begins own before n most h e = absurd (true≢false (sym h))
left_as _ own before n most h e = e

left_in : (since past : List Event) (most : ℕ) → list_all (λ event. is_numberless event.what) since ≡ true
    → left past ≡ most - count asks_for_number asks_for_updates past
    → left (since ++ past) ≡ most - count asks_for_number asks_for_updates (since ++ past)
left_in [] past most all e = e
left_in (event ∷ since) past most all e =
    let both = and_parts (is_numberless event.what) (list_all (λ one. is_numberless one.what) since) all in
    let q : List Event = since ++ past in
    left_as event.what (own_number q) (left q) (count asks_for_number asks_for_updates q) most both.0 (left_in since past most both.1 e)

abbrev most_of : Option (List ℕ) → ℕ
most_of None = 0
most_of (Some own) = 2

left_first : (own : Option (List ℕ)) (before : ℕ) → left_by (Asks Start) own before ≡ most_of own - 0
left_first None before = refl
left_first (Some own) before = refl

twice : (own : Option (List ℕ)) (n : ℕ) → (nat_lt 0 (most_of own - n) ≡ true) ↔ ((is_some own ≡ true) × (n < 2))
twice None n = (λ h. absurd (let low = ltb-true 0 (0 - n) h in let never : ⊥ = omega arith in never), λ h. absurd (true≢false (sym h.0)))
twice (Some own) n = (λ h. let low = ltb-true 0 (2 - n) h in (refl, omega arith), λ h. lt-ltb 0 (2 - n) (omega (arith, h.1)))

pub number_is_asked_twice : NumberIsAskedTwice
number_is_asked_twice at since past all other =
    let asked : List Event = record { at = at; what = Asks Start } ∷ past in
    let now : List Event = since ++ asked in
    let own : Option (List ℕ) = own_number past in
    let n : ℕ = count asks_for_number asks_for_updates now in
    let left : left now ≡ most_of own - n = left_in since asked (most_of own) all (left_first own (left past)) in
    let two = twice own n in
    let is = numbered_is (is_unanswered now) (is_start now) (is_number_asked now) other in
    (λ sent. two.0 (ap (nat_lt 0) (sym left) ∙ is.0 sent), λ h. is.1 (ap (nat_lt 0) left ∙ two.1 h))

none_left_by : (what : Happening) (own : Option (List ℕ)) → not (asks_for_updates what) ≡ true → left_by what own 0 ≡ 0
none_left_by (Asks Start) own h = absurd (true≢false (sym h))
none_left_by (Asks Numbered) own h = refl
none_left_by (Asks Dump) own h = refl
none_left_by (Numbers number) own h = refl
none_left_by Begins own h = refl
none_left_by _ own h = refl

none_left_in : (since past : List Event) → list_all (λ event. not (asks_for_updates event.what)) since ≡ true → left past ≡ 0 → left (since ++ past) ≡ 0
none_left_in [] past all h = h
none_left_in (event ∷ since) past all h =
    let both = and_parts (not (asks_for_updates event.what)) (list_all (λ one. not (asks_for_updates one.what)) since) all in
    ap (left_by event.what (own_number (since ++ past))) (none_left_in since past both.1 h) ∙ none_left_by event.what (own_number (since ++ past)) both.0

pub known_number_is_not_asked : KnownNumberIsNotAsked
known_number_is_not_asked at number since past all =
    let now : List Event = since ++ record { at = at; what = Numbers number } ∷ past in
    unnumbered (is_unanswered now) (is_start now) (is_number_asked now) (ap (nat_lt 0) (none_left_in since (record { at = at; what = Numbers number } ∷ past) all refl))
