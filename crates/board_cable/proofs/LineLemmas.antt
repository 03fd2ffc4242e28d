-- What stays as it is while certain things don't happen.
use Rattle.std.proofs.Common.{◌≡◌, ◌⊎◌, inl, inr, ◌≤◌, ◌<◌, ◌+◌, ◌&&◌, ◌||◌, min, nat_le, ℕ, not, nat_lt, Bool, true, false, List, [], ◌∷◌, ◌++◌, Option, Some, None, is_some, refl, sym, ap, ◌∙◌, arith}
use Rattle.std.specs.Prelude.{◌↔◌, if◌then◌else◌}
use Rattle.std.specs.List.{list_all}
use Rattle.std.specs.Str.{bytes_eq}
use Rattle.std.proofs.lemmas.Bool.{and_from, and_parts, and_right, le-ltb, leb-false, lt-leb, lt-ltb, ltb-true, not-true, true≢false}
use Rattle.board_cable.specs.declared.line.Event.{Event}
use Rattle.board_cable.specs.declared.line.Request.TheVariants.{Dump, Numbered, Start}
use Rattle.board_cable.specs.declared.line.Happening.{Happening}
use Rattle.board_cable.specs.declared.line.Happening.TheVariants.{Begins, Opens, Answers, Dumps, Numbers, Owns, Asks}
use Rattle.board_cable.specs.declared.whose.Handling.{Handling}
use Rattle.board_cable.specs.declared.whose.Handling.TheVariants.{Hold, Keep, Other}
use Rattle.board_cable.specs.Lasting.{has_lasted, is_past}
use Rattle.board_cable.specs.Still.{begins, count, count_by, dumps}
use Rattle.board_cable.specs.Whose.{awaited_at, awaited_by, dumps_by, dumps_since, handling_by, is_awaited, known_by, own_by, own_number, sends_own, shown_number, was_known}
use Rattle.board_cable.specs.Numbers.{FirstNumberIsOwn, HeldUntilNumbered, NothingIsHeldLonger, OwnSendsKnownNumber, awaits, awaits_still, dumps_and, dumps_in, knows_still, says_number}

awaited_still : (what : Happening) (at since : ℕ) → awaits_still what ≡ true → awaited_by what at (Some since) ≡ Some since
awaited_still (Asks Dump) at since h = refl
awaited_still (Asks Numbered) at since h = refl
awaited_still (Asks Start) at since h = refl
awaited_still Begins at since h = absurd (true≢false (sym h))
awaited_still Opens at since h = absurd (true≢false (sym h))
awaited_still Answers at since h = absurd (true≢false (sym h))
awaited_still (Numbers number) at since h = absurd (true≢false (sym h))
awaited_still _ at since h = refl

pub awaited_in : (at : ℕ) (since past : List Event) → list_all (λ event. awaits_still event.what) since ≡ true
    → awaited_at (since ++ record { at = at; what = Opens } ∷ past) ≡ Some at
awaited_in at [] past h = refl
awaited_in at (event ∷ since) past h =
    let both = and_parts (awaits_still event.what) (list_all (λ event. awaits_still event.what) since) h in
    ap (awaited_by event.what event.at) (awaited_in at since past both.1) ∙ awaited_still event.what event.at at both.0

owned_by : (what : Happening) (before : Option (List ℕ)) → is_some before ≡ true → is_some (own_by what before) ≡ true
owned_by (Owns number) before h = refl
owned_by (Numbers number) None h = refl
owned_by (Numbers number) (Some own) h = refl
owned_by _ before h = h

pub owned_in : (events past : List Event) → is_some (own_number past) ≡ true → is_some (own_number (events ++ past)) ≡ true
owned_in [] past h = h
owned_in (event ∷ events) past h = owned_by event.what (own_number (events ++ past)) (owned_in events past h)

dumps_by_still : (what : Happening) (since n : ℕ) → awaits_still what ≡ true → dumps_by what (Some since) (min n 3) ≡ min (dumps_and what n) 3
dumps_by_still (Dumps picture) since n h = omega arith
dumps_by_still (Asks Dump) since n h = refl
dumps_by_still (Asks Numbered) since n h = refl
dumps_by_still (Asks Start) since n h = refl
dumps_by_still Begins since n h = absurd (true≢false (sym h))
dumps_by_still Opens since n h = absurd (true≢false (sym h))
dumps_by_still Answers since n h = absurd (true≢false (sym h))
dumps_by_still _ since n h = refl

dumps_in_all : (at : ℕ) (since past : List Event) → list_all (λ event. awaits_still event.what) since ≡ true
    → dumps_since (since ++ record { at = at; what = Opens } ∷ past) ≡ min (dumps_in since) 3
dumps_in_all at [] past h = refl
dumps_in_all at (event ∷ since) past h =
    let both = and_parts (awaits_still event.what) (list_all (λ event. awaits_still event.what) since) h in
    let before : List Event = since ++ record { at = at; what = Opens } ∷ past in
    ap (λ o. dumps_by event.what o (dumps_since before)) (awaited_in at since past both.1)
    ∙ ap (dumps_by event.what (Some at)) (dumps_in_all at since past both.1) ∙ dumps_by_still event.what at (dumps_in since) both.0

-- What is held, by what it depends on.
held : (own shown : Option (List ℕ)) → is_some own ≡ true → handling_by true own shown ≡ Hold
held None shown h = absurd (true≢false (sym h))
held (Some own) shown h = refl

abbrev holds : Handling → Bool
holds Hold = true
holds _ = false

kept_or_other : (same : Bool) (number : List ℕ) → holds (if same then Keep else Other number) ≡ false
kept_or_other true number = refl
kept_or_other false number = refl

not_held : (own shown : Option (List ℕ)) → holds (handling_by false own shown) ≡ false
not_held None shown = refl
not_held (Some own) None = refl
not_held (Some own) (Some number) = kept_or_other (bytes_eq number own) number

held_if : (awaited : Bool) (own shown : Option (List ℕ)) → handling_by awaited own shown ≡ Hold → awaited ≡ true
held_if true own shown h = refl
held_if false own shown h = absurd (true≢false (sym (ap holds h) ∙ not_held own shown))

awaited : (now since dumps : ℕ) → (is_awaited now (Some since) (min dumps 3) ≡ true) ↔ ((dumps < 3) × (now < since + 5000))
awaited now since dumps = (
  λ h. let both = and_parts (not (has_lasted 5000 now (Some since))) (nat_lt (min dumps 3) 3) h in
      let soon = leb-false (since + 5000) now (not-true (has_lasted 5000 now (Some since)) both.0) in
      let few = ltb-true (min dumps 3) 3 both.1 in (omega arith, soon),
  λ h. and_from (not (has_lasted 5000 now (Some since))) (nat_lt (min dumps 3) 3) (ap not (lt-leb (since + 5000) now h.1)) (lt-ltb (min dumps 3) 3 (omega (arith, h.0))),
)

pub held_until_numbered : HeldUntilNumbered
held_until_numbered now opened own since past known still =
    let opening : List Event = record { at = opened; what = Opens } ∷ past in
    let all : List Event = since ++ opening in
    let is : is_awaited now (awaited_at all) (dumps_since all) ≡ is_awaited now (Some opened) (min (dumps_in since) 3) =
    ap (λ o. is_awaited now o (dumps_since all)) (awaited_in opened since past still) ∙ ap (is_awaited now (Some opened)) (dumps_in_all opened since past still) in
    let both = awaited now opened (dumps_in since) in (
      λ h. both.0 (sym is ∙ held_if (is_awaited now (awaited_at all) (dumps_since all)) (own_number all) (shown_number all) h),
      λ h. ap (λ b. handling_by b (own_number all) (shown_number all)) (is ∙ both.1 h)
          ∙ held (own_number all) (shown_number all) (owned_in since opening (ap is_some known)),
    )

-- For how long a number is awaited.
old_by : (what : Happening) (now at : ℕ) (before : Option ℕ) → (not (awaits what) || nat_le (at + 5000) now) ≡ true → is_past 5000 now before ≡ true
    → is_past 5000 now (awaited_by what at before) ≡ true
old_by Opens now at before h old = h
old_by Answers now at None h old = refl
old_by Answers now at (Some since) h old = h
old_by (Asks Start) now at None h old = h
old_by (Asks Start) now at (Some since) h old = old
old_by (Asks Dump) now at before h old = old
old_by (Asks Numbered) now at before h old = old
old_by (Numbers number) now at before h old = refl
old_by Begins now at before h old = refl
old_by _ now at before h old = old

old_in : (now : ℕ) (past : List Event) → list_all (λ event. not (awaits event.what) || nat_le (event.at + 5000) now) past ≡ true
    → is_past 5000 now (awaited_at past) ≡ true
old_in now [] h = refl
old_in now (event ∷ past) h =
    let both = and_parts (not (awaits event.what) || nat_le (event.at + 5000) now) (list_all (λ one. not (awaits one.what) || nat_le (one.at + 5000) now) past) h in
    old_by event.what now event.at (awaited_at past) both.0 (old_in now past both.1)

more_by : (what : Happening) (awaited : Option ℕ) (before n : ℕ) → min n 3 ≤ before → min (count_by (dumps what) (awaits what || begins what) n) 3 ≤ dumps_by what awaited before
more_by (Dumps picture) awaited before n h = omega (arith, h)
more_by (Asks Dump) awaited before n h = h
more_by (Asks Numbered) awaited before n h = h
more_by (Asks Start) None before n h = omega arith
more_by (Asks Start) (Some since) before n h = omega arith
more_by Begins awaited before n h = omega arith
more_by Opens awaited before n h = omega arith
more_by Answers awaited before n h = omega arith
more_by _ awaited before n h = h

more_in : (past : List Event) → min (count dumps (λ what. awaits what || begins what) past) 3 ≤ dumps_since past
more_in [] = omega arith
more_in (event ∷ past) = more_by event.what (awaited_at past) (dumps_since past) (count dumps (λ what. awaits what || begins what) past) (more_in past)

no_more : (now dumps : ℕ) (since : Option ℕ) → (is_past 5000 now since ≡ true) ⊎ (3 ≤ dumps) → is_awaited now since dumps ≡ false
no_more now dumps None h = refl
no_more now dumps (Some since) (inl old) = ap (λ b. not b && nat_lt dumps 3) old
no_more now dumps (Some since) (inr many) = and_right (not (has_lasted 5000 now (Some since))) (nat_lt dumps 3) (le-ltb dumps 3 many)

pub nothing_is_held_longer : NothingIsHeldLonger
nothing_is_held_longer now past h is =
    let more = more_in past in
    let over : is_awaited now (awaited_at past) (dumps_since past) ≡ false = no_more now (dumps_since past) (awaited_at past)
    (elim h [ inl old ↦ inl (old_in now past old) | inr many ↦ inr (let e : 3 ≤ dumps_since past = omega (arith, many) in e) ]) in
    true≢false (sym (held_if (is_awaited now (awaited_at past) (dumps_since past)) (own_number past) (shown_number past) is) ∙ over)

-- A number that is known.
first_by : (what : Happening) (number : List ℕ) → not (says_number what) ≡ true → own_by what (Some number) ≡ Some number
first_by (Owns other) number h = absurd (true≢false (sym h))
first_by (Numbers other) number h = refl
first_by _ number h = refl

first_in : (at : ℕ) (number : List ℕ) (since past : List Event) → own_number past ≡ None → list_all (λ event. not (says_number event.what)) since ≡ true
    → own_number (since ++ record { at = at; what = Numbers number } ∷ past) ≡ Some number
first_in at number [] past none all = ap (own_by (Numbers number)) none
first_in at number (event ∷ since) past none all =
    let both = and_parts (not (says_number event.what)) (list_all (λ one. not (says_number one.what)) since) all in
    ap (own_by event.what) (first_in at number since past none both.1) ∙ first_by event.what number both.0

pub first_number_is_own : FirstNumberIsOwn
first_number_is_own at number since past none all = first_in at number since past none all

known_by_still : (what : Happening) (own : Option (List ℕ)) (before : Bool) → knows_still what ≡ true → known_by what own before ≡ before
known_by_still Begins own before h = absurd (true≢false (sym h))
known_by_still Opens own before h = absurd (true≢false (sym h))
known_by_still (Owns number) own before h = absurd (true≢false (sym h))
known_by_still _ own before h = refl

known_in : (at : ℕ) (since past : List Event) → list_all (λ event. knows_still event.what) since ≡ true
    → was_known (since ++ record { at = at; what = Opens } ∷ past) ≡ is_some (own_number past)
known_in at [] past h = refl
known_in at (event ∷ since) past h =
    let both = and_parts (knows_still event.what) (list_all (λ event. knows_still event.what) since) h in
    let before = since ++ record { at = at; what = Opens } ∷ past in
    known_by_still event.what (own_number before) (was_known before) both.0 ∙ known_in at since past both.1

own_by_still : (what : Happening) (before : Option (List ℕ)) → knows_still what ≡ true → is_some before ≡ true → own_by what before ≡ before
own_by_still (Owns number) before h known = absurd (true≢false (sym h))
own_by_still (Numbers number) None h known = absurd (true≢false (sym known))
own_by_still (Numbers number) (Some own) h known = refl
own_by_still _ before h known = refl

own_in : (at : ℕ) (since past : List Event) → list_all (λ event. knows_still event.what) since ≡ true → is_some (own_number past) ≡ true
    → own_number (since ++ record { at = at; what = Opens } ∷ past) ≡ own_number past
own_in at [] past h known = refl
own_in at (event ∷ since) past h known =
    let both = and_parts (knows_still event.what) (list_all (λ event. knows_still event.what) since) h in
    let opening = record { at = at; what = Opens } ∷ past in
    own_by_still event.what (own_number (since ++ opening)) both.0 (owned_in since opening known) ∙ own_in at since past both.1 known

none_sent : (shown : Option (List ℕ)) → sends_own shown None ≡ false
none_sent None = refl
none_sent (Some shown) = refl

own_if_known : (known shown own : Option (List ℕ)) (was : Bool) → was ≡ is_some known → (is_some known ≡ true → own ≡ known)
    → was && sends_own shown own ≡ sends_own shown known
own_if_known None shown own was is same = ap (λ b. b && sends_own shown own) is ∙ sym (none_sent shown)
own_if_known (Some number) shown own was is same = ap (λ b. b && sends_own shown own) is ∙ ap (λ x. sends_own shown x) (same refl)

pub own_sends_known_number : OwnSendsKnownNumber
own_sends_known_number at since past h =
    let now = since ++ record { at = at; what = Opens } ∷ past in
    own_if_known (own_number past) (shown_number now) (own_number now) (was_known now) (known_in at since past h) (λ known. own_in at since past h known)
