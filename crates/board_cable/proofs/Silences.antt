-- A silent board is said to be silent.
use Rattle.std.proofs.Common.{◌≡◌, ◌⊎◌, ◌+◌, ◌≤◌, ◌<◌, ◌&&◌, ◌||◌, ◌==◌, min, inl, inr, nat_le, ℕ, Bool, true, false, List, [], ◌∷◌, ◌++◌, Option, Some, None, refl, sym, ap, subst, ◌∙◌, arith}
use Rattle.std.specs.Prelude.{if◌then◌else◌}
use Rattle.std.specs.List.{list_all}
use Rattle.std.proofs.lemmas.Bool.{and_parts, cases_lt, eq-eqb, le-leb, leb-true, or_left, or_right, true≢false}
use Rattle.std.proofs.lemmas.Option.{none-some, same_Some}
use Rattle.board_cable.specs.declared.line.Event.{Event}
use Rattle.board_cable.specs.declared.line.Request.{Request}
use Rattle.board_cable.specs.declared.line.Happening.{Happening}
use Rattle.board_cable.specs.declared.line.Happening.TheVariants.{Begins, Opens, Closes, HangsUp, Dumps, Interrupts, Asks}
use Rattle.board_cable.specs.Asking.{next_request, with_request}
use Rattle.board_cable.specs.Lasting.{has_lasted, is_past}
use Rattle.board_cable.specs.Line.{asked_at, asked_by, dumped_at, is_open, is_unanswered, is_wanted, unanswered_by, unfinished_at, updated_at}
use Rattle.board_cable.specs.Pace.{asks, may_ask, would_help}
use Rattle.board_cable.specs.Silence.{heard_at, is_silent, lost, lost_by}
use Rattle.board_cable.specs.Silences.{AreMute, IsHeard, SilentAfterSevenSeconds, is_mute, woken}

-- ---- requests that no dump has come after

capped : (n : ℕ) → min n 3 ≤ 3
capped n = omega arith

lost_most_by : (what : Happening) (n : ℕ) → n ≤ 3 → lost_by what n ≤ 3
lost_most_by (Asks request) n h = capped (n + 1)
lost_most_by Begins n h = omega arith
lost_most_by Opens n h = omega arith
lost_most_by (Dumps picture) n h = omega arith
lost_most_by other n h = h

lost_most : (past : List Event) → lost past ≤ 3
lost_most [] = omega arith
lost_most (event ∷ past) = lost_most_by event.what (lost past) (lost_most past)

-- A request came since, at this time, no later than now.
record Asked (h now : ℕ) (p q : List Event) : Type 0 where
  at : ℕ
  asked : asked_at q ≡ Some at
  low : at ≤ now
  more : lost p < 3 → lost p + 1 ≤ lost q
  most : lost p ≡ 3 → lost q ≡ 3
  silent : heard_at p ≡ Some h → lost p ≡ 3 → h + 5000 ≤ at → is_silent q ≡ true

-- What a mute board leaves as it was, and what requests change.
record Walk (h now : ℕ) (p q : List Event) : Type 0 where
  opened : is_open q ≡ is_open p
  heard : heard_at q ≡ heard_at p
  dumped : dumped_at q ≡ dumped_at p
  stays : is_silent p ≡ true → is_silent q ≡ true
  asks : ((asked_at q ≡ asked_at p) × (lost q ≡ lost p)) ⊎ Asked h now p q

still : (h now : ℕ) (p : List Event) → Walk h now p p
still h now p = record { opened = refl; heard = refl; dumped = refl; stays = λ s. s; asks = inl (refl, refl) }

silent_now : (h at n : ℕ) (heard : Option ℕ) (before : Bool) (request : Request) → heard ≡ Some h → n ≡ 3 → h + 5000 ≤ at
    → (before || ((n == 3) && has_lasted 5000 at heard)) ≡ true
silent_now h at n heard before request is three late =
    ap (λ b. before || (b && has_lasted 5000 at heard)) (eq-eqb n 3 three) ∙ ap (λ o. before || has_lasted 5000 at o) is
    ∙ ap (λ b. before || b) (le-leb (h + 5000) at late) ∙ or_right before true refl

asked_now : (h at now : ℕ) (request : Request) (p : List Event) → at ≤ now → Walk h now p (record { at = at; what = Asks request } ∷ p)
asked_now h at now request p low = record {
  opened = refl;
  heard = refl;
  dumped = refl;
  stays = λ s. or_left (is_silent p) ((lost p == 3) && has_lasted 5000 at (heard_at p)) s;
  asks = inr (record {
    at = at;
    asked = refl;
    low = low;
    more = λ few. omega (arith, few);
    most = λ three. omega (arith, three);
    silent = λ is three late. silent_now h at (lost p) (heard_at p) (is_silent p) request is three late;
  });
}

-- One thing that happens.
one_by : (h now at : ℕ) (what : Happening) (p : List Event) → is_mute what ≡ true → at ≤ now → Walk h now p (record { at = at; what = what } ∷ p)
one_by h now at Begins p mute low = absurd (true≢false (sym mute))
one_by h now at Opens p mute low = absurd (true≢false (sym mute))
one_by h now at Closes p mute low = absurd (true≢false (sym mute))
one_by h now at HangsUp p mute low = absurd (true≢false (sym mute))
one_by h now at (Dumps picture) p mute low = absurd (true≢false (sym mute))
one_by h now at (Asks request) p mute low = asked_now h at now request p low
one_by h now at other p mute low = record { opened = refl; heard = refl; dumped = refl; stays = λ s. s; asks = inl (refl, refl) }

-- One thing after the other.
both_asked : (h now : ℕ) (p q r : List Event) → Walk h now p q → Asked h now q r → Asked h now p r
both_asked h now p q r a b =
    let most = lost_most q in
    elim a.asks [
      | inl same ↦ record {
        at = b.at;
        asked = b.asked;
        low = b.low;
        more = λ few. let e : lost q ≡ lost p = same.1 in let m = b.more (omega (arith, few)) in omega arith;
        most = λ three. b.most (same.1 ∙ three);
        silent = λ is three late. b.silent (a.heard ∙ is) (same.1 ∙ three) late;
      }
      | inr one ↦ record {
        at = b.at;
        asked = b.asked;
        low = b.low;
        more = λ few. let m = one.more few in elim (cases_lt (lost q) 3) [
          | inl less ↦ (let k = b.more less in let e : lost p + 1 ≤ lost r = omega arith in e)
          | inr full ↦ (let three : lost q ≡ 3 = omega (arith, full) in let k = b.most three in let e : lost p + 1 ≤ lost r = omega arith in e)
        ];
        most = λ three. b.most (one.most three);
        silent = λ is three late. b.silent (a.heard ∙ is) (one.most three) late;
      }
    ]

same_after : (h now : ℕ) (p q r : List Event) → Asked h now p q → asked_at r ≡ asked_at q → lost r ≡ lost q → (is_silent q ≡ true → is_silent r ≡ true) → Asked h now p r
same_after h now p q r one asked same stays = record {
  at = one.at;
  asked = asked ∙ one.asked;
  low = one.low;
  more = λ few. let m = one.more few in omega arith;
  most = λ three. same ∙ one.most three;
  silent = λ is three late. stays (one.silent is three late);
}

then_asks : (h now : ℕ) (p q r : List Event) → Walk h now p q → Walk h now q r → ((asked_at r ≡ asked_at p) × (lost r ≡ lost p)) ⊎ Asked h now p r
then_asks h now p q r a b =
    elim b.asks [
      | inr two ↦ inr (both_asked h now p q r a two)
      | inl same ↦ elim a.asks [
        | inl before ↦ inl (same.0 ∙ before.0, same.1 ∙ before.1)
        | inr one ↦ inr (same_after h now p q r one same.0 same.1 b.stays)
      ]
    ]

then_walk : (h now : ℕ) (p q r : List Event) → Walk h now p q → Walk h now q r → Walk h now p r
then_walk h now p q r a b = record {
  opened = b.opened ∙ a.opened;
  heard = b.heard ∙ a.heard;
  dumped = b.dumped ∙ a.dumped;
  stays = λ s. b.stays (a.stays s);
  asks = then_asks h now p q r a b;
}

walks : (h now : ℕ) (events p : List Event) → AreMute now events → Walk h now p (events ++ p)
walks h now [] p mute = still h now p
walks h now (event ∷ events) p mute =
    let both = and_parts (is_mute event.what && nat_le event.at now) (list_all (λ (e : Event). is_mute e.what && nat_le e.at now) events) mute in
    let one = and_parts (is_mute event.what) (nat_le event.at now) both.0 in
    then_walk h now p (events ++ p) (event ∷ (events ++ p)) (walks h now events p both.1)
    (one_by h now event.at event.what (events ++ p) one.0 (leb-true event.at now one.1))

-- A request that is unanswered was sent at some time.
asked_if_by : (what : Happening) (at : ℕ) (unanswered : Bool) (asked : Option ℕ) → (unanswered ≡ true → (a : ℕ) × (asked ≡ Some a))
    → unanswered_by what unanswered ≡ true → (a : ℕ) × (asked_by what at asked ≡ Some a)
asked_if_by (Asks request) at u asked before h = (at, refl)
asked_if_by Begins at u asked before h = absurd (true≢false (sym h))
asked_if_by Opens at u asked before h = absurd (true≢false (sym h))
asked_if_by (Dumps picture) at u asked before h = absurd (true≢false (sym h))
asked_if_by Interrupts at u asked before h = absurd (true≢false (sym h))
asked_if_by other at u asked before h = before h

asked_if : (past : List Event) → is_unanswered past ≡ true → (a : ℕ) × (asked_at past ≡ Some a)
asked_if [] h = absurd (true≢false (sym h))
asked_if (event ∷ past) h = asked_if_by event.what event.at (is_unanswered past) (asked_at past) (asked_if past) h

-- ---- a wake

-- The board was asked at this time, or within the second before.
abbrev Recently : ℕ → List Event → Type 0
Recently now q = (a : ℕ) × (asked_at q ≡ Some a) × (now < a + 1000)

record Woken (h now : ℕ) (p q : List Event) : Type 0 where
  walk : Walk h now p q
  recent : Recently now q

-- whether a board may be asked whose last request is as old as this
may : (unanswered : Bool) (now a : ℕ) → a + 1000 ≤ now → is_past (if unanswered then 1000 else 200) now (Some a) ≡ true
may true now a h = le-leb (a + 1000) now h
may false now a h = le-leb (a + 200) now (omega arith)

may_first : (unanswered : Bool) (now : ℕ) → is_past (if unanswered then 1000 else 200) now None ≡ true
may_first true now = refl
may_first false now = refl

helps : (a b c d : Bool) → d ≡ true → (a || (b || (c || d))) ≡ true
helps true b c d h = refl
helps false true c d h = refl
helps false false true d h = refl
helps false false false d h = h

all_three : (a b c : Bool) → a ≡ true → b ≡ true → c ≡ true → (a && (b && c)) ≡ true
all_three true true c f g h = h
all_three false b c f g h = absurd (true≢false (sym f))
all_three true false c f g h = absurd (true≢false (sym g))

asks_now : (now d : ℕ) (q : List Event) → is_open q ≡ true → dumped_at q ≡ Some d → d + 4000 ≤ now
    → is_past (if is_unanswered q then 1000 else 200) now (asked_at q) ≡ true → asks now q ≡ true
asks_now now d q opened dumped late past =
    all_three (is_open q) (may_ask now q) (would_help now q) opened past
    (helps (is_wanted q) (has_lasted 200 now (unfinished_at q)) (has_lasted 1000 now (dumped_at q) && is_past 500 now (updated_at q)) (has_lasted 4000 now (dumped_at q))
    (ap (has_lasted 4000 now) dumped ∙ le-leb (d + 4000) now late))

unasked : (now d : ℕ) (q : List Event) (asked : Option ℕ) → asked_at q ≡ asked → is_open q ≡ true → dumped_at q ≡ Some d → d + 4000 ≤ now
    → asks now q ≡ false → (a : ℕ) × (asked_at q ≡ Some a) × (now < a + 1000)
unasked now d q None is opened dumped late no_ask =
    absurd (true≢false (sym (asks_now now d q opened dumped late (ap (is_past (if is_unanswered q then 1000 else 200) now) is ∙ may_first (is_unanswered q) now)) ∙ no_ask))
unasked now d q (Some a) is opened dumped late no_ask =
    elim (cases_lt now (a + 1000)) [
      | inl less ↦ (a, is, less)
      | inr old ↦ absurd (true≢false (sym (asks_now now d q opened dumped late (ap (is_past (if is_unanswered q then 1000 else 200) now) is ∙ may (is_unanswered q) now a old)) ∙ no_ask))
    ]

asked_then : (h now : ℕ) (p q : List Event) (asking : Bool) (request : Request) → Walk h now p q → (asking ≡ false → Recently now q)
    → Woken h now p (with_request now (if asking then Some request else None) q)
asked_then h now p q true request walk recent = record {
  walk = then_walk h now p q (record { at = now; what = Asks request } ∷ q) walk (asked_now h now now request q (omega arith));
  recent = (now, refl, omega arith);
}
asked_then h now p q false request walk recent = record { walk = walk; recent = recent refl }

wakes : (h now d : ℕ) (events p : List Event) → AreMute now events → is_open p ≡ true → dumped_at p ≡ Some d → d + 4000 ≤ now → Woken h now p (woken now (events ++ p))
wakes h now d events p mute opened dumped late =
    let q : List Event = events ++ p in
    let walk = walks h now events p mute in
    asked_then h now p q (asks now q) (next_request q) walk
    (λ no_ask. unasked now d q (asked_at q) refl (walk.opened ∙ opened) (walk.dumped ∙ dumped) late no_ask)

-- ---- four wakes

-- So many requests were sent, none after this time, since the board was heard.
record Stage (h t n d : ℕ) (p : List Event) : Type 0 where
  opened : is_open p ≡ true
  heard : heard_at p ≡ Some h
  dumped : dumped_at p ≡ Some d
  low : (a : ℕ) → asked_at p ≡ Some a → a ≤ t
  lost_is : n ≤ lost p

-- A request was sent at this wake, or since the last one.
new_request : (h t n d now : ℕ) (p q : List Event) → Stage h t n d p → t + 1000 ≤ now → Woken h now p q → Asked h now p q
new_request h t n d now p q stage apart woke =
    elim woke.walk.asks [
      | inr asked ↦ asked
      | inl same ↦ absurd (let low : woke.recent.0 ≤ t = stage.low woke.recent.0 (sym same.0 ∙ woke.recent.1) in let new = woke.recent.2 in let never : ⊥ = omega arith in never)
    ]

next_stage : (h t n d now : ℕ) (p q : List Event) → n < 3 → Stage h t n d p → t + 1000 ≤ now → Woken h now p q → Stage h now (n + 1) d q
next_stage h t n d now p q few stage apart woke =
    let asked = new_request h t n d now p q stage apart woke in
    let low = stage.lost_is in
    record {
      opened = woke.walk.opened ∙ stage.opened;
      heard = woke.walk.heard ∙ stage.heard;
      dumped = woke.walk.dumped ∙ stage.dumped;
      low = λ a is. (let e : asked.at ≡ a = same_Some asked.at a (sym asked.asked ∙ is) in let f = asked.low in omega arith);
      lost_is = elim (cases_lt (lost p) 3) [
        | inl less ↦ (let m = asked.more less in let e : n + 1 ≤ lost q = omega arith in e)
        | inr full ↦ (let top = lost_most p in let three : lost p ≡ 3 = omega (arith, full) in let m = asked.most three in let e : n + 1 ≤ lost q = omega arith in e)
      ];
    }

last_stage : (h t d now : ℕ) (p q : List Event) → Stage h t 3 d p → t + 1000 ≤ now → h + 7000 ≤ now → Woken h now p q → is_silent q ≡ true
last_stage h t d now p q stage apart late woke =
    let asked = new_request h t 3 d now p q stage apart woke in
    let low = stage.lost_is in
    let top = lost_most p in
    let three : lost p ≡ 3 = omega arith in
    let same : asked.at ≡ woke.recent.0 = same_Some asked.at woke.recent.0 (sym asked.asked ∙ woke.recent.1) in
    let new = woke.recent.2 in
    asked.silent stage.heard three (omega arith)

-- the first stage: the board is heard
dump_time : (unanswered : Bool) (asked : Option ℕ) (at : ℕ) → (unanswered ≡ true → (a : ℕ) × (asked ≡ Some a))
    → ((last : ℕ) → asked ≡ Some last → last ≤ at) → (d : ℕ) × (d ≤ at) × ((if unanswered then asked else Some at) ≡ Some d)
dump_time true asked at some order = let a = some refl in (a.0, order a.0 a.1, a.1)
dump_time false asked at some order = (at, omega arith, refl)

first_dump : (picture : List ℕ) (at : ℕ) (past : List Event) → is_open (record { at = at; what = Dumps picture } ∷ past) ≡ true
    → ((last : ℕ) → asked_at past ≡ Some last → last ≤ at) → (d : ℕ) × (d ≤ at) × Stage at at 0 d (record { at = at; what = Dumps picture } ∷ past)
first_dump picture at past opened order =
    let d = dump_time (is_unanswered past) (asked_at past) at (asked_if past) order in
    (d.0, d.1, record { opened = opened; heard = refl; dumped = d.2; low = order; lost_is = omega arith })

first_by : (what : Happening) (at : ℕ) (past : List Event) → IsHeard what → is_open (record { at = at; what = what } ∷ past) ≡ true
    → ((last : ℕ) → asked_at past ≡ Some last → last ≤ at) → (d : ℕ) × (d ≤ at) × Stage at at 0 d (record { at = at; what = what } ∷ past)
first_by what at past (inl opens) opened order =
    let P : Happening → Type 0 = λ w. is_open (record { at = at; what = w } ∷ past) ≡ true → (d : ℕ) × (d ≤ at) × Stage at at 0 d (record { at = at; what = w } ∷ past) in
    subst P (sym opens) (λ is. (at, omega arith, record { opened = is; heard = refl; dumped = refl; low = λ a some. absurd (none-some a some); lost_is = omega arith })) opened
first_by what at past (inr dump) opened order =
    let P : Happening → Type 0 = λ w. is_open (record { at = at; what = w } ∷ past) ≡ true → (d : ℕ) × (d ≤ at) × Stage at at 0 d (record { at = at; what = w } ∷ past) in
    subst P (sym dump.1) (λ is. first_dump dump.0 at past is order) opened

pub silent_after_seven_seconds : SilentAfterSevenSeconds
silent_after_seven_seconds heard past first second third fourth one two three four is opened order m1 m2 m3 m4 l1 l2 l3 l4 =
    let h : ℕ = heard.at in
    let s0 = first_by heard.what h past is opened order in
    let d : ℕ = s0.0 in
    let low : d ≤ h = s0.1 in
    let p0 : List Event = heard ∷ past in
    let p1 : List Event = woken one (first ++ p0) in
    let p2 : List Event = woken two (second ++ p1) in
    let p3 : List Event = woken three (third ++ p2) in
    let s1 : Stage h one 1 d p1 = next_stage h h 0 d one p0 p1 (omega arith) s0.2 (omega arith) (wakes h one d first p0 m1 s0.2.opened s0.2.dumped (omega arith)) in
    let s2 : Stage h two 2 d p2 = next_stage h one 1 d two p1 p2 (omega arith) s1 l2 (wakes h two d second p1 m2 s1.opened s1.dumped (omega arith)) in
    let s3 : Stage h three 3 d p3 = next_stage h two 2 d three p2 p3 (omega arith) s2 l3 (wakes h three d third p2 m3 s2.opened s2.dumped (omega arith)) in
    last_stage h three d four p3 (woken four (fourth ++ p3)) s3 l4 (omega arith) (wakes h four d fourth p3 m4 s3.opened s3.dumped (omega arith))
