-- What is put in, read back.
use Rattle.std.proofs.Common.{◌≡◌, ℕ, ◌/◌, ◌%◌, ◌<◌, ◌≤◌, ◌==◌, ◌&&◌, nat_lt, Bool, true, false, if◌then◌else◌, List, [], ◌∷◌, ◌++◌, reverse, length, Option, Some, None, refl, sym, ap, ◌∙◌, append_assoc, arith, bytes_eq, lt-ltb, ne_eqb}
use Rattle.std.proofs.lemmas.Slice.Eq.{bytes_eq-Decides}
use Rattle.std.proofs.lemmas.List.{length-reverse, reverse-reverse}
use Rattle.dgt_frame.specs.declared.events.Message.TheVariants.{Time}
use Rattle.dgt_frame.specs.declared.events.Event.{Event}
use Rattle.dgt_frame.specs.declared.events.Event.TheVariants.{Message as MessageEvent}
use Rattle.dgt_frame.specs.declared.First.{First}
use Rattle.dgt_frame.specs.declared.First.TheVariants.{White, Black}
use Rattle.chess_clock.specs.declared.Reading.{Reading}
use Rattle.chess_clock.specs.Clock.{Clock, IsTime}
use Rattle.dgt_frame.specs.Times.{are_digits, group, number_of, tens, units}
use Rattle.chess_rules.specs.Picture.{picture}
use Rattle.settle_core.specs.Entries.{Entry, entry_of}
use Rattle.board_events.specs.Entries.{entries}
use Rattle.board_events.specs.History.{decides, is_trusted, picture_of, reading_at, reading_said}
use Rattle.board_events.proofs.PictureLemmas.{plain_dump, rotated_dump}
use Rattle.pair_frames.specs.PutIn.{digits, dump_of, group_of, put_in, time_put_in, times_of}
use Rattle.pair_frames.specs.Laws.{IsRead, PutInIsRead}

-- two digits, read back
tens_back : (n : ℕ) → n ≤ 59 → tens (digits n) ≡ n / 10
tens_back n h = omega arith

units_back : (n : ℕ) → n ≤ 59 → units (digits n) ≡ n % 10
units_back n h = omega arith

number_back : (n : ℕ) → n ≤ 59 → number_of (digits n) ≡ n
number_back n h = omega (arith, tens_back n h, units_back n h)

digits_good : (n : ℕ) → n ≤ 59 → are_digits (digits n) ≡ true
digits_good n h =
    let low : tens (digits n) < 6 = omega (arith, tens_back n h) in
    let small : units (digits n) < 10 = omega (arith, units_back n h) in
    rw (lt-ltb (tens (digits n)) 6 low, lt-ltb (units (digits n)) 10 small) refl

hours_back : (n : ℕ) → n ≤ 9 → units n ≡ n
hours_back n h = omega arith

no_acknowledgement : (n : ℕ) → n ≤ 9 → (units n == 10) ≡ false
no_acknowledgement n h = ne_eqb (units n) 10 (λ e. omega (arith, hours_back n h, e))

-- a group, wherever it stands
is_group_back : (clock : Clock) → IsTime clock
    → (nat_lt (units clock.hours) 10 && are_digits (digits clock.minutes) && are_digits (digits clock.seconds)) ≡ true
is_group_back clock h =
    let low : units clock.hours < 10 = omega (arith, h.0) in
    rw (lt-ltb (units clock.hours) 10 low, digits_good clock.minutes h.1, digits_good clock.seconds h.2) refl

abbrev clock_of : ℕ → ℕ → ℕ → Clock
clock_of a b c = record { hours = a; minutes = b; seconds = c }

clock_back : (clock : Clock) → IsTime clock
    → clock_of (units clock.hours) (number_of (digits clock.minutes)) (number_of (digits clock.seconds)) ≡ clock
clock_back clock h = rw (hours_back clock.hours h.0, number_back clock.minutes h.1, number_back clock.seconds h.2) refl

abbrev two : Clock → Clock → List ℕ
two a b = group_of a ++ group_of b ++ 0 ∷ []

decides_two : (a b : Clock) → IsTime a → IsTime b → decides (two a b) ≡ true
decides_two a b h k =
    rw (no_acknowledgement a.hours h.0, no_acknowledgement b.hours k.0, is_group_back a h, is_group_back b k) refl

first_back : (a b : Clock) → IsTime a → group (two a b) 0 ≡ a
first_back a b h = clock_back a h

second_back : (a b : Clock) → IsTime b → group (two a b) 3 ≡ b
second_back a b h = clock_back b h

abbrev reading_from : Clock → Clock → Reading
reading_from a b = record { white = a; black = b }

decides_times : (first : First) (reading : Option Reading) → IsRead reading → decides (times_of first reading) ≡ true
decides_times White None h = refl
decides_times Black None h = refl
decides_times White (Some reading) h = decides_two reading.white reading.black h.0 h.1
decides_times Black (Some reading) h = decides_two reading.black reading.white h.1 h.0

said_back : (first : First) (reading : Option Reading) → IsRead reading → reading_said first (times_of first reading) ≡ reading
said_back White None h = refl
said_back Black None h = refl
said_back White (Some reading) h =
    ap (λ (a : Clock). Some (reading_from a (group (times_of White (Some reading)) 3))) (first_back reading.white reading.black h.0)
    ∙ ap (λ (b : Clock). Some (reading_from reading.white b)) (second_back reading.white reading.black h.1)
said_back Black (Some reading) h =
    ap (λ (a : Clock). Some (reading_from a (group (times_of Black (Some reading)) 0))) (second_back reading.black reading.white h.0)
    ∙ ap (λ (b : Clock). Some (reading_from reading.white b)) (first_back reading.black reading.white h.1)

-- the reading after a time message that gives it
given_back : (first : First) (reading : Option Reading) (past : List Event) → IsRead reading
    → reading_at first (MessageEvent (Time (times_of first reading)) ∷ past) ≡ reading
given_back first reading past h = rw (decides_times first reading h) (said_back first reading h)

abbrev put_if : Bool → List ℕ → List Event
put_if same times = if same then [] else MessageEvent (Time times) ∷ []

-- where it is put in only if the other message isn't the same
time_back : (first : First) (now reading : Option Reading) (past : List Event) (same : Bool) → bytes_eq (times_of first now) (times_of first reading) ≡ same
    → IsRead now → IsRead reading → reading_at first past ≡ now → reading_at first (put_if same (times_of first reading) ++ past) ≡ reading
time_back first now reading past true e h k at =
    let d = bytes_eq-Decides (times_of first now) (times_of first reading) in
    let equal : times_of first now ≡ times_of first reading = d.0 e in
    at ∙ sym (said_back first now h) ∙ ap (reading_said first) equal ∙ said_back first reading k
time_back first now reading past false e h k at = given_back first reading past k

time_entries : (first : First) (rotated : Bool) (times : List ℕ) (past : List Event) (same : Bool)
    → entries first rotated (put_if same times ++ past) ≡ entries first rotated past
time_entries first rotated times past true = refl
time_entries first rotated times past false = refl

dumped : (rotated : Bool) (shown : List ℕ) (past : List Event) → length shown ≡ 64 → picture_of rotated (dump_of rotated shown ∷ past) ≡ shown
dumped false shown past size = sym (plain_dump shown past size)
dumped true shown past size = sym (rotated_dump (reverse shown) past (length-reverse shown ∙ size)) ∙ reverse-reverse shown

-- all of it, the latest first
backward : (a b : Bool) (x y : List ℕ) (d e f : Event) (past : List Event)
    → reverse (put_if a x ++ d ∷ e ∷ (put_if b y ++ f ∷ [])) ++ past ≡ f ∷ (put_if b y ++ e ∷ d ∷ (put_if a x ++ past))
backward true true x y d e f past = refl
backward true false x y d e f past = refl
backward false true x y d e f past = refl
backward false false x y d e f past = refl

entry_same : (picture other : List ℕ) (reading reading' : Option Reading) (before before' : List Entry) → picture ≡ other → reading ≡ reading' → before ≡ before'
    → entry_of picture reading ∷ before ≡ entry_of other reading' ∷ before'
entry_same picture other reading reading' before before' h k l = rw (h, k, l) refl

pub put_in_is_read : PutInIsRead
put_in_is_read first rotated past entry r size1 size2 size3 now then_read at =
    let d : Event = dump_of rotated (picture r.middle) in
    let e : Event = dump_of rotated (picture r.after) in
    let f : Event = dump_of rotated entry.picture in
    let x = times_of first r.reading in
    let y = times_of first entry.reading in
    let a = bytes_eq y x in
    let b = bytes_eq x y in
    let one : List Event = put_if a x ++ past in
    let two' : List Event = d ∷ one in
    let three : List Event = e ∷ two' in
    let four : List Event = put_if b y ++ three in
    let reads1 : reading_at first one ≡ r.reading = time_back first entry.reading r.reading past a refl now then_read at in
    let reads4 : reading_at first four ≡ entry.reading = time_back first r.reading entry.reading three b refl then_read now reads1 in
    let order : reverse (put_in first rotated entry r) ++ past ≡ f ∷ four = backward a b x y d e f past in
    let shown : picture_of rotated (f ∷ four) ≡ entry.picture = dumped rotated entry.picture four size1 in
    let list1 : entries first rotated one ≡ entries first rotated past = time_entries first rotated x past a in
    let list2 : entries first rotated two' ≡ entry_of (picture r.middle) r.reading ∷ entries first rotated past =
    entry_same (picture_of rotated two') (picture r.middle) (reading_at first one) r.reading (entries first rotated one) (entries first rotated past)
    (dumped rotated (picture r.middle) one size2) reads1 list1 in
    let list3 : entries first rotated three ≡ entry_of (picture r.after) r.reading ∷ entry_of (picture r.middle) r.reading ∷ entries first rotated past =
    entry_same (picture_of rotated three) (picture r.after) (reading_at first two') r.reading (entries first rotated two')
    (entry_of (picture r.middle) r.reading ∷ entries first rotated past) (dumped rotated (picture r.after) two' size3) reads1 list2 in
    let list4 : entries first rotated four ≡ entry_of (picture r.after) r.reading ∷ entry_of (picture r.middle) r.reading ∷ entries first rotated past =
    time_entries first rotated y three b ∙ list3 in
    let list5 : entries first rotated (f ∷ four) ≡ entry ∷ entry_of (picture r.after) r.reading ∷ entry_of (picture r.middle) r.reading ∷ entries first rotated past =
    entry_same (picture_of rotated (f ∷ four)) entry.picture (reading_at first four) entry.reading (entries first rotated four)
    (entry_of (picture r.after) r.reading ∷ entry_of (picture r.middle) r.reading ∷ entries first rotated past) shown reads4 list4 in
    record {
      trust = ap is_trusted order;
      shown = ap (picture_of rotated) order ∙ shown;
      reading = ap (reading_at first) order ∙ reads4;
      adds = ap (entries first rotated) order ∙ list5;
    }

-- where the times differ, the message is put in
differ_put : (times other : List ℕ) (same : Bool) → bytes_eq times other ≡ same → (times ≡ other → ⊥) → put_if (bytes_eq times other) other ≡ MessageEvent (Time other) ∷ []
differ_put times other true e h = absurd (let d = bytes_eq-Decides times other in h (d.0 e))
differ_put times other false e h = rw e refl

pub time_differs : (first : First) (now reading : Option Reading) → (times_of first now ≡ times_of first reading → ⊥)
    → time_put_in first now reading ≡ MessageEvent (Time (times_of first reading)) ∷ []
time_differs first now reading h =
    differ_put (times_of first now) (times_of first reading) (bytes_eq (times_of first now) (times_of first reading)) refl h

-- one after the other
pub regrouped : (t u : List Event) (d e f : Event) → (((t ++ d ∷ []) ++ e ∷ []) ++ u) ++ f ∷ [] ≡ t ++ d ∷ e ∷ (u ++ f ∷ [])
regrouped t u d e f =
    append_assoc ((t ++ d ∷ []) ++ e ∷ []) u (f ∷ [])
    ∙ append_assoc (t ++ d ∷ []) (e ∷ []) (u ++ f ∷ [])
    ∙ append_assoc t (d ∷ []) (e ∷ (u ++ f ∷ []))
