-- How many bytes are kept, kept back and dropped.
use Rattle.std.proofs.Common.{◌≡◌, ◌+◌, ◌≤◌, ◌<◌, inl, inr, ℕ, nat_lt, Bool, true, false, List, [], ◌∷◌, ◌++◌, Option, Some, length, refl, sym, ap, subst, ◌∙◌, append_assoc, append-nil, length-append, arith}
use Rattle.std.specs.Prelude.{if◌then◌else◌}
use Rattle.std.specs.List.{list_all}
use Rattle.std.proofs.lemmas.Bool.{and_parts, cases_Bool, ltb-true, true≢false}
use Rattle.board_cable.specs.declared.whose.Handling.{Handling}
use Rattle.board_cable.specs.declared.whose.Handling.TheVariants.{Hold, Keep, Other}
use Rattle.board_cable.specs.Whose.{own_number}
use Rattle.board_cable.specs.declared.happened.What.{What}
use Rattle.board_cable.specs.declared.happened.What.TheVariants.{Begins, Opens, Closes, HangsUp, Lends}
use Rattle.board_cable.specs.Keeping.{are_same, aside, aside_by, ends_aside, ends_held, held, held_by, kept, kept_by, limit, limited, owner, released_by}
use Rattle.board_cable.specs.Laws.{all_kept, all_sent}
use Rattle.board_cable.specs.Lost.{HeldComesWhole, NoByteIsLost, all_lent, begins, dropped_by, holds, holds_on, is_cut, is_lent, lends, lent_now, too_many}
use Rattle.board_cable.specs.Moments.{sent}
use Rattle.board_cable.specs.Turns.{Turn, handling_of}

pub cut_is : (what : What) → ends_held what ≡ is_cut what
cut_is Begins = refl
cut_is Opens = refl
cut_is Closes = refl
cut_is HangsUp = refl
cut_is other = refl

pub lent_is : (what : What) → ends_aside what ≡ is_lent what
lent_is Begins = refl
lent_is Lends = refl
lent_is other = refl

-- What is no more kept aside was lent, or a call begins.
lent_or_dropped : (what : What) (xs : List ℕ) → (if ends_aside what then length xs else 0) ≡ length (if lends what then xs else []) + (if begins what then length xs else 0)
lent_or_dropped Begins xs = omega arith
lent_or_dropped Lends xs = omega arith
lent_or_dropped other xs = refl

-- Of bytes that end or not these are left, and those go.
left_of : (ends : Bool) (xs : List ℕ) → length (if ends then [] else xs) + (if ends then length xs else 0) ≡ length xs
left_of true xs = omega arith
left_of false xs = omega arith

none_of : (ends : Bool) (xs : List ℕ) → (if ends then 0 else length xs) ≡ length (if ends then [] else xs)
none_of true xs = refl
none_of false xs = refl

limited_by : (b : Bool) (xs : List ℕ) → length (if b then [] else xs) + (if b then length xs else 0) ≡ length xs
limited_by true xs = omega arith
limited_by false xs = omega arith

limits : (xs : List ℕ) → length (limited xs) + too_many (length xs) ≡ length xs
limits xs = limited_by (nat_lt 1048576 (length xs)) xs

two : (xs ys : List ℕ) → length (xs ++ ys) ≡ length xs + length ys
two xs ys = length-append xs ys

released_is : (same : Bool) (a h s : List ℕ) → length (((if same then a else []) ++ h) ++ s) + 0 + 0 + (if same then 0 else length a) ≡ length a + length h + length s
released_is true a h s = let p = two (a ++ h) s in let q = two a h in omega arith
released_is false a h s = let p = two h s in omega arith

aside_is : (same : Bool) (a h s : List ℕ) → length (limited ((if same then a else []) ++ (h ++ s)))
    + (if same then too_many (length a + (length h + length s)) else (length a + too_many (length h + length s))) ≡ length a + length h + length s
aside_is true a h s =
    let p = two a (h ++ s) in let q = two h s in
    let all : length (a ++ (h ++ s)) ≡ length a + (length h + length s) = omega arith in
    let e = limits (a ++ (h ++ s)) ∙ all in
    let r : length (limited (a ++ (h ++ s))) + too_many (length a + (length h + length s)) ≡ length a + (length h + length s) = subst (λ n. length (limited (a ++ (h ++ s))) + too_many n ≡ length a + (length h + length s)) all e in
    omega arith
aside_is false a h s =
    let q = two h s in
    let e = limits (h ++ s) ∙ q in
    let r : length (limited (h ++ s)) + too_many (length h + length s) ≡ length h + length s = subst (λ n. length (limited (h ++ s)) + too_many n ≡ length h + length s) q e in
    omega arith

-- At a turn: what is kept now, aside and held then, and dropped, is what was aside and held before, and what was sent.
one_turn : (handling : Handling) (own before : Option (List ℕ)) (a h s : List ℕ)
    → length (kept_by handling (released_by handling own before a h) s) + length (aside_by handling before a (h ++ s)) + length (held_by handling (h ++ s))
    + dropped_by handling own before (length a) (length h) (length s) ≡ length a + length h + length s
one_turn Keep own before a h s = released_is (are_same before own) a h s
one_turn Hold own before a h s =
    let q = two h s in
    let e = limits (h ++ s) ∙ q in
    let r : length (limited (h ++ s)) + too_many (length h + length s) ≡ length h + length s = subst (λ n. length (limited (h ++ s)) + too_many n ≡ length h + length s) q e in
    omega arith
one_turn (Other number) own before a h s = let r = aside_is (are_same before (Some number)) a h s in omega arith

pub no_byte_is_lost : NoByteIsLost
no_byte_is_lost [] = refl
no_byte_is_lost (turn ∷ turns) =
    let what : What = turn.moment.what in
    let a : List ℕ = if ends_aside what then [] else aside turns in
    let h : List ℕ = if ends_held what then [] else held turns in
    let s : List ℕ = sent turn.moment in
    let now = one_turn (handling_of turn) (own_number turn.now) (owner turns) a h s in
    let before = no_byte_is_lost turns in
    let A = left_of (ends_aside what) (aside turns) in
    let H = left_of (ends_held what) (held turns) in
    let e : (if is_lent what then 0 else length (aside turns)) ≡ length a = ap (λ b. if b then 0 else length (aside turns)) (sym (lent_is what)) ∙ none_of (ends_aside what) (aside turns) in
    let f : (if is_cut what then 0 else length (held turns)) ≡ length h = ap (λ b. if b then 0 else length (held turns)) (sym (cut_is what)) ∙ none_of (ends_held what) (held turns) in
    let g : dropped_by (handling_of turn) (own_number turn.now) (owner turns) (if is_lent what then 0 else length (aside turns)) (if is_cut what then 0 else length (held turns)) (length s)
    ≡ dropped_by (handling_of turn) (own_number turn.now) (owner turns) (length a) (length h) (length s) =
    ap (λ n. dropped_by (handling_of turn) (own_number turn.now) (owner turns) n (if is_cut what then 0 else length (held turns)) (length s)) e
    ∙ ap (λ n. dropped_by (handling_of turn) (own_number turn.now) (owner turns) (length a) n (length s)) f in
    let i = lent_or_dropped what (aside turns) in
    let m = two (all_lent turns) (lent_now turn turns) in
    let j : (if is_cut what then length (held turns) else 0) ≡ (if ends_held what then length (held turns) else 0) = ap (λ b. if b then length (held turns) else 0) (sym (cut_is what)) in
    let k : length (all_kept turns [] ++ kept (turn ∷ turns ++ [])) ≡ length (all_kept turns []) + length (kept (turn ∷ turns)) =
    two (all_kept turns []) (kept (turn ∷ turns ++ [])) ∙ ap (λ ts. length (all_kept turns []) + length (kept (turn ∷ ts))) (append-nil turns) in
    let l = two (all_sent turns) s in
    omega arith

pub fits : (limit n : ℕ) → n ≤ limit → nat_lt limit n ≡ false
fits limit n few = elim (cases_Bool (nat_lt limit n)) [ inl more ↦ (let h : limit < n = ltb-true limit n more in absurd (let never : ⊥ = omega arith in never)) | inr other ↦ other ]

abbrev is_other : Handling → Bool
is_other (Other number) = true
is_other handling = false

held_now : (handling : Handling) (come : List ℕ) → holds handling ≡ true → length come ≤ 1048576 → held_by handling come ≡ come
held_now Hold come is few =
    ap (λ b. if b then [] else come) (fits 1048576 (length come) few)
held_now Keep come is few = absurd (true≢false (sym is))
held_now (Other number) come is few = absurd (true≢false (sym is))

held_turn : (cut : Bool) (handling : Handling) (before sent : List ℕ) → (if cut then false else holds handling) ≡ true → length (before ++ sent) ≤ 1048576
    → held_by handling ((if cut then [] else before) ++ sent) ≡ before ++ sent
held_turn true handling before sent is few = absurd (true≢false (sym is))
held_turn false handling before sent is few = held_now handling (before ++ sent) is few

held_since : (since before : List Turn) → held before ≡ [] → list_all holds_on since ≡ true → length (all_sent since) ≤ 1048576 → held (since ++ before) ≡ all_sent since
held_since [] before none all few = none
held_since (turn ∷ since) before none all few =
    let both = and_parts (holds_on turn) (list_all holds_on since) all in
    let s : List ℕ = sent turn.moment in
    let l = two (all_sent since) s in
    let earlier = held_since since before none both.1 (omega arith) in
    let R : List ℕ → Type 0 = λ xs. held_by (handling_of turn) ((if ends_held turn.moment.what then [] else xs) ++ s) ≡ all_sent since ++ s in
    let C : Bool → Type 0 = λ b. held_by (handling_of turn) ((if b then [] else all_sent since) ++ s) ≡ all_sent since ++ s in
    subst R (sym earlier) (subst C (sym (cut_is turn.moment.what)) (held_turn (is_cut turn.moment.what) (handling_of turn) (all_sent since) s both.0 few))

abbrev EndsWith : List ℕ → List ℕ → Type 0
EndsWith xs ys = (front : List ℕ) × (xs ≡ front ++ ys)

kept_now : (handling : Handling) (own before : Option (List ℕ)) (a h s : List ℕ) → handling ≡ Keep → EndsWith (kept_by handling (released_by handling own before a h) s) (h ++ s)
kept_now Keep own before a h s is = ((if are_same before own then a else []), append_assoc (if are_same before own then a else []) h s)
kept_now Hold own before a h s is = absurd (true≢false (ap holds is))
kept_now (Other number) own before a h s is = absurd (true≢false (ap is_other is))

pub held_comes_whole : HeldComesWhole
held_comes_whole turn since before none all cut keeps few =
    let s : List ℕ = sent turn.moment in
    let past : List Turn = since ++ before in
    let a : List ℕ = if ends_aside turn.moment.what then [] else aside past in
    let given : List ℕ → Type 0 = λ h. EndsWith (kept_by (handling_of turn) (released_by (handling_of turn) (own_number turn.now) (owner past) a h) s) (all_sent since ++ s) in
    let same : (if ends_held turn.moment.what then [] else held past) ≡ all_sent since =
    ap (λ b. if b then [] else held past) (cut_is turn.moment.what ∙ cut) ∙ held_since since before none all few in
    subst given (sym same) (kept_now (handling_of turn) (own_number turn.now) (owner past) a (all_sent since) s keeps)
