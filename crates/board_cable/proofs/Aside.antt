-- What was aside comes whole, and the board that is taken is the game's.
use Rattle.std.proofs.Common.{◌≡◌, ◌≤◌, ◌⊎◌, ◌||◌, inl, inr, not, ℕ, Bool, true, false, List, [], ◌∷◌, ◌++◌, Option, Some, None, length, refl, sym, ap, ap₂, subst, ◌∙◌, append_assoc, append-nil, length-append, arith}
use Rattle.std.specs.Prelude.{if◌then◌else◌}
use Rattle.std.specs.List.{list_all}
use Rattle.std.proofs.lemmas.Bool.{and_parts, not-true, or_parts, true≢false}
use Rattle.std.proofs.lemmas.Slice.Eq.{bytes_eq-Decides}
use Rattle.board_cable.specs.declared.line.Event.{Event}
use Rattle.board_cable.specs.declared.whose.Handling.{Handling}
use Rattle.board_cable.specs.declared.whose.Handling.TheVariants.{Hold, Keep, Other}
use Rattle.board_cable.specs.declared.happened.What.{What}
use Rattle.board_cable.specs.declared.happened.What.TheVariants.{Takes}
use Rattle.board_cable.specs.Frames.{with_happening}
use Rattle.board_cable.specs.Keeping.{are_same, aside, aside_by, ends_aside, held, held_by, kept_by, limited, owner, owner_by, released_by}
use Rattle.board_cable.specs.Laws.{TakenBoardIsOwn, all_sent}
use Rattle.board_cable.specs.Lost.{AsideComesWhole, is_cut, is_kept_back, is_lent, kept_back_by}
use Rattle.board_cable.specs.Moments.{Moment, is_heard, sent, stream}
use Rattle.board_cable.specs.Turns.{Tells, TellsAs, Turn, handling_of, taken, told}
use Rattle.board_cable.specs.Whose.{awaited_at, dumps_since, handling_at, handling_by, is_awaited, own_number, shown_number}
use Rattle.board_cable.proofs.Lost.{cut_is, fits, lent_is}

all_fit : (bytes : List ℕ) → length bytes ≤ 1048576 → limited bytes ≡ bytes
all_fit bytes few = ap (λ b. if b then [] else bytes) (fits 1048576 (length bytes) few)

same_number : (number : List ℕ) → are_same (Some number) (Some number) ≡ true
same_number number = (bytes_eq-Decides number number).1 refl

-- What is aside is this board's, if there is any.
abbrev IsOf : List ℕ → Option (List ℕ) → List ℕ → Type 0
IsOf number owner aside = (owner ≡ Some number) ⊎ (aside ≡ [])

either : (b : Bool) (bytes : List ℕ) → (if b then bytes else bytes) ≡ bytes
either true bytes = refl
either false bytes = refl

all_aside : (number : List ℕ) (owner : Option (List ℕ)) (a : List ℕ) → IsOf number owner a → (if are_same owner (Some number) then a else []) ≡ a
all_aside number owner a (inl is) = ap (λ o. if are_same o (Some number) then a else []) is ∙ ap (λ b. if b then a else []) (same_number number)
all_aside number owner a (inr none) = ap (λ xs. if are_same owner (Some number) then xs else []) none ∙ either (are_same owner (Some number)) [] ∙ sym none

-- One turn at which what is sent is kept back.
abbrev Back : Handling → List ℕ → Option (List ℕ) → List ℕ → List ℕ → List ℕ → List ℕ → Type 0
Back handling number owner a h s all = (aside_by handling owner a (h ++ s) ++ held_by handling (h ++ s) ≡ all ++ s)
    × IsOf number (owner_by handling owner) (aside_by handling owner a (h ++ s))

joined : (a h s all : List ℕ) → a ++ h ≡ all → a ++ (h ++ s) ≡ all ++ s
joined a h s all is = sym (append_assoc a h s) ∙ ap (λ xs. xs ++ s) is

other_back : (number : List ℕ) (owner : Option (List ℕ)) (a h s all : List ℕ) → a ++ h ≡ all → IsOf number owner a → length (all ++ s) ≤ 1048576
    → Back (Other number) number owner a h s all
other_back number owner a h s all is of few =
    let whole : (if are_same owner (Some number) then a else []) ++ (h ++ s) ≡ all ++ s = ap (λ xs. xs ++ (h ++ s)) (all_aside number owner a of) ∙ joined a h s all is in (
      append-nil (limited ((if are_same owner (Some number) then a else []) ++ (h ++ s))) ∙ ap limited whole ∙ all_fit (all ++ s) few,
      inl refl,
    )

back_one : (handling : Handling) (number : List ℕ) (owner : Option (List ℕ)) (a h s all : List ℕ) → kept_back_by number handling ≡ true → a ++ h ≡ all
    → IsOf number owner a → length (all ++ s) ≤ 1048576 → Back handling number owner a h s all
back_one Keep number owner a h s all back is of few = absurd (true≢false (sym back))
back_one Hold number owner a h s all back is of few =
    let one = length-append a (h ++ s) in
    let two = ap length (joined a h s all is) in (
      ap (λ xs. a ++ xs) (all_fit (h ++ s) (omega arith)) ∙ joined a h s all is,
      of,
    )
back_one (Other other) number owner a h s all back is of few =
    subst (λ n. Back (Other n) number owner a h s all) (sym ((bytes_eq-Decides other number).0 back)) (other_back number owner a h s all is of few)

abbrev AllBack : List ℕ → List Turn → List Turn → Type 0
AllBack number since before = (aside (since ++ before) ++ held (since ++ before) ≡ all_sent since) × IsOf number (owner (since ++ before)) (aside (since ++ before))

back_in : (number : List ℕ) (since before : List Turn) → aside before ≡ [] → held before ≡ [] → list_all (is_kept_back number) since ≡ true
    → length (all_sent since) ≤ 1048576 → AllBack number since before
back_in number [] before no_aside none all few = (ap₂ (λ x y. x ++ y) no_aside none, inr no_aside)
back_in number (turn ∷ since) before no_aside none all few =
    let both = and_parts (is_kept_back number turn) (list_all (is_kept_back number) since) all in
    let what : What = turn.moment.what in
    let back = and_parts (kept_back_by number (handling_of turn)) (not (is_cut what || is_lent what)) both.0 in
    let stays = or_parts (is_cut what) (is_lent what) (not-true (is_cut what || is_lent what) back.1) in
    let s : List ℕ = sent turn.moment in
    let l = length-append (all_sent since) s in
    let earlier = back_in number since before no_aside none both.1 (omega arith) in
    let t : List Turn = since ++ before in
    let B : Bool → Bool → Type 0 = λ b c. Back (handling_of turn) number (owner t) (if b then [] else aside t) (if c then [] else held t) s (all_sent since) in
    let plain : B false false = back_one (handling_of turn) number (owner t) (aside t) (held t) s (all_sent since) back.0 earlier.0 earlier.1 few in
    subst (λ c. B (ends_aside what) c) (sym (cut_is what ∙ stays.0)) (subst (λ b. B b false) (sym (lent_is what ∙ stays.1)) plain)

kept_whole : (handling : Handling) (number : List ℕ) (own before : Option (List ℕ)) (a h s all : List ℕ) → handling ≡ Keep → own ≡ Some number → a ++ h ≡ all
    → IsOf number before a → kept_by handling (released_by handling own before a h) s ≡ all ++ s
kept_whole handling number own before a h s all is owned whole of =
    ap (λ x. kept_by x (released_by x own before a h) s) is ∙ ap (λ o. ((if are_same before o then a else []) ++ h) ++ s) owned
    ∙ ap (λ xs. (xs ++ h) ++ s) (all_aside number before a of) ∙ ap (λ xs. xs ++ s) whole

pub aside_comes_whole : AsideComesWhole
aside_comes_whole number turn since before no_aside none all stays keeps owned few =
    let what : What = turn.moment.what in
    let both = or_parts (is_cut what) (is_lent what) stays in
    let back = back_in number since before no_aside none all few in
    let s : List ℕ = sent turn.moment in
    let t : List Turn = since ++ before in
    let K : Bool → Bool → Type 0 = λ b c. kept_by (handling_of turn) (released_by (handling_of turn) (own_number turn.now) (owner t) (if b then [] else aside t) (if c then [] else held t)) s
    ≡ all_sent since ++ s in
    let plain : K false false = kept_whole (handling_of turn) number (own_number turn.now) (owner t) (aside t) (held t) s (all_sent since) keeps owned back.0 back.1 in
    subst (λ c. K (ends_aside what) c) (sym (cut_is what ∙ both.0)) (subst (λ b. K b false) (sym (lent_is what ∙ both.1)) plain)

-- The arbiter takes the board on the cable.
takes_alone : (m : Moment) (stream : List ℕ) (before now : List Event) → m.what ≡ Takes → Tells m stream before now
    → now ≡ with_happening m.at (taken (shown_number before)) before
takes_alone m stream before now is tells =
    let T : What → Type 0 = λ w. TellsAs (is_heard w) (record { at = m.at; what = w; bytes = m.bytes }) stream before now in
    let h : T Takes = subst T is tells in
    h

same_board : (b : Bool) (number : List ℕ) → (handling_by b (Some number) (Some number) ≡ Keep) ⊎ (handling_by b (Some number) (Some number) ≡ Hold)
same_board true number = inr refl
same_board false number = inl (ap (λ b. if b then Keep else Other number) ((bytes_eq-Decides number number).1 refl))

handled : (now : ℕ) (past : List Event) (number : List ℕ) → own_number past ≡ Some number → shown_number past ≡ Some number
    → (handling_at now past ≡ Keep) ⊎ (handling_at now past ≡ Hold)
handled now past number own shown =
    let awaited : Bool = is_awaited now (awaited_at past) (dumps_since past) in
    let H : Option (List ℕ) → Option (List ℕ) → Type 0 = λ o n. (handling_by awaited o n ≡ Keep) ⊎ (handling_by awaited o n ≡ Hold) in
    subst (λ o. H o (shown_number past)) (sym own) (subst (λ n. H (Some number) n) (sym shown) (same_board awaited number))

taken_turn : (m : Moment) (stream : List ℕ) (before now : List Event) → m.what ≡ Takes → Tells m stream before now
    → ((number : List ℕ) → shown_number before ≡ Some number → (own_number now ≡ Some number) × ((handling_at m.at now ≡ Keep) ⊎ (handling_at m.at now ≡ Hold)))
    × (shown_number before ≡ None → now ≡ before)
taken_turn m stream before now is tells =
    let told = takes_alone m stream before now is tells in (
      λ number shown.
          let owns = told ∙ ap (λ o. with_happening m.at (taken o) before) shown in
          let own : own_number now ≡ Some number = ap own_number owns in
          (own, handled m.at now number own (ap shown_number owns ∙ shown)),
      λ none. told ∙ ap (λ o. with_happening m.at (taken o) before) none,
    )

pub taken_board_is_own : TakenBoardIsOwn
taken_board_is_own [] turn turns h is = absurd h
taken_board_is_own (moment ∷ past) turn turns h is =
    taken_turn turn.moment (stream past) (told turns) turn.now is (subst (λ m. Tells m (stream past) (told turns) turn.now) (sym h.1) h.2)
