-- Words are known by their texts.
use Rattle.std.proofs.Common.{◌≡◌, ◌<◌, ◌≤◌, ◌^◌, ◌==◌, not, ℕ, zero, suc, Bool, true, false, List, [], ◌∷◌, ◌++◌, Option, Some, None, decimal, length, refl, sym, ap, ◌∙◌, arith}
use Rattle.std.specs.Prelude.{codes, if◌then◌else◌}
use Rattle.std.specs.Int.{bit_at}
use Rattle.std.specs.Str.{bytes_eq}
use Rattle.std.proofs.lemmas.Bool.{and_parts}
use Rattle.std.proofs.lemmas.Fmt.{decimal_injective}
use Rattle.std.proofs.lemmas.List.{append_assoc, append_cancel_left, append_cancel_right}
use Rattle.board_cable.specs.declared.line.Request.{Request}
use Rattle.board_cable.specs.declared.line.Request.TheVariants.{Dump, Numbered, Start}
use Rattle.board_cable.specs.declared.whose.Handling.{Handling}
use Rattle.board_cable.specs.declared.whose.Handling.TheVariants.{Keep, Hold, Other}
use Rattle.board_standing.specs.declared.state.Hint.{Hint}
use Rattle.board_standing.specs.declared.state.Hint.TheVariants.{TurnedRound, OtherBoard}
use Rattle.board_standing.specs.declared.state.Kind.{Kind}
use Rattle.board_standing.specs.declared.state.Kind.TheVariants.{Waits, Agrees, Ended, InHand, Wrong, NoStart, SettingUp, Silent, Unplugged}
use Rattle.board_standing.specs.declared.state.State.{State}
use Rattle.answer_lines.specs.Answers.{handling_words, hint_text, kind_word, request_words, square_text, squares_below, state_words, time_text}
use Rattle.answer_lines.specs.Laws.{StateFits, TimeFits, lacks}
use Rattle.answer_lines.proofs.CutLemmas.{cut_once, decimal_lacks_blank, decimal_lacks_dash, decimal_lacks_feed, lacks_append, lacks_front}
use Rattle.answer_lines.proofs.SquareLemmas.{lacks_high, lacks_low, same_mask, squares_lack}

abbrev pub first_of : List ℕ → ℕ
first_of [] = 0
first_of (x ∷ xs) = x

abbrev pub behind : List ℕ → List ℕ
behind [] = []
behind (x ∷ xs) = xs

abbrev behind_six : List ℕ → List ℕ
behind_six text = behind (behind (behind (behind (behind (behind text)))))

abbrev handling_by : ℕ → List ℕ → Handling
handling_by n number = if n == 107 then Keep else (if n == 104 then Hold else Other number)

abbrev handling_read : List ℕ → Handling
handling_read text = handling_by (first_of text) (behind_six text)

handling_back : (handling : Handling) → handling_read (handling_words handling) ≡ handling
handling_back Keep = refl
handling_back Hold = refl
handling_back (Other number) = refl

pub same_handling : (one other : Handling) → handling_words one ≡ handling_words other → one ≡ other
same_handling one other e = sym (handling_back one) ∙ ap handling_read e ∙ handling_back other

abbrev request_by : ℕ → Request
request_by n = if n == 5 then Dump else (if n == 6 then Numbered else Start)

request_back : (request : Request) → request_by (length (request_words request)) ≡ request
request_back Dump = refl
request_back Numbered = refl
request_back Start = refl

pub same_request : (one other : Request) → request_words one ≡ request_words other → one ≡ other
same_request one other e = sym (request_back one) ∙ ap (λ (t : List ℕ). request_by (length t)) e ∙ request_back other

pub request_lacks_feed : (request : Request) → lacks 10 (request_words request) ≡ true
request_lacks_feed Dump = refl
request_lacks_feed Numbered = refl
request_lacks_feed Start = refl

abbrev kind_read : List ℕ → Kind
kind_read text =
    if bytes_eq text (codes "WAITS") then Waits
    else (if bytes_eq text (codes "AGREES") then Agrees
    else (if bytes_eq text (codes "RESULT") then Ended
    else (if bytes_eq text (codes "IN-HAND") then InHand
    else (if bytes_eq text (codes "WRONG") then Wrong
    else (if bytes_eq text (codes "NO-START") then NoStart
    else (if bytes_eq text (codes "SETTING-UP") then SettingUp
    else (if bytes_eq text (codes "SILENT") then Silent
    else Unplugged)))))))

kind_back : (kind : Kind) → kind_read (kind_word kind) ≡ kind
kind_back Waits = refl
kind_back Agrees = refl
kind_back Ended = refl
kind_back InHand = refl
kind_back Wrong = refl
kind_back NoStart = refl
kind_back SettingUp = refl
kind_back Silent = refl
kind_back Unplugged = refl

same_kind : (one other : Kind) → kind_word one ≡ kind_word other → one ≡ other
same_kind one other e = sym (kind_back one) ∙ ap kind_read e ∙ kind_back other

kind_lacks_blank : (kind : Kind) → lacks 32 (kind_word kind) ≡ true
kind_lacks_blank Waits = refl
kind_lacks_blank Agrees = refl
kind_lacks_blank Ended = refl
kind_lacks_blank InHand = refl
kind_lacks_blank Wrong = refl
kind_lacks_blank NoStart = refl
kind_lacks_blank SettingUp = refl
kind_lacks_blank Silent = refl
kind_lacks_blank Unplugged = refl

kind_lacks_feed : (kind : Kind) → lacks 10 (kind_word kind) ≡ true
kind_lacks_feed Waits = refl
kind_lacks_feed Agrees = refl
kind_lacks_feed Ended = refl
kind_lacks_feed InHand = refl
kind_lacks_feed Wrong = refl
kind_lacks_feed NoStart = refl
kind_lacks_feed SettingUp = refl
kind_lacks_feed Silent = refl
kind_lacks_feed Unplugged = refl

pub time_lacks_feed : (time : Option ℕ) → TimeFits time → lacks 10 (time_text time) ≡ true
time_lacks_feed None fits = refl
time_lacks_feed (Some n) fits = decimal_lacks_feed n fits

time_lacks_blank : (time : Option ℕ) → TimeFits time → lacks 32 (time_text time) ≡ true
time_lacks_blank None fits = refl
time_lacks_blank (Some n) fits = decimal_lacks_blank n fits

-- a number is no dash
no_dash : (n : ℕ) → n < 2 ^ 64 → 45 ∷ [] ≡ decimal n → ⊥
no_dash n fits e = let never : false ≡ true = ap (lacks 45) e ∙ decimal_lacks_dash n fits in cc

pub same_time : (one other : Option ℕ) → TimeFits one → TimeFits other → time_text one ≡ time_text other → one ≡ other
same_time None None f g e = refl
same_time None (Some n) f g e = absurd (no_dash n g e)
same_time (Some n) None f g e = absurd (no_dash n f (sym e))
same_time (Some m) (Some n) f g e = ap (λ k. Some k) (decimal_injective m n f g e)

-- what stands before the first blank
front : List ℕ → List ℕ
front [] = []
front (x ∷ xs) = if x == 32 then [] else x ∷ front xs

front_step : (b : Bool) (x : ℕ) (rest text : List ℕ) → not b ≡ true → rest ≡ text → (if b then [] else x ∷ rest) ≡ x ∷ text
front_step false x rest text h e = ap (λ t. x ∷ t) e
front_step true x rest text h e = let never : false ≡ true = h in absurd cc

front_is : (text more : List ℕ) → lacks 32 text ≡ true → front more ≡ [] → front (text ++ more) ≡ text
unfolding front
front_is [] more h none = none
front_is (x ∷ text) more h none =
    let both = and_parts (not (x == 32)) (lacks 32 text) h in
    front_step (x == 32) x (front (text ++ more)) text both.0 (front_is text more both.1 none)

front_one : (n : ℕ) (b : Bool) (more : List ℕ) → front more ≡ [] → front ((if b then square_text n else []) ++ more) ≡ []
unfolding front
front_one n true more none = refl
front_one n false more none = none

front_squares : (n mask : ℕ) (more : List ℕ) → front more ≡ [] → front (squares_below n mask ++ more) ≡ []
unfolding squares_below
front_squares zero mask more none = none
front_squares (suc n) mask more none =
    ap front (append_assoc (squares_below n mask) (if bit_at mask n == 1 then square_text n else []) more)
    ∙ front_squares n mask ((if bit_at mask n == 1 then square_text n else []) ++ more) (front_one n (bit_at mask n == 1) more none)

front_hint : (hint : Option Hint) → front (hint_text hint) ≡ []
unfolding front
front_hint None = refl
front_hint (Some TurnedRound) = refl
front_hint (Some OtherBoard) = refl

-- a hint is known by a letter that neither the other one nor a square has
abbrev hint_by : Bool → Bool → Option Hint
hint_by true true = None
hint_by true false = Some OtherBoard
hint_by false b = Some TurnedRound

abbrev hint_read : List ℕ → Option Hint
hint_read text = hint_by (lacks 85 text) (lacks 66 text)

hint_is : (hint : Option Hint) → hint_read (hint_text hint) ≡ hint
hint_is None = refl
hint_is (Some TurnedRound) = refl
hint_is (Some OtherBoard) = refl

all_squares : 64 ≤ 64
all_squares = omega arith

squares_lack_feed : (mask : ℕ) → lacks 10 (squares_below 64 mask) ≡ true
squares_lack_feed mask = squares_lack 10 64 mask (λ s low. lacks_low 10 s (let h : 10 < 32 = omega arith in h) low) all_squares

squares_lack_u : (mask : ℕ) → lacks 85 (squares_below 64 mask) ≡ true
squares_lack_u mask =
    squares_lack 85 64 mask (λ s low. lacks_high 85 s (let h : 56 < 85 = omega arith in h) (let h : 85 < 97 = omega arith in h) low) all_squares

squares_lack_b : (mask : ℕ) → lacks 66 (squares_below 64 mask) ≡ true
squares_lack_b mask =
    squares_lack 66 64 mask (λ s low. lacks_high 66 s (let h : 56 < 66 = omega arith in h) (let h : 66 < 97 = omega arith in h) low) all_squares

hint_back : (mask : ℕ) (hint : Option Hint) → hint_read (squares_below 64 mask ++ hint_text hint) ≡ hint
hint_back mask hint =
    ap (λ b. hint_by b (lacks 66 (squares_below 64 mask ++ hint_text hint))) (lacks_front 85 (squares_below 64 mask) (hint_text hint) (squares_lack_u mask))
    ∙ ap (λ b. hint_by (lacks 85 (hint_text hint)) b) (lacks_front 66 (squares_below 64 mask) (hint_text hint) (squares_lack_b mask))
    ∙ hint_is hint

-- what stands behind the time of a state
abbrev tail_of : State → List ℕ
tail_of state = squares_below 64 state.squares ++ hint_text state.hint

-- a state's words behind the first one
body_is : (a b c d : List ℕ) → a ++ 32 ∷ [] ++ b ++ c ++ d ≡ a ++ 32 ∷ (b ++ (c ++ d))
body_is a b c d = append_assoc (a ++ 32 ∷ [] ++ b) c d ∙ append_assoc (a ++ 32 ∷ []) b (c ++ d) ∙ append_assoc a (32 ∷ []) (b ++ (c ++ d))

abbrev body_of : State → List ℕ
body_of state = kind_word state.kind ++ 32 ∷ (time_text state.since ++ tail_of state)

words_are : (state : State) → behind_six (state_words state) ≡ body_of state
words_are state = body_is (kind_word state.kind) (time_text state.since) (squares_below 64 state.squares) (hint_text state.hint)

front_tail : (state : State) → front (tail_of state) ≡ []
front_tail state = front_squares 64 state.squares (hint_text state.hint) (front_hint state.hint)

same_tail : (a b : State) → a.squares < 2 ^ 64 → b.squares < 2 ^ 64 → tail_of a ≡ tail_of b → (a.squares ≡ b.squares) × (a.hint ≡ b.hint)
same_tail a b f g e =
    let hint = sym (hint_back a.squares a.hint) ∙ ap hint_read e ∙ hint_back b.squares b.hint in
    let squares = append_cancel_right (squares_below 64 a.squares) (squares_below 64 b.squares) (hint_text b.hint)
    (ap (λ h. squares_below 64 a.squares ++ hint_text h) (sym hint) ∙ e) in
    (same_mask a.squares b.squares f g squares, hint)

state_same : (a b : State) → a.kind ≡ b.kind → a.since ≡ b.since → a.squares ≡ b.squares → a.hint ≡ b.hint → a ≡ b
state_same a b k s q h =
    ap (λ x. record a { kind = x }) k ∙ ap (λ x. record a { kind = b.kind; since = x }) s
    ∙ ap (λ x. record a { kind = b.kind; since = b.since; squares = x }) q ∙ ap (λ x. record b { hint = x }) h

pub same_state : (a b : State) → StateFits (Some a) → StateFits (Some b) → state_words a ≡ state_words b → a ≡ b
same_state a b f g e =
    let kinds = cut_once 32 (kind_word a.kind) (time_text a.since ++ tail_of a) (kind_word b.kind) (time_text b.since ++ tail_of b)
    (kind_lacks_blank a.kind) (kind_lacks_blank b.kind) (sym (words_are a) ∙ ap behind_six e ∙ words_are b) in
    let times = sym (front_is (time_text a.since) (tail_of a) (time_lacks_blank a.since f.0) (front_tail a)) ∙ ap front kinds.1
    ∙ front_is (time_text b.since) (tail_of b) (time_lacks_blank b.since g.0) (front_tail b) in
    let tails = append_cancel_left (time_text b.since) (tail_of a) (tail_of b) (ap (λ t. t ++ tail_of a) (sym times) ∙ kinds.1) in
    let parts = same_tail a b f.1 g.1 tails in
    state_same a b (same_kind a.kind b.kind kinds.0) (same_time a.since b.since f.0 g.0 times) parts.0 parts.1

hint_lacks_feed : (hint : Option Hint) → lacks 10 (hint_text hint) ≡ true
hint_lacks_feed None = refl
hint_lacks_feed (Some TurnedRound) = refl
hint_lacks_feed (Some OtherBoard) = refl

pub state_lacks_feed : (state : State) → StateFits (Some state) → lacks 10 (state_words state) ≡ true
state_lacks_feed state fits =
    let tail = lacks_append 10 (squares_below 64 state.squares) (hint_text state.hint) (squares_lack_feed state.squares) (hint_lacks_feed state.hint) in
    ap (lacks 10) (words_are state)
    ∙ lacks_append 10 (kind_word state.kind) (32 ∷ (time_text state.since ++ tail_of state)) (kind_lacks_feed state.kind)
    (lacks_append 10 (time_text state.since) (tail_of state) (time_lacks_feed state.since fits.0) tail)
