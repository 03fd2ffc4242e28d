-- Texts that are cut at their first blank or line feed, and numbers in them.
use Rattle.std.proofs.Common.{◌≡◌, ◌<◌, ◌≤◌, ◌^◌, ◌&&◌, ◌==◌, not, ℕ, Bool, true, false, List, [], ◌∷◌, ◌++◌, Option, Some, None, decimal, refl, sym, ap, ◌∙◌, inl, inr, arith}
use Rattle.std.specs.Prelude.{codes, if◌then◌else◌}
use Rattle.std.specs.Str.{bytes_eq}
use Rattle.std.proofs.lemmas.Slice.Eq.{bytes_eq-Decides}
use Rattle.std.specs.Str.Parse.{AllDigits}
use Rattle.std.specs.Char.{digit_value}
use Rattle.std.proofs.lemmas.Bool.{and_parts, cases_eq, eq-eqb, ne_eqb}
use Rattle.std.proofs.lemmas.Fmt.{decimal_injective, decimal_is_IsNumeral}
use Rattle.std.proofs.lemmas.List.{append_assoc, append-nil}
use Rattle.board_times.specs.declared.words.Word.{Word}
use Rattle.board_times.specs.declared.words.Word.TheVariants.{Version, Digest, Begin, Away, Opened, Answered, Gone, Called, Heard, Added, Brought, Stopped, Asked, Took, Over, Looked, Back, Reopened, Suspect, Wake, Lent, Number, Kept, Capture, Text}
use Rattle.board_times.specs.declared.lines.Tail.{Tail}
use Rattle.board_times.specs.declared.lines.Line.{Line}
use Rattle.board_times.specs.Words.{word_text}
use Rattle.board_times.specs.Lines.{Fits, NumberFits, line_text, number_text, tail_text}
use Rattle.board_times.specs.Inside.Reading.{lacks, word_read}

head_or : ℕ → List ℕ → ℕ
head_or n [] = n
head_or n (x ∷ xs) = x

rest_of : List ℕ → List ℕ
rest_of [] = []
rest_of (x ∷ xs) = xs

head_eq : (x y : ℕ) (xs ys : List ℕ) → x ∷ xs ≡ y ∷ ys → x ≡ y
unfolding head_or
head_eq x y xs ys e = ap (head_or x) e

rest_eq : (x y : ℕ) (xs ys : List ℕ) → x ∷ xs ≡ y ∷ ys → xs ≡ ys
unfolding rest_of
rest_eq x y xs ys e = ap rest_of e

-- a byte that a text lacks is not its first
not_first : (s x : ℕ) (xs : List ℕ) → lacks s (x ∷ xs) ≡ true → s ≡ x → ⊥
not_first s x xs h e =
    let both = and_parts (not (x == s)) (lacks s xs) h in
    let never : false ≡ true = sym (ap not (eq-eqb x s (sym e))) ∙ both.0 in cc

-- A text is cut at its first separator in one way.
pub cut_once : (s : ℕ) (a b c d : List ℕ) → lacks s a ≡ true → lacks s c ≡ true → a ++ s ∷ b ≡ c ++ s ∷ d → (a ≡ c) × (b ≡ d)
cut_once s [] b [] d h k e = (refl, rest_eq s s b d e)
cut_once s [] b (y ∷ c) d h k e = absurd (not_first s y c k (head_eq s y b (c ++ s ∷ d) e))
cut_once s (x ∷ a) b [] d h k e = absurd (not_first s x a h (sym (head_eq x s (a ++ s ∷ b) d e)))
cut_once s (x ∷ a) b (y ∷ c) d h k e =
    let left = and_parts (not (x == s)) (lacks s a) h in
    let right = and_parts (not (y == s)) (lacks s c) k in
    let same = head_eq x y (a ++ s ∷ b) (c ++ s ∷ d) e in
    let more = cut_once s a b c d left.1 right.1 (rest_eq x y (a ++ s ∷ b) (c ++ s ∷ d) e) in (
      ap (λ z. z ∷ a) same ∙ ap (λ zs. y ∷ zs) more.0,
      more.1,
    )

is_empty : List ℕ → Bool
is_empty [] = true
is_empty (x ∷ xs) = false

no_cons : (x : ℕ) (xs : List ℕ) → [] ≡ x ∷ xs → ⊥
unfolding is_empty
no_cons x xs e = let never : true ≡ false = ap is_empty e in cc

-- A text that lacks the separator isn't cut.
pub uncut : (s : ℕ) (text a b : List ℕ) → lacks s text ≡ true → text ≡ a ++ s ∷ b → ⊥
uncut s [] [] b h e = absurd (no_cons s b e)
uncut s [] (y ∷ a) b h e = absurd (no_cons y (a ++ s ∷ b) e)
uncut s (x ∷ text) [] b h e = not_first s x text h (sym (head_eq x s text b e))
uncut s (x ∷ text) (y ∷ a) b h e =
    let both = and_parts (not (x == s)) (lacks s text) h in
    uncut s text a b both.1 (rest_eq x y text (a ++ s ∷ b) e)

pub lacks_append : (s : ℕ) (a b : List ℕ) → lacks s a ≡ true → lacks s b ≡ true → lacks s (a ++ b) ≡ true
lacks_append s [] b h k = k
lacks_append s (x ∷ a) b h k =
    let both = and_parts (not (x == s)) (lacks s a) h in
    ap (λ p. p && lacks s (a ++ b)) both.0 ∙ lacks_append s a b both.1 k

too_high : (x y : ℕ) → x ≡ y → x < 10 → 10 ≤ y → ⊥
too_high x y e low high = omega (arith, e, low, high)

lacks_digits : (s : ℕ) (digits : List ℕ) → 10 ≤ digit_value s → AllDigits 10 digits → lacks s digits ≡ true
lacks_digits s [] high all = refl
lacks_digits s (c ∷ digits) high all =
    elim (cases_eq c s) [
      | inl e ↦ absurd (too_high (digit_value c) (digit_value s) (ap digit_value e) all.0 high)
      | inr ne ↦ ap (λ b. not b && lacks s digits) (ne_eqb c s ne) ∙ lacks_digits s digits high all.1
    ]

pub decimal_lacks_blank : (n : ℕ) → n < 2 ^ 64 → lacks 32 (decimal n) ≡ true
decimal_lacks_blank n fits = lacks_digits 32 (decimal n) (let high : 10 ≤ 36 = omega arith in high) (decimal_is_IsNumeral n fits).0.1

decimal_lacks_feed : (n : ℕ) → n < 2 ^ 64 → lacks 10 (decimal n) ≡ true
decimal_lacks_feed n fits = lacks_digits 10 (decimal n) (let high : 10 ≤ 36 = omega arith in high) (decimal_is_IsNumeral n fits).0.1

pub word_back : (word : Word) → word_read (word_text word) ≡ Some word
word_back Version = refl
word_back Digest = refl
word_back Begin = refl
word_back Away = refl
word_back Opened = refl
word_back Answered = refl
word_back Gone = refl
word_back Called = refl
word_back Heard = refl
word_back Added = refl
word_back Brought = refl
word_back Stopped = refl
word_back Asked = refl
word_back Took = refl
word_back Over = refl
word_back Looked = refl
word_back Back = refl
word_back Reopened = refl
word_back Suspect = refl
word_back Wake = refl
word_back Lent = refl
word_back Number = refl
word_back Kept = refl
word_back Capture = refl
word_back Text = refl

pub word_lacks_blank : (word : Word) → lacks 32 (word_text word) ≡ true
word_lacks_blank Version = refl
word_lacks_blank Digest = refl
word_lacks_blank Begin = refl
word_lacks_blank Away = refl
word_lacks_blank Opened = refl
word_lacks_blank Answered = refl
word_lacks_blank Gone = refl
word_lacks_blank Called = refl
word_lacks_blank Heard = refl
word_lacks_blank Added = refl
word_lacks_blank Brought = refl
word_lacks_blank Stopped = refl
word_lacks_blank Asked = refl
word_lacks_blank Took = refl
word_lacks_blank Over = refl
word_lacks_blank Looked = refl
word_lacks_blank Back = refl
word_lacks_blank Reopened = refl
word_lacks_blank Suspect = refl
word_lacks_blank Wake = refl
word_lacks_blank Lent = refl
word_lacks_blank Number = refl
word_lacks_blank Kept = refl
word_lacks_blank Capture = refl
word_lacks_blank Text = refl

word_lacks_feed : (word : Word) → lacks 10 (word_text word) ≡ true
word_lacks_feed Version = refl
word_lacks_feed Digest = refl
word_lacks_feed Begin = refl
word_lacks_feed Away = refl
word_lacks_feed Opened = refl
word_lacks_feed Answered = refl
word_lacks_feed Gone = refl
word_lacks_feed Called = refl
word_lacks_feed Heard = refl
word_lacks_feed Added = refl
word_lacks_feed Brought = refl
word_lacks_feed Stopped = refl
word_lacks_feed Asked = refl
word_lacks_feed Took = refl
word_lacks_feed Over = refl
word_lacks_feed Looked = refl
word_lacks_feed Back = refl
word_lacks_feed Reopened = refl
word_lacks_feed Suspect = refl
word_lacks_feed Wake = refl
word_lacks_feed Lent = refl
word_lacks_feed Number = refl
word_lacks_feed Kept = refl
word_lacks_feed Capture = refl
word_lacks_feed Text = refl

text_or : List ℕ → Option Word → List ℕ
text_or text None = text
text_or text (Some word) = word_text word

text_step : (text : List ℕ) (b : Bool) (word : Word) (other : Option Word) → (b ≡ true → text ≡ word_text word) → text_or text other ≡ text
    → text_or text (if b then Some word else other) ≡ text
unfolding text_or
text_step text true word other h e = sym (h refl)
text_step text false word other h e = e

word_text_read : (text : List ℕ) → text_or text (word_read text) ≡ text
unfolding text_or
word_text_read text =
    text_step text (bytes_eq text (codes "times")) Version _ (bytes_eq-Decides text (codes "times")).0 (
    text_step text (bytes_eq text (codes "digest")) Digest _ (bytes_eq-Decides text (codes "digest")).0 (
    text_step text (bytes_eq text (codes "begin")) Begin _ (bytes_eq-Decides text (codes "begin")).0 (
    text_step text (bytes_eq text (codes "away")) Away _ (bytes_eq-Decides text (codes "away")).0 (
    text_step text (bytes_eq text (codes "opened")) Opened _ (bytes_eq-Decides text (codes "opened")).0 (
    text_step text (bytes_eq text (codes "answered")) Answered _ (bytes_eq-Decides text (codes "answered")).0 (
    text_step text (bytes_eq text (codes "gone")) Gone _ (bytes_eq-Decides text (codes "gone")).0 (
    text_step text (bytes_eq text (codes "called")) Called _ (bytes_eq-Decides text (codes "called")).0 (
    text_step text (bytes_eq text (codes "heard")) Heard _ (bytes_eq-Decides text (codes "heard")).0 (
    text_step text (bytes_eq text (codes "added")) Added _ (bytes_eq-Decides text (codes "added")).0 (
    text_step text (bytes_eq text (codes "brought")) Brought _ (bytes_eq-Decides text (codes "brought")).0 (
    text_step text (bytes_eq text (codes "stopped")) Stopped _ (bytes_eq-Decides text (codes "stopped")).0 (
    text_step text (bytes_eq text (codes "asked")) Asked _ (bytes_eq-Decides text (codes "asked")).0 (
    text_step text (bytes_eq text (codes "took")) Took _ (bytes_eq-Decides text (codes "took")).0 (
    text_step text (bytes_eq text (codes "over")) Over _ (bytes_eq-Decides text (codes "over")).0 (
    text_step text (bytes_eq text (codes "ok")) Looked _ (bytes_eq-Decides text (codes "ok")).0 (
    text_step text (bytes_eq text (codes "back")) Back _ (bytes_eq-Decides text (codes "back")).0 (
    text_step text (bytes_eq text (codes "reopened")) Reopened _ (bytes_eq-Decides text (codes "reopened")).0 (
    text_step text (bytes_eq text (codes "suspect")) Suspect _ (bytes_eq-Decides text (codes "suspect")).0 (
    text_step text (bytes_eq text (codes "wake")) Wake _ (bytes_eq-Decides text (codes "wake")).0 (
    text_step text (bytes_eq text (codes "lent")) Lent _ (bytes_eq-Decides text (codes "lent")).0 (
    text_step text (bytes_eq text (codes "number")) Number _ (bytes_eq-Decides text (codes "number")).0 (
    text_step text (bytes_eq text (codes "kept")) Kept _ (bytes_eq-Decides text (codes "kept")).0 (
    text_step text (bytes_eq text (codes "capture")) Capture _ (bytes_eq-Decides text (codes "capture")).0 (
    text_step text (bytes_eq text (codes "text")) Text _ (bytes_eq-Decides text (codes "text")).0 (
    refl)))))))))))))))))))))))))

pub word_is : (text : List ℕ) (word : Word) → word_read text ≡ Some word → text ≡ word_text word
unfolding text_or
word_is text word e = sym (word_text_read text) ∙ ap (text_or text) e

some_or : Word → Option Word → Word
some_or v None = v
some_or v (Some w) = w

some_eq : (v w : Word) → Some v ≡ Some w → v ≡ w
unfolding some_or
some_eq v w e = ap (some_or v) e

-- words with the same text are the same
pub same_word : (v w : Word) → word_text v ≡ word_text w → v ≡ w
same_word v w e = some_eq v w (sym (word_back v) ∙ ap word_read e ∙ word_back w)

number_lacks_feed : (number : Option ℕ) → NumberFits number → lacks 10 (number_text number) ≡ true
number_lacks_feed None fits = refl
number_lacks_feed (Some n) fits = decimal_lacks_feed n fits

pub tail_lacks_feed : (tail : Tail) → NumberFits tail.number → lacks 10 (tail_text tail) ≡ true
tail_lacks_feed tail fits =
    lacks_append 10 (word_text tail.word) (number_text tail.number) (word_lacks_feed tail.word) (number_lacks_feed tail.number fits)

pub body_lacks_feed : (line : Line) → Fits line → lacks 10 (decimal line.first ++ 32 ∷ tail_text line.tail) ≡ true
body_lacks_feed line fits =
    lacks_append 10 (decimal line.first) (32 ∷ tail_text line.tail) (decimal_lacks_feed line.first fits.0) (tail_lacks_feed line.tail fits.1)

-- Tails with the same text are the same.
same_tail_by : (v w : Word) (m n : Option ℕ) → NumberFits m → NumberFits n → word_text v ++ number_text m ≡ word_text w ++ number_text n
    → (v ≡ w) × (m ≡ n)
same_tail_by v w None None f g e = (same_word v w (sym (append-nil (word_text v)) ∙ e ∙ append-nil (word_text w)), refl)
same_tail_by v w None (Some n) f g e =
    absurd (uncut 32 (word_text v) (word_text w) (decimal n) (word_lacks_blank v) (sym (append-nil (word_text v)) ∙ e))
same_tail_by v w (Some m) None f g e =
    absurd (uncut 32 (word_text w) (word_text v) (decimal m) (word_lacks_blank w) (sym (append-nil (word_text w)) ∙ sym e))
same_tail_by v w (Some m) (Some n) f g e =
    let cut = cut_once 32 (word_text v) (decimal m) (word_text w) (decimal n) (word_lacks_blank v) (word_lacks_blank w) e in (
      same_word v w cut.0,
      ap (λ k. Some k) (decimal_injective m n f g cut.1),
    )

pub same_tail : (t u : Tail) → NumberFits t.number → NumberFits u.number → tail_text t ≡ tail_text u → t ≡ u
same_tail t u f g e =
    let same = same_tail_by t.word u.word t.number u.number f g e in
    ap (λ w. let x : Tail = record { word = w; number = t.number } in x) same.0
    ∙ ap (λ n. let x : Tail = record { word = u.word; number = n } in x) same.1

-- A line that begins a text is the only one.
pub line_once : (l m : Line) (a b : List ℕ) → Fits l → Fits m → line_text l ++ a ≡ line_text m ++ b → (l ≡ m) × (a ≡ b)
line_once l m a b f g e =
    let feed = cut_once 10 (decimal l.first ++ 32 ∷ tail_text l.tail) a (decimal m.first ++ 32 ∷ tail_text m.tail) b
    (body_lacks_feed l f) (body_lacks_feed m g)
    (sym (append_assoc (decimal l.first ++ 32 ∷ tail_text l.tail) (10 ∷ []) a) ∙ e
    ∙ append_assoc (decimal m.first ++ 32 ∷ tail_text m.tail) (10 ∷ []) b) in
    let blank = cut_once 32 (decimal l.first) (tail_text l.tail) (decimal m.first) (tail_text m.tail)
    (decimal_lacks_blank l.first f.0) (decimal_lacks_blank m.first g.0) feed.0 in
    let first = decimal_injective l.first m.first f.0 g.0 blank.0 in
    let tail = same_tail l.tail m.tail f.1 g.1 blank.1 in (
      ap (λ n. let x : Line = record { first = n; tail = l.tail } in x) first
          ∙ ap (λ t. let x : Line = record { first = m.first; tail = t } in x) tail,
      feed.1,
    )
