-- What can begin a text.
use Rattle.std.proofs.Common.{◌≡◌, ◌<◌, ◌≤◌, ◌+◌, ◌-◌, ◌^◌, ℕ, true, List, [], ◌∷◌, ◌++◌, Option, Some, None, decimal, length, suc, take, refl, sym, ap, ◌∙◌, subst, inl, inr, arith}
use Rattle.std.proofs.Math.Seq.{take-append_seam, take-append-add}
use Rattle.std.proofs.lemmas.Fmt.{length-decimal-le}
use Rattle.std.proofs.lemmas.List.{append_assoc, append-nil, length-append}
use Rattle.board_times.specs.declared.words.Word.{Word}
use Rattle.board_times.specs.declared.words.Word.TheVariants.{Version, Digest, Begin, Away, Opened, Answered, Gone, Called, Heard, Added, Brought, Stopped, Asked, Took, Over, Looked, Back, Reopened, Suspect, Wake, Lent, Number, Kept, Capture, Text}
use Rattle.board_times.specs.declared.lines.Line.{Line}
use Rattle.board_times.specs.Words.{word_text}
use Rattle.board_times.specs.Lines.{Fits, NumberFits, line_text, number_text, tail_text}
use Rattle.board_times.specs.Inside.Reading.{lacks}
use Rattle.board_times.proofs.LineLemmas.{no_line}
use Rattle.board_times.proofs.TextLemmas.{uncut}
use Rattle.live_lines.specs.declared.entries.Entry.{Entry}
use Rattle.live_lines.specs.Entries.{IsWhole, entry_line, entry_text, most, size_of}
use Rattle.live_lines.specs.declared.next.Next.{Next}
use Rattle.live_lines.specs.declared.next.Next.TheVariants.{Told, Waits, Wrong}
use Rattle.live_lines.specs.Next.{IsNext, IsUnfinished, IsWrong, Tells}
use Rattle.live_lines.specs.Inside.Reading.{entry_of}
use Rattle.live_lines.proofs.EntryLemmas.{entry_back, its_line, no_entry, same_entry, told_once}

-- A whole line that is none.
pub wrong_line : (text a b : List ℕ) → text ≡ a ++ 10 ∷ b → lacks 10 a ≡ true → ((line : Line) → Fits line → a ++ 10 ∷ [] ≡ line_text line → ⊥)
    → IsWrong text
wrong_line text a b cut h none later entry bytes more whole e =
    no_line (text ++ later) a (b ++ later) (ap (λ t. t ++ later) cut ∙ append_assoc a (10 ∷ b) later) h none
    (entry_line entry) (bytes ++ more) whole.0.0 (e ∙ append_assoc (line_text (entry_line entry)) bytes more)

-- the line of a text, with whatever comes
later_line : (text b later : List ℕ) (line : Line) (entry : Entry) (bytes more : List ℕ) → text ≡ line_text line ++ b → Fits line
    → IsWhole entry bytes → text ++ later ≡ entry_text entry bytes ++ more → (line ≡ entry_line entry)
later_line text b later line entry bytes more is fits whole e =
    let both = its_line line (b ++ later) entry bytes more fits whole
    (sym (append_assoc (line_text line) b later) ∙ ap (λ t. t ++ later) (sym is) ∙ e) in both.0

-- A line of no entry.
pub wrong_entry : (text b : List ℕ) (line : Line) → text ≡ line_text line ++ b → Fits line → entry_of line ≡ None → IsWrong text
wrong_entry text b line is fits none later entry bytes more whole e =
    no_entry entry (sym none ∙ ap entry_of (later_line text b later line entry bytes more is fits whole e) ∙ entry_back entry)

too_many : (m n : ℕ) → most < m → m ≡ n → n ≤ most → ⊥
too_many m n high e low = omega (arith, high, e, low)

-- More bytes than an entry can have.
pub wrong_size : (text b : List ℕ) (one : Entry) → text ≡ line_text (entry_line one) ++ b → Fits (entry_line one) → most < size_of one.what
    → IsWrong text
wrong_size text b one is fits high later entry bytes more whole e =
    let same = same_entry one entry (later_line text b later (entry_line one) entry bytes more is fits whole e) in
    too_many (size_of one.what) (size_of entry.what) high (ap (λ (it : Entry). size_of it.what) same) whole.0.1

short_word : (w : Word) → length (word_text w) ≤ 8
short_word Version = omega arith
short_word Digest = omega arith
short_word Begin = omega arith
short_word Away = omega arith
short_word Opened = omega arith
short_word Answered = omega arith
short_word Gone = omega arith
short_word Called = omega arith
short_word Heard = omega arith
short_word Added = omega arith
short_word Brought = omega arith
short_word Stopped = omega arith
short_word Asked = omega arith
short_word Took = omega arith
short_word Over = omega arith
short_word Looked = omega arith
short_word Back = omega arith
short_word Reopened = omega arith
short_word Suspect = omega arith
short_word Wake = omega arith
short_word Lent = omega arith
short_word Number = omega arith
short_word Kept = omega arith
short_word Capture = omega arith
short_word Text = omega arith

short_decimal : (n : ℕ) → n < 2 ^ 64 → length (decimal n) ≤ 20
short_decimal n fits =
    let some : 0 < 20 = omega arith in
    let high : n < 10 ^ 20 = omega (arith, fits) in
    length-decimal-le 20 n some high fits

short_number : (number : Option ℕ) → NumberFits number → length (number_text number) ≤ 21
short_number None fits = omega arith
short_number (Some n) fits = let few = short_decimal n fits in omega (arith, few)

all_short : (a b c d : ℕ) → a ≤ 20 → b ≤ 8 → c ≤ 21 → d ≡ b + c → a + suc d < 64
all_short a b c d f g h e = omega (arith, f, g, h, e)

-- what stands before the line feed
abbrev body_of : Line → List ℕ
body_of line = decimal line.first ++ 32 ∷ tail_text line.tail

short_body : (line : Line) → Fits line → length (body_of line) < 64
short_body line fits =
    let few = all_short (length (decimal line.first)) (length (word_text line.tail.word)) (length (number_text line.tail.number)) (length (tail_text line.tail))
    (short_decimal line.first fits.0) (short_word line.tail.word) (short_number line.tail.number fits.1)
    (length-append (word_text line.tail.word) (number_text line.tail.number)) in
    let S : ℕ → Type 0 = λ n. n < 64 in
    subst S (sym (length-append (decimal line.first) (32 ∷ tail_text line.tail))) few

room : (m n : ℕ) → m < n → n ≡ m + suc (n - (m + 1))
room m n less = omega (arith, less)

-- A text without a line feed is no longer than what stands before the first one that comes.
no_longer : (text later body rest : List ℕ) → lacks 10 text ≡ true → length body < length text → text ++ later ≡ body ++ 10 ∷ rest → ⊥
no_longer text later body rest h less e =
    let k : ℕ = length text - (length body + 1) in
    uncut 10 text body (take k rest) h
    (sym (take-append_seam text later) ∙ ap (take (length text)) e ∙ ap (λ n. take n (body ++ 10 ∷ rest)) (room (length body) (length text) less)
    ∙ take-append-add body (10 ∷ rest) (suc k))

shorter : (m n : ℕ) → m < 64 → 64 ≤ n → m < n
shorter m n low high = omega (arith, low, high)

-- the text of an entry, cut at its line feed
fed : (entry : Entry) (bytes more : List ℕ) → entry_text entry bytes ++ more ≡ body_of (entry_line entry) ++ 10 ∷ (bytes ++ more)
fed entry bytes more =
    append_assoc (line_text (entry_line entry)) bytes more ∙ append_assoc (body_of (entry_line entry)) (10 ∷ []) (bytes ++ more)

-- More bytes than a line has, and no line feed.
pub wrong_long : (text : List ℕ) → lacks 10 text ≡ true → 64 ≤ length text → IsWrong text
wrong_long text h long later entry bytes more whole e =
    no_longer text later (body_of (entry_line entry)) (bytes ++ more) h
    (shorter (length (body_of (entry_line entry))) (length text) (short_body (entry_line entry) whole.0.0) long) (e ∙ fed entry bytes more)

fewer : (p b m s : ℕ) → p < s → b ≡ s → p ≡ b + m → ⊥
fewer p b m s less e f = omega (arith, less, e, f)

-- While more is wanted, no entry begins the text.
pub waits : (text : List ℕ) (entry : Entry) (bytes more : List ℕ) → IsUnfinished text → IsWhole entry bytes
    → text ≡ entry_text entry bytes ++ more → ⊥
waits text entry bytes more (inl h) whole e = h.0 (body_of (entry_line entry)) (bytes ++ more) (e ∙ fed entry bytes more)
waits text entry bytes more (inr h) whole e =
    let one = h.0 in
    let part = h.1 in
    let once = its_line (entry_line one) part entry bytes more h.2.0 whole (sym h.3 ∙ e) in
    let same = same_entry one entry once.0 in
    fewer (length part) (length bytes) (length more) (size_of one.what) h.4 (whole.1 ∙ ap (λ (it : Entry). size_of it.what) (sym same))
    (ap length once.1 ∙ length-append bytes more)

-- What was written is told.
pub told : (entry : Entry) (bytes rest : List ℕ) (next : Next) → IsWhole entry bytes → IsNext (entry_text entry bytes ++ rest) next
    → Tells next entry bytes rest
told entry bytes rest (Told it) whole h = told_once it.entry entry it.bytes.now bytes it.rest.now rest h.0 whole (sym h.1)
told entry bytes rest Waits whole h = waits (entry_text entry bytes ++ rest) entry bytes rest h whole refl
told entry bytes rest Wrong whole h = h [] entry bytes rest whole (append-nil (entry_text entry bytes ++ rest))
