-- What a text that is cut at a blank or a line feed can be.
use Rattle.std.proofs.Common.{◌≡◌, ◌<◌, ◌^◌, ℕ, Bool, true, false, List, [], ◌∷◌, ◌++◌, Option, Some, None, decimal, refl, sym, ap, ◌∙◌, subst}
use Rattle.std.proofs.lemmas.List.{append_assoc, append-nil, append_cancel_right}
use Rattle.board_times.specs.declared.words.Word.{Word}
use Rattle.board_times.specs.declared.lines.Tail.{Tail}
use Rattle.board_times.specs.declared.lines.Line.{Line}
use Rattle.board_times.specs.Words.{word_text}
use Rattle.board_times.specs.Lines.{BeginsNoLine, Fits, NumberFits, line_text, number_text, tail_text}
use Rattle.board_times.proofs.TextLemmas.{body_lacks_feed, cut_once, decimal_lacks_blank, uncut, word_back, word_is, word_lacks_blank}
use Rattle.board_times.specs.Inside.Reading.{lacks, word_read}

-- the text of a word alone, and of a word with a number
pub tail_alone : (text : List ℕ) (word : Word) → word_read text ≡ Some word → text ≡ word_text word ++ []
tail_alone text word e = word_is text word e ∙ sym (append-nil (word_text word))

pub tail_numbered : (text a b : List ℕ) (word : Word) (n : ℕ) → text ≡ a ++ 32 ∷ b → word_read a ≡ Some word → b ≡ decimal n
    → text ≡ word_text word ++ 32 ∷ decimal n
tail_numbered text a b word n cut e is = cut ∙ ap (λ t. t ++ 32 ∷ b) (word_is a word e) ∙ ap (λ t. word_text word ++ 32 ∷ t) is

has_word : Option Word → Bool
has_word None = false
has_word (Some word) = true

no_word : (text : List ℕ) (word : Word) → word_read text ≡ None → text ≡ word_text word → ⊥
unfolding has_word
no_word text word none e = let never : false ≡ true = ap has_word (sym none ∙ ap word_read e ∙ word_back word) in cc

whole_by : (text : List ℕ) (word : Word) (number : Option ℕ) → lacks 32 text ≡ true → text ≡ word_text word ++ number_text number
    → text ≡ word_text word
whole_by text word None h e = e ∙ append-nil (word_text word)
whole_by text word (Some n) h e = absurd (uncut 32 text (word_text word) (decimal n) h e)

-- A text without a blank that is no word is no word and number.
pub no_tail : (text : List ℕ) (tail : Tail) → lacks 32 text ≡ true → word_read text ≡ None → text ≡ tail_text tail → ⊥
no_tail text tail h none e = no_word text tail.word none (whole_by text tail.word tail.number h e)

pub record CutTail (a b : List ℕ) (word : Word) (number : Option ℕ) : Type 0 where
  pub n : ℕ
  pub number_is : number ≡ Some n
  pub word_same : a ≡ word_text word
  pub text_is : b ≡ decimal n

cut_by : (text a b : List ℕ) (word : Word) (number : Option ℕ) → text ≡ a ++ 32 ∷ b → lacks 32 a ≡ true
    → text ≡ word_text word ++ number_text number → CutTail a b word number
cut_by text a b word None cut h e =
    absurd (uncut 32 (word_text word) a b (word_lacks_blank word) (sym (append-nil (word_text word)) ∙ sym e ∙ cut))
cut_by text a b word (Some n) cut h e =
    let once = cut_once 32 a b (word_text word) (decimal n) h (word_lacks_blank word) (sym cut ∙ e) in
    record { n = n; number_is = refl; word_same = once.0; text_is = once.1 }

pub no_tail_word : (text a b : List ℕ) (tail : Tail) → text ≡ a ++ 32 ∷ b → lacks 32 a ≡ true → word_read a ≡ None → text ≡ tail_text tail → ⊥
no_tail_word text a b tail cut h none e = no_word a tail.word none (cut_by text a b tail.word tail.number cut h e).word_same

pub no_tail_number : (text a b : List ℕ) (tail : Tail) → text ≡ a ++ 32 ∷ b → lacks 32 a ≡ true → NumberFits tail.number
    → ((n : ℕ) → n < 2 ^ 64 → b ≡ decimal n → ⊥) → text ≡ tail_text tail → ⊥
no_tail_number text a b tail cut h fits none e =
    let is = cut_by text a b tail.word tail.number cut h e in
    let number : NumberFits (Some is.n) = subst NumberFits is.number_is fits in
    none is.n number is.text_is

-- the text of a line without its line feed
body_of : (text : List ℕ) (line : Line) → text ++ 10 ∷ [] ≡ line_text line → text ≡ decimal line.first ++ 32 ∷ tail_text line.tail
body_of text line e = append_cancel_right text (decimal line.first ++ 32 ∷ tail_text line.tail) (10 ∷ []) e

pub no_blank : (text : List ℕ) (line : Line) → lacks 32 text ≡ true → text ++ 10 ∷ [] ≡ line_text line → ⊥
no_blank text line h e = uncut 32 text (decimal line.first) (tail_text line.tail) h (body_of text line e)

pub cut_line : (text a b : List ℕ) (line : Line) → text ≡ a ++ 32 ∷ b → lacks 32 a ≡ true → Fits line → text ++ 10 ∷ [] ≡ line_text line
    → (a ≡ decimal line.first) × (b ≡ tail_text line.tail)
cut_line text a b line cut h fits e =
    cut_once 32 a b (decimal line.first) (tail_text line.tail) h (decimal_lacks_blank line.first fits.0) (sym cut ∙ body_of text line e)

-- A line's text with what follows it, cut at the line feed.
fed : (line : Line) (more : List ℕ) → line_text line ++ more ≡ (decimal line.first ++ 32 ∷ tail_text line.tail) ++ 10 ∷ more
fed line more = append_assoc (decimal line.first ++ 32 ∷ tail_text line.tail) (10 ∷ []) more

pub no_feed : (text : List ℕ) → lacks 10 text ≡ true → BeginsNoLine text
no_feed text h line more fits e = uncut 10 text (decimal line.first ++ 32 ∷ tail_text line.tail) more h (e ∙ fed line more)

pub no_line : (text a b : List ℕ) → text ≡ a ++ 10 ∷ b → lacks 10 a ≡ true → ((line : Line) → Fits line → a ++ 10 ∷ [] ≡ line_text line → ⊥)
    → BeginsNoLine text
no_line text a b cut h none line more fits e =
    let once = cut_once 10 a b (decimal line.first ++ 32 ∷ tail_text line.tail) more h (body_lacks_feed line fits) (sym cut ∙ e ∙ fed line more) in
    none line fits (ap (λ t. t ++ 10 ∷ []) once.0)

pub a_line : (text a b : List ℕ) (line : Line) → text ≡ a ++ 10 ∷ b → a ++ 10 ∷ [] ≡ line_text line → text ≡ line_text line ++ b
a_line text a b line cut e = cut ∙ sym (append_assoc a (10 ∷ []) b) ∙ ap (λ t. t ++ b) e

pub a_body : (text a b : List ℕ) (first : ℕ) (tail : Tail) → text ≡ a ++ 32 ∷ b → a ≡ decimal first → b ≡ tail_text tail
    → text ++ 10 ∷ [] ≡ line_text (record { first = first; tail = tail })
a_body text a b first tail cut e f = ap (λ t. t ++ 10 ∷ []) (cut ∙ ap (λ x. x ++ 32 ∷ b) e ∙ ap (λ y. decimal first ++ 32 ∷ y) f)

pub a_tail : (text a b : List ℕ) (word : Word) (n : ℕ) → text ≡ a ++ 32 ∷ b → word_read a ≡ Some word → b ≡ decimal n
    → text ≡ tail_text (record { word = word; number = Some n })
a_tail text a b word n cut e f = cut ∙ ap (λ x. x ++ 32 ∷ b) (word_is a word e) ∙ ap (λ y. word_text word ++ 32 ∷ y) f
