-- The text of lines tells the lines.
use Rattle.std.proofs.Common.{◌≡◌, ◌∙◌, ℕ, zero, suc, ◌+◌, ◌/◌, ◌%◌, ◌<◌, ◌≤◌, ◌==◌, Bool, true, false, List, [], ◌∷◌, ◌++◌, inl, inr, length, codes, slice_index, Option, Some, None, ap, refl, sym, subst, append_assoc, append-nil, length-append, arith}
use Rattle.std.specs.Prelude.{⊤, decimal, if◌then◌else◌, nat_lt}
use Rattle.std.specs.Fmt.{digit_glyph, digits, digits_onto}
use Rattle.std.specs.List.{AllByRecursion}
use Rattle.std.proofs.lemmas.Bool.{ltb-true}
use Rattle.std.proofs.lemmas.Fmt.{decimal_injective}
use Rattle.std.proofs.lemmas.List.{append_cancel_left, append_cancel_right}
use Rattle.std.proofs.lemmas.List.Elements.{recursion_from_All}
use Rattle.chess_rules.specs.declared.parts.Parts.{Parts}
use Rattle.chess_rules.specs.declared.pieces.Side.{Side}
use Rattle.chess_rules.specs.declared.pieces.Side.TheVariants.{White, Black}
use Rattle.chess_rules.specs.Picture.{picture}
use Rattle.chess_rules.specs.Valid.{Valid}
use Rattle.chess_text.specs.Laws.{IsSanByte, TextsArePlain}
use Rattle.chess_text.specs.Squares.{square_text}
use Rattle.chess_text.proofs.FenTexts.{All-append}
use Rattle.chess_clock.specs.declared.Hms.{Hms}
use Rattle.dgt_frame.specs.declared.events.FaultKind.{FaultKind}
use Rattle.dgt_frame.specs.declared.events.FaultKind.TheVariants.{Cut, Stray, Size, Data}
use Rattle.settle_core.specs.declared.plies.Outcome.{Outcome}
use Rattle.settle_core.specs.declared.plies.Outcome.TheVariants.{WhiteWins, BlackWins, Drawn}
use Rattle.settle_core.specs.declared.plies.Ply.{Ply}
use Rattle.settle_core.specs.Folding.{moves_of}
use Rattle.settle_core.specs.Settling.{Played, reached}
use Rattle.settle_core.proofs.Stages.{valid_reached}
use Rattle.pgn_book.specs.Movetext.{number_token}
use Rattle.board_events.specs.Limits.{limit}
use Rattle.board_listing.specs.EventLines.{kind_text, rest_line}
use Rattle.board_listing.specs.GameLines.{clock_words, differing, result_words, squares_text, waiting_words}
use Rattle.board_listing.specs.GivenGame.{AreInStream, ChangesGame, CorrectsPly, EndsLines, GameLine, Gives, IsOther, LinesGiveOneGame, TellsLegal, TextTellsTheGame, TextTellsTheLines, text_of}
use Rattle.board_listing.proofs.OnceLemmas.{apart, gives_played}
use Rattle.board_listing.proofs.SquareLemmas.{all_squares, differing_more, told}

-- ---- the bytes of a line

-- no control character, and so no LF
abbrev pub IsPrinted : ℕ → Type 0
IsPrinted byte = 31 < byte

abbrev pub Printed : List ℕ → Type 0
Printed text = AllByRecursion IsPrinted text

pub both : (xs ys : List ℕ) → Printed xs → Printed ys → Printed (xs ++ ys)
both xs ys h k = All-append IsPrinted xs ys h k

abbrev pub are_printed : List ℕ → Bool
are_printed [] = true
are_printed (byte ∷ bytes) = if nat_lt 31 byte then are_printed bytes else false

if_both : (b c : Bool) → (if b then c else false) ≡ true → (b ≡ true) × (c ≡ true)
if_both true c e = (refl, e)
if_both false c e = absurd (cc)

pub fixed : (text : List ℕ) → are_printed text ≡ true → Printed text
fixed [] e = tt
fixed (byte ∷ bytes) e =
    let parts = if_both (nat_lt 31 byte) (are_printed bytes) e in
    (ltb-true 31 byte parts.0, fixed bytes parts.1)

-- a digit, and what is known of other bytes that a number never has
abbrev IsDigit : ℕ → Type 0
IsDigit byte = (32 < byte) × (byte < 114)

glyph : (low : Bool) (d : ℕ) → d < 10 → IsDigit (if low then 48 + d else 87 + d)
glyph true d lt = (omega (arith, lt), omega (arith, lt))
glyph false d lt = (omega (arith, lt), omega (arith, lt))

one_of : (first : Bool) (xs ys : List ℕ) → AllByRecursion IsDigit xs → AllByRecursion IsDigit ys → AllByRecursion IsDigit (if first then xs else ys)
one_of true xs ys h k = h
one_of false xs ys h k = k

onto_digits : (k n : ℕ) (text : List ℕ) → AllByRecursion IsDigit text → AllByRecursion IsDigit (digits_onto k 10 false n text)
onto_digits zero n text h = h
onto_digits (suc k) n text h =
    let more = digit_glyph false (n % 10) ∷ text in
    let digit : IsDigit (digit_glyph false (n % 10)) = glyph (nat_lt (n % 10) 10) (n % 10) (omega arith) in
    let next : AllByRecursion IsDigit more = (digit, h) in
    one_of (n / 10 == 0) more (digits_onto k 10 false (n / 10) more) next (onto_digits k (n / 10) more next)

decimal_digits : (n : ℕ) → AllByRecursion IsDigit (decimal n)
unfolding digits
decimal_digits n = onto_digits 64 n [] tt

pub weaker : (P Q : ℕ → Type 0) → ((byte : ℕ) → P byte → Q byte) → (text : List ℕ) → AllByRecursion P text → AllByRecursion Q text
weaker P Q on [] h = tt
weaker P Q on (byte ∷ bytes) h = (on byte h.0, weaker P Q on bytes h.1)

san_byte : (byte : ℕ) → IsSanByte byte → IsPrinted byte
san_byte byte is =
    let low : 32 < byte = is.0 in
    omega (arith, low)

san_printed : (text : List ℕ) → AllByRecursion IsSanByte text → Printed text
san_printed text h = weaker IsSanByte IsPrinted san_byte text h

digit_byte : (byte : ℕ) → IsDigit byte → IsSanByte byte
digit_byte byte is =
    let low : 32 < byte = is.0 in
    let high : byte < 114 = is.1 in
    (low, omega (arith, high))

number_plain : (n : ℕ) → AllByRecursion IsSanByte (decimal n)
number_plain n = weaker IsDigit IsSanByte digit_byte (decimal n) (decimal_digits n)

number_printed : (n : ℕ) → Printed (decimal n)
number_printed n = san_printed (decimal n) (number_plain n)

token_printed : (side : Side) (n : ℕ) → Printed (number_token side n)
token_printed White n = both (decimal n) (codes ".") (number_printed n) (fixed (codes ".") refl)
token_printed Black n = both (decimal n) (codes "...") (number_printed n) (fixed (codes "...") refl)

pub clock_printed : (clock : Option Hms) → Printed (clock_words clock)
clock_printed None = tt
clock_printed (Some time) = (omega arith, (omega arith, (omega arith, (omega arith, (omega arith, (omega arith, (omega arith, (omega arith, tt))))))))

pub result_printed : (result : Option Outcome) → Printed (result_words result)
result_printed None = fixed (codes "result *") refl
result_printed (Some WhiteWins) = fixed (codes "result 1-0") refl
result_printed (Some BlackWins) = fixed (codes "result 0-1") refl
result_printed (Some Drawn) = fixed (codes "result 1/2-1/2") refl

pub fault_printed : (kind : FaultKind) → Printed (codes "fault " ++ kind_text kind)
fault_printed Cut = fixed (codes "fault cut") refl
fault_printed Stray = fixed (codes "fault stray") refl
fault_printed Size = fixed (codes "fault size") refl
fault_printed Data = fixed (codes "fault data") refl

square_printed : (same : Bool) (s : ℕ) → s < 64 → Printed (if same then [] else 32 ∷ square_text s)
square_printed true s low = tt
square_printed false s low = (omega arith, (omega arith, (omega (arith, low), tt)))

differing_printed : (n : ℕ) (stands seen : List ℕ) → n ≤ 64 → Printed (differing n stands seen)
differing_printed zero stands seen low = tt
differing_printed (suc n) stands seen low =
    let on : n + 1 ≡ suc n = omega arith in
    let next = differing_more n stands seen in
    let whole : Printed (differing n stands seen ++ told stands seen n) =
    both (differing n stands seen) (told stands seen n) (differing_printed n stands seen (omega (arith, low)))
    (square_printed (slice_index stands n == slice_index seen n) n (omega (arith, low))) in
    subst (λ k. Printed (differing k stands seen)) on (subst Printed (sym next) whole)

pub squares_printed : (stands seen : List ℕ) → Printed (squares_text stands seen)
squares_printed stands seen = subst Printed (all_squares stands seen) (differing_printed 64 stands seen (omega arith))

pub waiting_printed : (squares : List ℕ) → Printed squares → Printed (waiting_words squares)
waiting_printed [] h = fixed (codes "agrees") refl
waiting_printed (byte ∷ bytes) h = both (codes "differs") (byte ∷ bytes) (fixed (codes "differs") refl) h

other_printed : (p : Parts) (words : List ℕ) → IsOther p words → Printed words
other_printed p words (inl (shown, is)) =
    subst Printed (sym is) (waiting_printed (squares_text (picture p) shown) (squares_printed (picture p) shown))
other_printed p words (inr (kind, is)) = subst Printed (sym is) (fault_printed kind)

pub ply_printed : TextsArePlain → (start : Parts) (before : List Ply) (word words : List ℕ) (ply : Ply) → Printed word → Valid (reached start (moves_of before))
    → TellsLegal start before word ply words → Printed words
ply_printed plain start before word words ply h valid t =
    let p = reached start (moves_of before) in
    let space : Printed (codes " ") = fixed (codes " ") refl in
    let number = token_printed p.side p.fullmove in
    let san = san_printed t.san (recursion_from_All IsSanByte t.san (plain p ply.mv t.san valid t.legal t.san_is).bytes) in
    let first = both (word ++ codes " ") (number_token p.side p.fullmove) (both word (codes " ") h space) number in
    let second = both (word ++ codes " " ++ number_token p.side p.fullmove) (codes " ") first space in
    let third = both (word ++ codes " " ++ number_token p.side p.fullmove ++ codes " ") t.san second san in
    subst Printed (sym t.words_are) (both (word ++ codes " " ++ number_token p.side p.fullmove ++ codes " " ++ t.san) (clock_words ply.clock) third (clock_printed ply.clock))

corrected_printed : TextsArePlain → (start : Parts) (before : List Ply) (words : List ℕ) (after : List Ply) → Valid start → Played start (moves_of before)
    → CorrectsPly start before words after → Printed words
corrected_printed plain start [] words after valid played h = absurd h
corrected_printed plain start (last ∷ earlier) words after valid played (ply, is, t) =
    ply_printed plain start earlier (codes "correction") words ply (fixed (codes "correction") refl) (valid_reached start (moves_of earlier) valid played.1) t

pub words_printed : TextsArePlain → (start : Parts) (before : List Ply) (old : Option Outcome) (words : List ℕ) (after : List Ply) (new : Option Outcome)
    → Valid start → Played start (moves_of before) → ChangesGame start words before old after new → Printed words
words_printed plain start before old words after new valid played (inl ((ply, is, t), same)) =
    ply_printed plain start before (codes "move") words ply (fixed (codes "move") refl) (valid_reached start (moves_of before) valid played) t
words_printed plain start before old words after new valid played (inr (inl h)) = corrected_printed plain start before words after valid played h.0
words_printed plain start before old words after new valid played (inr (inr (inl h))) = subst Printed (sym h.1) (result_printed new)
words_printed plain start before old words after new valid played (inr (inr (inr h))) = other_printed (reached start (moves_of before)) words h.2

-- What is known of each line.
abbrev pub IsLine : GameLine → Type 0
IsLine told = (told.offset < limit) × Printed told.words

pub are_lines : TextsArePlain → (start : Parts) (lines : List GameLine) (plies : List Ply) (result : Option Outcome) → Valid start
    → Gives start lines plies result → AreInStream lines → AllByRecursion IsLine lines
are_lines plain start [] plies result valid h short = tt
are_lines plain start (told ∷ earlier) plies result valid (before, old, gives, changes) short = (
  (short.0, words_printed plain start before old told.words plies result valid (gives_played start earlier before old gives) changes),
  are_lines plain start earlier before old valid gives short.1,
)

-- ---- a text, line by line from its end

-- no byte, or LF at the end
abbrev Whole : List ℕ → Type 0
Whole [] = ⊤
Whole (byte ∷ []) = byte ≡ 10
Whole (byte ∷ next ∷ bytes) = Whole (next ∷ bytes)

whole_tail : (byte : ℕ) (text : List ℕ) → Whole (byte ∷ text) → Whole text
whole_tail byte [] h = tt
whole_tail byte (next ∷ text) h = h

whole_end : (text : List ℕ) → Whole (text ++ 10 ∷ [])
whole_end [] = refl
whole_end (byte ∷ []) = refl
whole_end (byte ∷ next ∷ text) = whole_end (next ∷ text)

never_whole : (byte : ℕ) (text more : List ℕ) → Whole (byte ∷ text) → Printed (byte ∷ (text ++ more)) → ⊥
never_whole byte [] more h printed =
    let end : byte ≡ 10 = h in
    let low : 31 < byte = printed.0 in
    omega (arith, end, low)
never_whole byte (next ∷ text) more h printed = never_whole next text more h printed.1

last_apart : (a b x y : List ℕ) → Whole a → Whole b → Printed x → Printed y → a ++ x ≡ b ++ y → (a ≡ b) × (x ≡ y)
last_apart [] [] x y ha hb hx hy e = (refl, e)
last_apart [] (b ∷ others) x y ha hb hx hy e = absurd (never_whole b others y hb (subst Printed e hx))
last_apart (a ∷ front) [] x y ha hb hx hy e = absurd (never_whole a front x ha (subst Printed (sym e) hy))
last_apart (a ∷ front) (b ∷ others) x y ha hb hx hy e =
    let head : a ≡ b = cc in
    let tail : front ++ x ≡ others ++ y = cc in
    let rest = last_apart front others x y (whole_tail a front ha) (whole_tail b others hb) hx hy tail in
    (ap (λ c. c ∷ front) head ∙ ap (λ cs. b ∷ cs) rest.0, rest.1)

-- a line without its LF
abbrev body : GameLine → List ℕ
body told = decimal told.offset ++ codes " " ++ told.words

body_printed : (told : GameLine) → IsLine told → Printed (body told)
body_printed told is =
    both (decimal told.offset ++ codes " ") told.words (both (decimal told.offset) (codes " ") (number_printed told.offset) (fixed (codes " ") refl)) is.1

text_whole : (lines : List GameLine) → Whole (text_of lines)
text_whole [] = tt
text_whole (told ∷ earlier) = subst Whole (append_assoc (text_of earlier) (body told) (codes "\n")) (whole_end (text_of earlier ++ body told))

abbrev make_line : ℕ → List ℕ → GameLine
make_line offset words = record { offset = offset; words = words }

body_once : (a b : GameLine) → IsLine a → IsLine b → body a ≡ body b → a ≡ b
body_once a b ha hb e =
    let behind : decimal a.offset ++ (codes " " ++ a.words) ≡ decimal b.offset ++ (codes " " ++ b.words) =
    sym (append_assoc (decimal a.offset) (codes " ") a.words) ∙ e ∙ append_assoc (decimal b.offset) (codes " ") b.words in
    let parts = apart (decimal a.offset) (decimal b.offset) (codes " " ++ a.words) (codes " " ++ b.words) (number_plain a.offset) (number_plain b.offset) refl refl behind in
    let low : a.offset < limit = ha.0 in
    let low' : b.offset < limit = hb.0 in
    let offset : a.offset ≡ b.offset = decimal_injective a.offset b.offset (omega (arith, low)) (omega (arith, low')) parts.0 in
    let words : a.words ≡ b.words = append_cancel_left (codes " ") a.words b.words parts.1 in
    ap (λ n. make_line n a.words) offset ∙ ap (λ ws. make_line b.offset ws) words

-- Two texts of lines, with such a text and LF behind each, are the same, and so is what is behind them.
ends_apart : (lines others : List GameLine) (x y : List ℕ) → Printed x → Printed y → text_of lines ++ (x ++ codes "\n") ≡ text_of others ++ (y ++ codes "\n")
    → (text_of lines ≡ text_of others) × (x ≡ y)
ends_apart lines others x y hx hy e =
    last_apart (text_of lines) (text_of others) x y (text_whole lines) (text_whole others) hx hy
    (append_cancel_right (text_of lines ++ x) (text_of others ++ y) (codes "\n") (append_assoc (text_of lines) x (codes "\n") ∙ e ∙ sym (append_assoc (text_of others) y (codes "\n"))))

pub never_empty : (front x : List ℕ) → [] ≡ front ++ (x ++ codes "\n") → ⊥
never_empty front x e =
    let long = ap length e in
    omega (arith, long, length-append front (x ++ codes "\n"), length-append x (codes "\n"))

pub lines_once : (lines others : List GameLine) → AllByRecursion IsLine lines → AllByRecursion IsLine others → text_of lines ≡ text_of others → lines ≡ others
lines_once [] [] h k e = refl
lines_once [] (other ∷ others) h k e = absurd (never_empty (text_of others) (body other) e)
lines_once (told ∷ lines) [] h k e = absurd (never_empty (text_of lines) (body told) (sym e))
lines_once (told ∷ lines) (other ∷ others) h k e =
    let parts = ends_apart lines others (body told) (body other) (body_printed told h.0) (body_printed other k.0) e in
    ap (λ l. l ∷ lines) (body_once told other h.0 k.0 parts.1) ∙ ap (λ ls. other ∷ ls) (lines_once lines others h.1 k.1 parts.0)

-- the line of the rest without its LF
abbrev rest_body : ℕ → List ℕ
rest_body rest = codes "rest " ++ decimal rest

rest_printed : (rest : ℕ) → Printed (rest_body rest)
rest_printed rest = both (codes "rest ") (decimal rest) (fixed (codes "rest ") refl) (number_printed rest)

-- No line begins as that of the rest does.
never_rest : (number words text : List ℕ) → AllByRecursion IsDigit number → number ++ 32 ∷ words ≡ 114 ∷ text → ⊥
never_rest [] words text h e = let bad : 32 ≡ 114 = ap (λ l. slice_index l 0) e in omega (arith, bad)
never_rest (byte ∷ number) words text h e =
    let high : byte < 114 = h.0.1 in
    let bad : byte ≡ 114 = ap (λ l. slice_index l 0) e in
    omega (arith, bad, high)

rest_apart : (lines others : List GameLine) (rest : ℕ) → AllByRecursion IsLine lines → text_of lines ≡ text_of others ++ rest_line rest → ⊥
rest_apart [] others rest h e = never_empty (text_of others) (rest_body rest) e
rest_apart (told ∷ lines) others rest h e =
    let parts = ends_apart lines others (body told) (rest_body rest) (body_printed told h.0) (rest_printed rest) e in
    never_rest (decimal told.offset) told.words (codes "est " ++ decimal rest) (decimal_digits told.offset) (sym (append_assoc (decimal told.offset) (codes " ") told.words) ∙ parts.1)

pub texts_once : (lines others : List GameLine) (last end : List ℕ) → AllByRecursion IsLine lines → AllByRecursion IsLine others → EndsLines last → EndsLines end
    → text_of lines ++ last ≡ text_of others ++ end → (lines ≡ others) × (last ≡ end)
texts_once lines others last end h k (inl a) (inl b) e =
    let P : List ℕ → List ℕ → Type 0 = λ s t. text_of lines ++ s ≡ text_of others ++ t in
    let both_none : text_of lines ++ [] ≡ text_of others ++ [] = subst (λ t. P [] t) b (subst (λ s. P s end) a e) in
    (lines_once lines others h k (sym (append-nil (text_of lines)) ∙ both_none ∙ append-nil (text_of others)), a ∙ sym b)
texts_once lines others last end h k (inl a) (inr (rest, b)) e =
    let P : List ℕ → List ℕ → Type 0 = λ s t. text_of lines ++ s ≡ text_of others ++ t in
    let here : text_of lines ++ [] ≡ text_of others ++ rest_line rest = subst (λ t. P [] t) b (subst (λ s. P s end) a e) in
    absurd (rest_apart lines others rest h (sym (append-nil (text_of lines)) ∙ here))
texts_once lines others last end h k (inr (rest, a)) (inl b) e =
    let P : List ℕ → List ℕ → Type 0 = λ s t. text_of lines ++ s ≡ text_of others ++ t in
    let here : text_of lines ++ rest_line rest ≡ text_of others ++ [] = subst (λ t. P (rest_line rest) t) b (subst (λ s. P s end) a e) in
    absurd (rest_apart others lines rest k (sym (append-nil (text_of others)) ∙ sym here))
texts_once lines others last end h k (inr (rest, a)) (inr (other, b)) e =
    let P : List ℕ → List ℕ → Type 0 = λ s t. text_of lines ++ s ≡ text_of others ++ t in
    let here : text_of lines ++ rest_line rest ≡ text_of others ++ rest_line other = subst (λ t. P (rest_line rest) t) b (subst (λ s. P s end) a e) in
    let parts = ends_apart lines others (rest_body rest) (rest_body other) (rest_printed rest) (rest_printed other) here in
    (lines_once lines others h k parts.0, a ∙ ap (λ t. t ++ codes "\n") parts.1 ∙ sym b)

pub text_tells_the_lines : TextsArePlain → TextTellsTheLines
text_tells_the_lines plain start begin lines others plies moves result other last end valid valid' x y short short' ends ends' e =
    texts_once lines others last end (are_lines plain start lines plies result valid x short) (are_lines plain begin others moves other valid' y short') ends ends' e

pub text_tells_the_game : TextTellsTheLines → LinesGiveOneGame → TextTellsTheGame
text_tells_the_game tells once start lines others plies moves result other last end valid x y short short' ends ends' e =
    let same = tells start start lines others plies moves result other last end valid valid x y short short' ends ends' e in
    let P : List GameLine → Type 0 = λ ls. Gives start ls plies result in
    once start others plies moves result other valid (subst P same.0 x) y
