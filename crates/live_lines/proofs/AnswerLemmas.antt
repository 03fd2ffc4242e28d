-- The text of an answer is read in one way.
use Rattle.std.proofs.Common.{◌≡◌, ◌<◌, ◌≤◌, ◌^◌, ◌+◌, ◌/◌, ◌%◌, ◌==◌, ◌&&◌, ◌⊎◌, not, ℕ, zero, suc, Bool, true, false, List, [], ◌∷◌, ◌++◌, Option, Some, None, length, decimal, inl, inr, refl, sym, ap, ◌∙◌, subst, arith}
use Rattle.std.specs.Prelude.{codes, if◌then◌else◌, nat_lt}
use Rattle.std.specs.Fmt.{digit_glyph, digits, digits_onto}
use Rattle.std.specs.List.{AllByRecursion}
use Rattle.std.proofs.lemmas.Bool.{ne_eqb}
use Rattle.std.proofs.lemmas.Fmt.{decimal_injective}
use Rattle.std.proofs.lemmas.List.{append_assoc, append_cancel_left}
use Rattle.board_cable.specs.declared.line.Request.{Request}
use Rattle.board_cable.specs.declared.whose.Handling.{Handling}
use Rattle.board_cable.specs.declared.whose.Handling.TheVariants.{Keep, Hold, Other}
use Rattle.board_standing.specs.declared.state.State.{State}
use Rattle.answer_lines.specs.declared.said.Said.{Said}
use Rattle.answer_lines.specs.Answers.{answer_text as said_text, clock_line, handling_line, number_line, request_line, room_line, state_line}
use Rattle.answer_lines.specs.Laws.{IsSaid, lacks}
use Rattle.answer_lines.specs.Ends.{EndFits, begins_line, end_text, goes_on_line, over_line}
use Rattle.answer_lines.proofs.EndLemmas.{end_once, end_parts, rank, said_rank}
use Rattle.board_endings.specs.declared.news.End.{End}
use Rattle.game_over.specs.declared.said.Over.{Over}
use Rattle.answer_lines.specs.Looks.{LooksFit, look_words, looks_text}
use Rattle.answer_lines.proofs.LookLemmas.{looks_and_said_once}
use Rattle.board_alarms.specs.declared.look.Look.{Look}
use Rattle.board_alarms.specs.declared.look.Look.TheVariants.{Doubtful, Stopped, Unplayed, Suspected}
use Rattle.answer_lines.proofs.AnswerLemmas.{from_clock, from_done, from_number, from_request, from_room, from_state, in_parts}
use Rattle.answer_lines.proofs.CutLemmas.{cut_once, decimal_lacks_feed, lacks_append}
use Rattle.answer_lines.proofs.WordLemmas.{behind, first_of}
use Rattle.watched_streams.specs.Lines.{line}
use Rattle.live_lines.specs.Answers.{fits_text, game_text, kept_text, whole_text}
use Rattle.live_lines.specs.Laws.{HasLines, IsPrinted, ReportLine, report_text}
use Rattle.live_lines.proofs.EntryLemmas.{same_front}

-- ---- a line of the report begins with a digit, and ends at its line feed

-- a digit, and no small letter
abbrev pub IsDigit : ℕ → Type 0
IsDigit byte = (47 < byte) × (byte < 97)

abbrev StartsWithDigit : List ℕ → Type 0
StartsWithDigit [] = ⊥
StartsWithDigit (byte ∷ bytes) = byte < 97

glyph : (low : Bool) (d : ℕ) → d < 10 → IsDigit (if low then 48 + d else 87 + d)
glyph true d lt = (omega (arith, lt), omega (arith, lt))
glyph false d lt = (omega (arith, lt), omega (arith, lt))

one_of : (P : List ℕ → Type 0) (first : Bool) (xs ys : List ℕ) → P xs → P ys → P (if first then xs else ys)
one_of P true xs ys h k = h
one_of P false xs ys h k = k

a_digit : (n : ℕ) → IsDigit (digit_glyph false (n % 10))
a_digit n = glyph (nat_lt (n % 10) 10) (n % 10) (omega arith)

onto_digits : (k n : ℕ) (text : List ℕ) → AllByRecursion IsDigit text → AllByRecursion IsDigit (digits_onto k 10 false n text)
onto_digits zero n text h = h
onto_digits (suc k) n text h =
    let more = digit_glyph false (n % 10) ∷ text in
    let next : AllByRecursion IsDigit more = (a_digit n, h) in
    one_of (AllByRecursion IsDigit) (n / 10 == 0) more (digits_onto k 10 false (n / 10) more) next (onto_digits k (n / 10) more next)

starts_onto : (k n : ℕ) (text : List ℕ) → StartsWithDigit text → StartsWithDigit (digits_onto k 10 false n text)
starts_onto zero n text h = h
starts_onto (suc k) n text h =
    let more = digit_glyph false (n % 10) ∷ text in
    let next : StartsWithDigit more = (a_digit n).1 in
    one_of StartsWithDigit (n / 10 == 0) more (digits_onto k 10 false (n / 10) more) next (starts_onto k (n / 10) more next)

starts : (k n : ℕ) → StartsWithDigit (digits_onto (suc k) 10 false n [])
starts k n =
    let more = digit_glyph false (n % 10) ∷ [] in
    let next : StartsWithDigit more = (a_digit n).1 in
    one_of StartsWithDigit (n / 10 == 0) more (digits_onto k 10 false (n / 10) more) next (starts_onto k (n / 10) more next)

pub decimal_digits : (n : ℕ) → AllByRecursion IsDigit (decimal n)
unfolding digits
decimal_digits n = onto_digits 64 n [] tt

decimal_starts : (n : ℕ) → StartsWithDigit (decimal n)
unfolding digits
decimal_starts n = starts 63 n

no_feed : (byte : ℕ) → IsPrinted byte → byte ≡ 10 → ⊥
no_feed byte high e = omega (arith, high, e)

printed_lacks_feed : (text : List ℕ) → AllByRecursion IsPrinted text → lacks 10 text ≡ true
printed_lacks_feed [] h = refl
printed_lacks_feed (byte ∷ text) h = ap (λ b. not b && lacks 10 text) (ne_eqb byte 10 (no_feed byte h.0)) ∙ printed_lacks_feed text h.1

digit_printed : (byte : ℕ) → IsDigit byte → IsPrinted byte
digit_printed byte h = let low = h.0 in omega (arith, low)

digits_printed : (text : List ℕ) → AllByRecursion IsDigit text → AllByRecursion IsPrinted text
digits_printed [] h = tt
digits_printed (byte ∷ text) h = (digit_printed byte h.0, digits_printed text h.1)

-- what stands before the line feed
abbrev pub body : ReportLine → List ℕ
body told = decimal told.offset ++ codes " " ++ told.words

pub body_lacks_feed : (told : ReportLine) → lacks 10 (body told) ≡ true
body_lacks_feed told =
    lacks_append 10 (decimal told.offset ++ codes " ") told.words
    (lacks_append 10 (decimal told.offset) (codes " ") (printed_lacks_feed (decimal told.offset) (digits_printed (decimal told.offset) (decimal_digits told.offset))) refl)
    (printed_lacks_feed told.words told.one)

pub fed : (told : ReportLine) (more rest : List ℕ) → (line told.offset told.words ++ more) ++ rest ≡ body told ++ 10 ∷ (more ++ rest)
fed told more rest = append_assoc (line told.offset told.words) more rest ∙ append_assoc (body told) (10 ∷ []) (more ++ rest)

first_low : (text more : List ℕ) → StartsWithDigit text → first_of (text ++ more) < 97
first_low [] more h = absurd h
first_low (byte ∷ text) more h = h

line_low : (told : ReportLine) (more rest : List ℕ) → first_of ((line told.offset told.words ++ more) ++ rest) < 97
line_low told more rest =
    let F : List ℕ → Type 0 = λ t. first_of t < 97 in
    let w : List ℕ = told.words ++ 10 ∷ (more ++ rest) in
    subst F
    (sym (fed told more rest ∙ append_assoc (decimal told.offset ++ codes " ") told.words (10 ∷ (more ++ rest)) ∙ append_assoc (decimal told.offset) (32 ∷ []) w))
    (first_low (decimal told.offset) (32 ∷ w) (decimal_starts told.offset))

-- ---- what is said begins with a small letter, and its third one is none of `kept`

abbrev third_of : List ℕ → ℕ
third_of text = first_of (behind (behind text))

abbrev Opens : List ℕ → Type 0
Opens text = (97 ≤ first_of text) × (third_of text < 112)

-- It doesn't begin as `game` does.
abbrev Says : List ℕ → Type 0
Says text = (first_of text < 103) ⊎ (103 < first_of text)

opens_state : (state : Option State) (text : List ℕ) → Opens text → Opens (state_line state ++ text)
opens_state None text h = h
opens_state (Some state) text h = (omega arith, omega arith)

opens_clock : (stopped : Option Bool) (text : List ℕ) → Opens text → Opens (clock_line stopped ++ text)
opens_clock None text h = h
opens_clock (Some true) text h = (omega arith, omega arith)
opens_clock (Some false) text h = (omega arith, omega arith)

opens_room : (is_whole : Bool) (text : List ℕ) → Opens text → Opens (room_line is_whole ++ text)
opens_room true text h = h
opens_room false text h = (omega arith, omega arith)

opens_request : (request : Option Request) (text : List ℕ) → Opens text → Opens (request_line request ++ text)
opens_request None text h = h
opens_request (Some request) text h = (omega arith, omega arith)

opens_number : (number : Option (List ℕ)) (text : List ℕ) → Opens text → Opens (number_line number ++ text)
opens_number None text h = h
opens_number (Some number) text h = (omega arith, omega arith)

opens_handling : (handling : Option Handling) (text : List ℕ) → Opens text → Opens (handling_line handling ++ text)
opens_handling None text h = h
opens_handling (Some Keep) text h = (omega arith, omega arith)
opens_handling (Some Hold) text h = (omega arith, omega arith)
opens_handling (Some (Other number)) text h = (omega arith, omega arith)

opens_done : (said : Said) (more : List ℕ) → Opens (from_done said more)
opens_done said more = (omega arith, omega arith)

opens : (said : Said) (more : List ℕ) → Opens (said_text said ++ more)
opens said more =
    let O : List ℕ → Type 0 = λ t. Opens t in
    subst O (sym (in_parts said more))
    (opens_handling said.handling (from_number said more)
    (opens_number said.number (from_request said more)
    (opens_request said.request (from_room said more)
    (opens_room said.is_whole (from_clock said more)
    (opens_clock said.is_clock_stopped (from_state said more) (opens_state said.state (from_done said more) (opens_done said more)))))))

says_state : (state : Option State) (text : List ℕ) → Says text → Says (state_line state ++ text)
says_state None text h = h
says_state (Some state) text h = inr (omega arith)

says_clock : (stopped : Option Bool) (text : List ℕ) → Says text → Says (clock_line stopped ++ text)
says_clock None text h = h
says_clock (Some true) text h = inl (omega arith)
says_clock (Some false) text h = inl (omega arith)

says_room : (is_whole : Bool) (text : List ℕ) → Says text → Says (room_line is_whole ++ text)
says_room true text h = h
says_room false text h = inl (omega arith)

says_request : (request : Option Request) (text : List ℕ) → Says text → Says (request_line request ++ text)
says_request None text h = h
says_request (Some request) text h = inl (omega arith)

says_number : (number : Option (List ℕ)) (text : List ℕ) → Says text → Says (number_line number ++ text)
says_number None text h = h
says_number (Some number) text h = inr (omega arith)

says_handling : (handling : Option Handling) (text : List ℕ) → Says text → Says (handling_line handling ++ text)
says_handling None text h = h
says_handling (Some Keep) text h = inr (omega arith)
says_handling (Some Hold) text h = inr (omega arith)
says_handling (Some (Other number)) text h = inr (omega arith)

says : (said : Said) (more : List ℕ) → Says (said_text said ++ more)
says said more =
    let S : List ℕ → Type 0 = λ t. Says t in
    subst S (sym (in_parts said more))
    (says_handling said.handling (from_number said more)
    (says_number said.number (from_request said more)
    (says_request said.request (from_room said more)
    (says_room said.is_whole (from_clock said more)
    (says_clock said.is_clock_stopped (from_state said more) (says_state said.state (from_done said more) (inl (omega arith))))))))

opens_line : (look : Look) (text : List ℕ) → Opens (look_words look ++ text)
opens_line (Doubtful plies doubt) text = (omega arith, omega arith)
opens_line (Stopped plies moves) text = (omega arith, omega arith)
opens_line (Unplayed plies moves) text = (omega arith, omega arith)
opens_line (Suspected n) text = (omega arith, omega arith)

says_line : (look : Look) (text : List ℕ) → Says (look_words look ++ text)
says_line (Doubtful plies doubt) text = inr (omega arith)
says_line (Stopped plies moves) text = inr (omega arith)
says_line (Unplayed plies moves) text = inr (omega arith)
says_line (Suspected n) text = inr (omega arith)

look_first : (look : Look) (looks : List Look) (text : List ℕ)
    → looks_text (look ∷ looks) ++ text ≡ look_words look ++ 10 ∷ (looks_text looks ++ text)
look_first look looks text =
    append_assoc (look_words look ++ 10 ∷ []) (looks_text looks) text ∙ append_assoc (look_words look) (10 ∷ []) (looks_text looks ++ text)

opens_looks : (looks : List Look) (text : List ℕ) → Opens text → Opens (looks_text looks ++ text)
opens_looks [] text h = h
opens_looks (look ∷ looks) text h =
    let O : List ℕ → Type 0 = λ t. Opens t in
    subst O (sym (look_first look looks text)) (opens_line look (10 ∷ (looks_text looks ++ text)))

says_looks : (looks : List Look) (text : List ℕ) → Says text → Says (looks_text looks ++ text)
says_looks [] text h = h
says_looks (look ∷ looks) text h =
    let S : List ℕ → Type 0 = λ t. Says t in
    subst S (sym (look_first look looks text)) (says_line look (10 ∷ (looks_text looks ++ text)))

abbrev Opens_of : List ℕ → Type 0
Opens_of text = Opens text

abbrev Says_of : List ℕ → Type 0
Says_of text = Says text

opens_over : (over : Option Over) (text : List ℕ) → Opens text → Opens (over_line over ++ text)
opens_over None text h = h
opens_over (Some over) text h = (omega arith, omega arith)

opens_played : (goes_on : Option ℕ) (text : List ℕ) → Opens text → Opens (goes_on_line goes_on ++ text)
opens_played None text h = h
opens_played (Some n) text h = (omega arith, omega arith)

opens_begins : (begins : Option ℕ) (text : List ℕ) → Opens text → Opens (begins_line begins ++ text)
opens_begins None text h = h
opens_begins (Some n) text h = (omega arith, omega arith)

says_over : (over : Option Over) (text : List ℕ) → Says text → Says (over_line over ++ text)
says_over None text h = h
says_over (Some over) text h = inr (omega arith)

says_played : (goes_on : Option ℕ) (text : List ℕ) → Says text → Says (goes_on_line goes_on ++ text)
says_played None text h = h
says_played (Some n) text h = inr (omega arith)

says_begins : (begins : Option ℕ) (text : List ℕ) → Says text → Says (begins_line begins ++ text)
says_begins None text h = h
says_begins (Some n) text h = inl (omega arith)

opens_end : (end : End) (text : List ℕ) → Opens text → Opens (end_text end ++ text)
opens_end end text h = subst Opens_of (sym (end_parts end text)) (opens_over end.over (goes_on_line end.goes_on ++ (begins_line end.begins ++ text)) (opens_played end.goes_on (begins_line end.begins ++ text) (opens_begins end.begins text h)))

says_end : (end : End) (text : List ℕ) → Says text → Says (end_text end ++ text)
says_end end text h = subst Says_of (sym (end_parts end text)) (says_over end.over (goes_on_line end.goes_on ++ (begins_line end.begins ++ text)) (says_played end.goes_on (begins_line end.begins ++ text) (says_begins end.begins text h)))

line_rank : (look : Look) (text : List ℕ) → 4 ≤ rank (look_words look ++ text)
line_rank (Doubtful plies doubt) text = omega arith
line_rank (Stopped plies moves) text = omega arith
line_rank (Unplayed plies moves) text = omega arith
line_rank (Suspected n) text = omega arith

looks_rank : (looks : List Look) (text : List ℕ) → 4 ≤ rank text → 4 ≤ rank (looks_text looks ++ text)
looks_rank [] text h = h
looks_rank (look ∷ looks) text h =
    let R : List ℕ → Type 0 = λ t. 4 ≤ rank t in
    subst R (sym (look_first look looks text)) (line_rank look (10 ∷ (looks_text looks ++ text)))

opens_game : (game text : List ℕ) → Opens text → Opens (game_text game ++ text)
opens_game [] text h = h
opens_game (byte ∷ game) text h = (omega arith, omega arith)

-- ---- the lines of a report end where something begins with a small letter

too_low : (a b : List ℕ) → 97 ≤ first_of a → first_of b < 97 → a ≡ b → ⊥
too_low a b high low e = let same = ap first_of e in omega (arith, high, low, same)

report_once : (a b : List ReportLine) (x y : List ℕ) → 97 ≤ first_of x → 97 ≤ first_of y → report_text a ++ x ≡ report_text b ++ y
    → (report_text a ≡ report_text b) × (x ≡ y)
report_once [] [] x y p q e = (refl, e)
report_once [] (m ∷ b) x y p q e = absurd (too_low x (report_text (m ∷ b) ++ y) p (line_low m (report_text b) y) e)
report_once (l ∷ a) [] x y p q e = absurd (too_low y (report_text (l ∷ a) ++ x) q (line_low l (report_text a) x) (sym e))
report_once (l ∷ a) (m ∷ b) x y p q e =
    let cut = cut_once 10 (body l) (report_text a ++ x) (body m) (report_text b ++ y) (body_lacks_feed l) (body_lacks_feed m)
    (sym (fed l (report_text a) x) ∙ e ∙ fed m (report_text b) y) in
    let next = report_once a b x y p q cut.1 in
    (ap (λ t. (t ++ 10 ∷ []) ++ report_text a) cut.0 ∙ ap (λ t. line m.offset m.words ++ t) next.0, next.1)

-- ---- the bytes that the capture gets

-- a word with its blank, and a number
abbrev with_count : List ℕ → ℕ → List ℕ
with_count word n = word ++ decimal n

-- It doesn't begin with `kept`.
abbrev IsOther : List ℕ → Type 0
IsOther text = (first_of text < 107) ⊎ (third_of text < 112)

is_kept : (text kept : List ℕ) → IsOther text → first_of kept ≡ 107 → third_of kept ≡ 112 → text ≡ kept → ⊥
is_kept text kept (inl low) f t e = let same = ap first_of e in omega (arith, low, f, same)
is_kept text kept (inr low) f t e = let same = ap third_of e in omega (arith, low, t, same)

-- It begins with no digit, and not as `kept` does.
abbrev Begins : List ℕ → Type 0
Begins text = (97 ≤ first_of text) × IsOther text

opens_fits : (typed text : List ℕ) → Opens text → Begins (fits_text typed ++ text)
opens_fits [] text h = (h.0, inr h.1)
opens_fits (byte ∷ typed) text h = (omega arith, inl (omega arith))

behind_line : (word : List ℕ) (n : ℕ) (bytes rest : List ℕ) → ((with_count word n ++ 10 ∷ []) ++ bytes) ++ rest ≡ with_count word n ++ 10 ∷ (bytes ++ rest)
behind_line word n bytes rest = append_assoc (with_count word n ++ 10 ∷ []) bytes rest ∙ append_assoc (with_count word n) (10 ∷ []) (bytes ++ rest)

some_once : (word a b x y : List ℕ) → lacks 10 word ≡ true → length a < 2 ^ 64 → length b < 2 ^ 64
    → ((with_count word (length a) ++ 10 ∷ []) ++ a) ++ x ≡ ((with_count word (length b) ++ 10 ∷ []) ++ b) ++ y → (a ≡ b) × (x ≡ y)
some_once word a b x y w f g e =
    let cut = cut_once 10 (with_count word (length a)) (a ++ x) (with_count word (length b)) (b ++ y)
    (lacks_append 10 word (decimal (length a)) w (decimal_lacks_feed (length a) f)) (lacks_append 10 word (decimal (length b)) w (decimal_lacks_feed (length b) g))
    (sym (behind_line word (length a) a x) ∙ e ∙ behind_line word (length b) b y) in
    let same = decimal_injective (length a) (length b) f g (append_cancel_left word (decimal (length a)) (decimal (length b)) cut.0) in
    same_front a x b y same cut.1

kept_once : (a b x y : List ℕ) → length a < 2 ^ 64 → length b < 2 ^ 64 → IsOther x → IsOther y → kept_text a ++ x ≡ kept_text b ++ y
    → (a ≡ b) × (x ≡ y)
kept_once [] [] x y f g p q e = (refl, e)
kept_once [] (c ∷ b) x y f g p q e = absurd (is_kept x (kept_text (c ∷ b) ++ y) p refl refl e)
kept_once (c ∷ a) [] x y f g p q e = absurd (is_kept y (kept_text (c ∷ a) ++ x) q refl refl (sym e))
kept_once (c ∷ a) (d ∷ b) x y f g p q e = some_once (codes "kept ") (c ∷ a) (d ∷ b) x y refl f g e

low_enough : (n : ℕ) → n < 97 → n < 107
low_enough n h = omega (arith, h)

other : (lines : List ReportLine) (text : List ℕ) → Begins text → IsOther (report_text lines ++ text)
other [] text h = h.1
other (told ∷ lines) text h = inl (low_enough (first_of (report_text (told ∷ lines) ++ text)) (line_low told (report_text lines) text))

-- ---- what explains the board

is_fit : (text fit : List ℕ) → Opens text → third_of fit ≡ 116 → text ≡ fit → ⊥
is_fit text fit opens t e = let same = ap third_of e in let low = opens.1 in omega (arith, low, t, same)

fits_once : (a b x y : List ℕ) → length a < 2 ^ 64 → length b < 2 ^ 64 → Opens x → Opens y → fits_text a ++ x ≡ fits_text b ++ y
    → (a ≡ b) × (x ≡ y)
fits_once [] [] x y f g p q e = (refl, e)
fits_once [] (c ∷ b) x y f g p q e = absurd (is_fit x (fits_text (c ∷ b) ++ y) p refl e)
fits_once (c ∷ a) [] x y f g p q e = absurd (is_fit y (fits_text (c ∷ a) ++ x) q refl (sym e))
fits_once (c ∷ a) (d ∷ b) x y f g p q e = some_once (codes "fits ") (c ∷ a) (d ∷ b) x y refl f g e

-- ---- the text of the game

is_game : (text game : List ℕ) → Says text → first_of game ≡ 103 → text ≡ game → ⊥
is_game text game (inl low) f e = let same = ap first_of e in omega (arith, low, f, same)
is_game text game (inr high) f e = let same = ap first_of e in omega (arith, high, f, same)

game_once : (a b x y : List ℕ) → length a < 2 ^ 64 → length b < 2 ^ 64 → Says x → Says y → game_text a ++ x ≡ game_text b ++ y
    → (a ≡ b) × (x ≡ y)
game_once [] [] x y f g p q e = (refl, e)
game_once [] (c ∷ b) x y f g p q e = absurd (is_game x (game_text (c ∷ b) ++ y) p refl e)
game_once (c ∷ a) [] x y f g p q e = absurd (is_game y (game_text (c ∷ a) ++ x) q refl (sym e))
game_once (c ∷ a) (d ∷ b) x y f g p q e = some_once (codes "game ") (c ∷ a) (d ∷ b) x y refl f g e

-- ---- all of it

-- alarms, what is said, and what stands behind that; how the game ends before it
abbrev from_looks : List Look → Said → List ℕ → List ℕ
from_looks looks said more = looks_text looks ++ (said_text said ++ more)

abbrev from_end : End → List Look → Said → List ℕ → List ℕ
from_end end looks said more = end_text end ++ from_looks looks said more

parts : (kept lines fits game : List ℕ) (end : End) (looks : List Look) (said : Said) (more : List ℕ) → whole_text kept lines fits game end looks said ++ more
    ≡ kept_text kept ++ (lines ++ (fits_text fits ++ (game_text game ++ from_end end looks said more)))
parts kept lines fits game end looks said more =
    append_assoc (kept_text kept ++ lines ++ fits_text fits ++ game_text game ++ end_text end ++ looks_text looks) (said_text said) more
    ∙ append_assoc (kept_text kept ++ lines ++ fits_text fits ++ game_text game ++ end_text end) (looks_text looks) (said_text said ++ more)
    ∙ append_assoc (kept_text kept ++ lines ++ fits_text fits ++ game_text game) (end_text end) (from_looks looks said more)
    ∙ append_assoc (kept_text kept ++ lines ++ fits_text fits) (game_text game) (from_end end looks said more)
    ∙ append_assoc (kept_text kept ++ lines) (fits_text fits) (game_text game ++ from_end end looks said more)
    ∙ append_assoc (kept_text kept) lines (fits_text fits ++ (game_text game ++ from_end end looks said more))

by_lines : (kept others : List ℕ) (a b : List ReportLine) (fits typed game text more rest : List ℕ) (end last : End) (looks alarms : List Look) (one two : Said)
    → length kept < 2 ^ 64 → length others < 2 ^ 64 → length fits < 2 ^ 64 → length typed < 2 ^ 64 → length game < 2 ^ 64 → length text < 2 ^ 64
    → EndFits end → EndFits last → LooksFit looks → LooksFit alarms → IsSaid one → IsSaid two
    → whole_text kept (report_text a) fits game end looks one ++ more ≡ whole_text others (report_text b) typed text last alarms two ++ rest
    → (kept ≡ others) × (report_text a ≡ report_text b) × (fits ≡ typed) × (game ≡ text) × (end ≡ last) × (looks ≡ alarms) × (one ≡ two) × (more ≡ rest)
by_lines kept others a b fits typed game text more rest end last looks alarms one two f g c d u v i j l m s t e =
    let looks_one : List ℕ = from_looks looks one more in
    let looks_two : List ℕ = from_looks alarms two rest in
    let behind_one : List ℕ = from_end end looks one more in
    let behind_two : List ℕ = from_end last alarms two rest in
    let game_one : List ℕ = game_text game ++ behind_one in
    let game_two : List ℕ = game_text text ++ behind_two in
    let x : List ℕ = fits_text fits ++ game_one in
    let y : List ℕ = fits_text typed ++ game_two in
    let o : Opens game_one = opens_game game behind_one (opens_end end looks_one (opens_looks looks (said_text one ++ more) (opens one more))) in
    let w : Opens game_two = opens_game text behind_two (opens_end last looks_two (opens_looks alarms (said_text two ++ rest) (opens two rest))) in
    let p : Begins x = opens_fits fits game_one o in
    let q : Begins y = opens_fits typed game_two w in
    let first = kept_once kept others (report_text a ++ x) (report_text b ++ y) f g (other a x p) (other b y q)
    (sym (parts kept (report_text a) fits game end looks one more) ∙ e ∙ parts others (report_text b) typed text last alarms two rest) in
    let second = report_once a b x y p.0 q.0 first.1 in
    let explained = fits_once fits typed game_one game_two c d o w second.1 in
    let third = game_once game text behind_one behind_two u v (says_end end looks_one (says_looks looks (said_text one ++ more) (says one more)))
    (says_end last looks_two (says_looks alarms (said_text two ++ rest) (says two rest))) explained.1 in
    let fourth = end_once end last looks_one looks_two i j (looks_rank looks (said_text one ++ more) (said_rank one more))
    (looks_rank alarms (said_text two ++ rest) (said_rank two rest)) third.1 in
    let final = looks_and_said_once looks alarms one two more rest l m s t fourth.1 in
    (first.0, second.0, explained.0, third.0, fourth.0, final.0, final.1, final.2)

pub answered_once : (kept others lines news fits typed game text more rest : List ℕ) (end last : End) (looks alarms : List Look) (one two : Said)
    → length kept < 2 ^ 64 → length others < 2 ^ 64 → length fits < 2 ^ 64 → length typed < 2 ^ 64 → length game < 2 ^ 64 → length text < 2 ^ 64
    → HasLines lines → HasLines news → EndFits end → EndFits last → LooksFit looks → LooksFit alarms → IsSaid one → IsSaid two
    → whole_text kept lines fits game end looks one ++ more ≡ whole_text others news typed text last alarms two ++ rest
    → (kept ≡ others) × (lines ≡ news) × (fits ≡ typed) × (game ≡ text) × (end ≡ last) × (looks ≡ alarms) × (one ≡ two) × (more ≡ rest)
answered_once kept others lines news fits typed game text more rest end last looks alarms one two f g c d u v h k i j l m s t e =
    let once = by_lines kept others h.0 k.0 fits typed game text more rest end last looks alarms one two f g c d u v i j l m s t
    (ap (λ r. whole_text kept r fits game end looks one ++ more) (sym h.1) ∙ e ∙ ap (λ r. whole_text others r typed text last alarms two ++ rest) k.1) in
    (once.0, h.1 ∙ once.1 ∙ sym k.1, once.2, once.3, once.4, once.5, once.6, once.7)
