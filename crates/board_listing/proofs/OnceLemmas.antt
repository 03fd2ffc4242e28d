-- Lines give one game.
use Rattle.std.proofs.Common.{◌≡◌, ◌⊎◌, ◌∙◌, ℕ, ◌+◌, ◌/◌, ◌%◌, ◌<◌, List, [], ◌∷◌, ◌++◌, inl, inr, codes, slice_index, Option, Some, None, ap, refl, sym, subst, append_assoc, arith}
use Rattle.std.specs.List.{AllByRecursion}
use Rattle.std.specs.Prelude.{⊤}
use Rattle.std.proofs.lemmas.List.{append_cancel_left}
use Rattle.std.proofs.lemmas.List.Elements.{recursion_from_All}
use Rattle.chess_rules.specs.declared.parts.Parts.{Parts}
use Rattle.chess_rules.specs.Picture.{picture}
use Rattle.chess_rules.specs.Valid.{Valid}
use Rattle.chess_text.specs.Laws.{IsSanByte, TextsArePlain, TextsTellMoves}
use Rattle.chess_text.specs.San.{San}
use Rattle.chess_clock.specs.declared.Hms.{Hms}
use Rattle.settle_core.specs.declared.plies.Outcome.{Outcome}
use Rattle.settle_core.specs.declared.plies.Outcome.TheVariants.{WhiteWins, BlackWins, Drawn}
use Rattle.settle_core.specs.declared.plies.Ply.{Ply}
use Rattle.settle_core.specs.Folding.{moves_of}
use Rattle.settle_core.specs.Settling.{Played, reached}
use Rattle.settle_core.proofs.Stages.{valid_reached}
use Rattle.pgn_book.specs.Movetext.{number_token}
use Rattle.pgn_book.proofs.OneText.{same_ply}
use Rattle.board_events.proofs.GameLemmas.{one_result}
use Rattle.board_listing.specs.GameLines.{clock_words, move_words, result_words, squares_text, waiting_words}
use Rattle.board_listing.specs.GivenGame.{AddsPly, ChangesGame, CorrectsPly, GameLine, Gives, IsOther, LinesGiveOneGame, TellsLegal}

-- ---- what stands before a space

-- no byte, or a space first
abbrev pub Ends : List ℕ → Type 0
Ends [] = ⊤
Ends (byte ∷ bytes) = byte ≡ 32

no_space : (b c : ℕ) → 32 < b → c ≡ b → c ≡ 32 → ⊥
no_space b c lt same space = omega (arith, lt, same, space)

-- Two texts without a space that stand before such ends are the same, and so are the ends.
pub apart : (s t x y : List ℕ) → AllByRecursion IsSanByte s → AllByRecursion IsSanByte t → Ends x → Ends y → s ++ x ≡ t ++ y → (s ≡ t) × (x ≡ y)
apart [] [] x y hs ht ex ey e = (refl, e)
apart [] (b ∷ t) [] y hs ht ex ey e = absurd (let bad : [] ≡ b ∷ (t ++ y) = e in cc)
apart [] (b ∷ t) (c ∷ x) y hs ht ex ey e = let same : c ≡ b = cc in absurd (no_space b c ht.0.0 same ex)
apart (a ∷ s) [] x [] hs ht ex ey e = absurd (let bad : a ∷ (s ++ x) ≡ [] = e in cc)
apart (a ∷ s) [] x (c ∷ y) hs ht ex ey e = let same : c ≡ a = cc in absurd (no_space a c hs.0.0 same ey)
apart (a ∷ s) (b ∷ t) x y hs ht ex ey e =
    let head : a ≡ b = cc in
    let tail : s ++ x ≡ t ++ y = cc in
    let rest = apart s t x y hs.1 ht.1 ex ey tail in
    (ap (λ c. c ∷ s) head ∙ ap (λ cs. b ∷ cs) rest.0, rest.1)

-- ---- clocks and results

same_two : (m n : ℕ) → 48 + m / 10 ≡ 48 + n / 10 → 48 + m % 10 ≡ 48 + n % 10 → m ≡ n
same_two m n tens ones = omega (arith, tens, ones)

same_digit : (m n : ℕ) → 48 + m ≡ 48 + n → m ≡ n
same_digit m n e = omega (arith, e)

time_once : (x y : Hms) → clock_words (Some x) ≡ clock_words (Some y) → x ≡ y
time_once x y e =
    let hours : x.hours ≡ y.hours = same_digit x.hours y.hours (ap (λ l. slice_index l 1) e) in
    let minutes : x.minutes ≡ y.minutes = same_two x.minutes y.minutes (ap (λ l. slice_index l 3) e) (ap (λ l. slice_index l 4) e) in
    let seconds : x.seconds ≡ y.seconds = same_two x.seconds y.seconds (ap (λ l. slice_index l 6) e) (ap (λ l. slice_index l 7) e) in
    let same : record { hours = x.hours; minutes = x.minutes; seconds = x.seconds } ≡ record { hours = y.hours; minutes = y.minutes; seconds = y.seconds } = cc in same

clock_once : (a b : Option Hms) → clock_words a ≡ clock_words b → a ≡ b
clock_once None None e = refl
clock_once None (Some y) e = absurd (cc)
clock_once (Some x) None e = absurd (cc)
clock_once (Some x) (Some y) e = ap Some (time_once x y e)

clock_ends : (a : Option Hms) → Ends (clock_words a)
clock_ends None = tt
clock_ends (Some x) = refl

result_once : (a b : Option Outcome) → result_words a ≡ result_words b → a ≡ b
result_once None None e = refl
result_once None (Some WhiteWins) e = let bad : 42 ≡ 49 = ap (λ l. slice_index l 7) e in absurd (omega (arith, bad))
result_once None (Some BlackWins) e = let bad : 42 ≡ 48 = ap (λ l. slice_index l 7) e in absurd (omega (arith, bad))
result_once None (Some Drawn) e = let bad : 42 ≡ 49 = ap (λ l. slice_index l 7) e in absurd (omega (arith, bad))
result_once (Some WhiteWins) None e = let bad : 49 ≡ 42 = ap (λ l. slice_index l 7) e in absurd (omega (arith, bad))
result_once (Some WhiteWins) (Some WhiteWins) e = refl
result_once (Some WhiteWins) (Some BlackWins) e = let bad : 49 ≡ 48 = ap (λ l. slice_index l 7) e in absurd (omega (arith, bad))
result_once (Some WhiteWins) (Some Drawn) e = let bad : 45 ≡ 47 = ap (λ l. slice_index l 8) e in absurd (omega (arith, bad))
result_once (Some BlackWins) None e = let bad : 48 ≡ 42 = ap (λ l. slice_index l 7) e in absurd (omega (arith, bad))
result_once (Some BlackWins) (Some WhiteWins) e = let bad : 48 ≡ 49 = ap (λ l. slice_index l 7) e in absurd (omega (arith, bad))
result_once (Some BlackWins) (Some BlackWins) e = refl
result_once (Some BlackWins) (Some Drawn) e = let bad : 48 ≡ 49 = ap (λ l. slice_index l 7) e in absurd (omega (arith, bad))
result_once (Some Drawn) None e = let bad : 49 ≡ 42 = ap (λ l. slice_index l 7) e in absurd (omega (arith, bad))
result_once (Some Drawn) (Some WhiteWins) e = let bad : 47 ≡ 45 = ap (λ l. slice_index l 8) e in absurd (omega (arith, bad))
result_once (Some Drawn) (Some BlackWins) e = let bad : 49 ≡ 48 = ap (λ l. slice_index l 7) e in absurd (omega (arith, bad))
result_once (Some Drawn) (Some Drawn) e = refl

-- ---- plies

-- A ply is known by its words.
ply_once : TextsArePlain → TextsTellMoves → (start : Parts) (before : List Ply) (word words : List ℕ) (a b : Ply) → Valid (reached start (moves_of before))
    → TellsLegal start before word a words → TellsLegal start before word b words → a ≡ b
ply_once plain tell start before word words a b valid x y =
    let p = reached start (moves_of before) in
    let e : move_words word p x.san a.clock ≡ move_words word p y.san b.clock = sym x.words_are ∙ y.words_are in
    let front = word ++ codes " " ++ number_token p.side p.fullmove ++ codes " " in
    let same : x.san ++ clock_words a.clock ≡ y.san ++ clock_words b.clock =
    append_cancel_left front (x.san ++ clock_words a.clock) (y.san ++ clock_words b.clock)
    (sym (append_assoc front x.san (clock_words a.clock)) ∙ e ∙ append_assoc front y.san (clock_words b.clock)) in
    let parts = apart x.san y.san (clock_words a.clock) (clock_words b.clock) (recursion_from_All IsSanByte x.san (plain p a.mv x.san valid x.legal x.san_is).bytes)
    (recursion_from_All IsSanByte y.san (plain p b.mv y.san valid y.legal y.san_is).bytes) (clock_ends a.clock) (clock_ends b.clock) same in
    let S : List ℕ → Type 0 = λ t. San p a.mv t in
    let mv : a.mv ≡ b.mv = tell p a.mv b.mv y.san valid x.legal y.legal (subst S parts.0 x.san_is) y.san_is in
    let clock : a.clock ≡ b.clock = clock_once a.clock b.clock parts.1 in
    same_ply a b mv clock

-- ---- the kinds of lines

abbrev first : List ℕ → ℕ
first words = slice_index words 0

abbrev IsPlain : ℕ → Type 0
IsPlain n = (n ≡ 97) ⊎ ((n ≡ 100) ⊎ (n ≡ 102))

waiting_first : (squares words : List ℕ) → words ≡ waiting_words squares → IsPlain (first words)
waiting_first [] words is = inl (ap first is)
waiting_first (byte ∷ bytes) words is = inr (inl (ap first is))

other_first : (p : Parts) (words : List ℕ) → IsOther p words → IsPlain (first words)
other_first p words (inl (shown, is)) = waiting_first (squares_text (picture p) shown) words is
other_first p words (inr (kind, is)) = inr (inr (ap first is))

abbrev IsNews : ℕ → Type 0
IsNews n = (n ≡ 109) ⊎ ((n ≡ 99) ⊎ (n ≡ 114))

news_or_not : (n : ℕ) → IsNews n → IsPlain n → ⊥
news_or_not n (inl a) (inl b) = omega arith
news_or_not n (inl a) (inr (inl b)) = omega arith
news_or_not n (inl a) (inr (inr b)) = omega arith
news_or_not n (inr (inl a)) (inl b) = omega arith
news_or_not n (inr (inl a)) (inr (inl b)) = omega arith
news_or_not n (inr (inl a)) (inr (inr b)) = omega arith
news_or_not n (inr (inr a)) (inl b) = omega arith
news_or_not n (inr (inr a)) (inr (inl b)) = omega arith
news_or_not n (inr (inr a)) (inr (inr b)) = omega arith

two_kinds : (n a b : ℕ) → n ≡ a → n ≡ b → a ≡ b
two_kinds n a b x y = sym x ∙ y

move_first : (start : Parts) (before : List Ply) (words : List ℕ) (after : List Ply) → AddsPly start before words after → first words ≡ 109
move_first start before words after (ply, is, told) = ap first told.words_are

correction_first : (start : Parts) (before : List Ply) (words : List ℕ) (after : List Ply) → CorrectsPly start before words after → first words ≡ 99
correction_first start [] words after adds = absurd adds
correction_first start (last ∷ earlier) words after (ply, is, told) = ap first told.words_are

result_first : (words : List ℕ) (result : Option Outcome) → words ≡ result_words result → first words ≡ 114
result_first words result is = ap first is

adds_once : TextsArePlain → TextsTellMoves → (start : Parts) (before : List Ply) (words : List ℕ) (plies others : List Ply) → Valid (reached start (moves_of before))
    → AddsPly start before words plies → AddsPly start before words others → plies ≡ others
adds_once plain tell start before words plies others valid (a, is, x) (b, other, y) =
    is ∙ ap (λ ply. ply ∷ before) (ply_once plain tell start before (codes "move") words a b valid x y) ∙ sym other

corrects_once : TextsArePlain → TextsTellMoves → (start : Parts) (before : List Ply) (words : List ℕ) (plies others : List Ply) → Valid start → Played start (moves_of before)
    → CorrectsPly start before words plies → CorrectsPly start before words others → plies ≡ others
corrects_once plain tell start [] words plies others valid played x y = absurd x
corrects_once plain tell start (last ∷ earlier) words plies others valid played (a, is, x) (b, other, y) =
    is ∙ ap (λ ply. ply ∷ earlier) (ply_once plain tell start earlier (codes "correction") words a b (valid_reached start (moves_of earlier) valid played.1) x y) ∙ sym other

changes_once : TextsArePlain → TextsTellMoves → (start : Parts) (before : List Ply) (old : Option Outcome) (words : List ℕ) (plies others : List Ply) (result other : Option Outcome)
    → Valid start → Played start (moves_of before) → ChangesGame start words before old plies result → ChangesGame start words before old others other → (plies ≡ others) × (result ≡ other)
changes_once plain tell start before old words plies others result other valid played (inl x) (inl y) =
    (adds_once plain tell start before words plies others (valid_reached start (moves_of before) valid played) x.0 y.0, x.1 ∙ sym y.1)
changes_once plain tell start before old words plies others result other valid played (inr (inl x)) (inr (inl y)) =
    (corrects_once plain tell start before words plies others valid played x.0 y.0, x.1 ∙ sym y.1)
changes_once plain tell start before old words plies others result other valid played (inr (inr (inl x))) (inr (inr (inl y))) =
    (x.0 ∙ sym y.0, result_once result other (sym x.1 ∙ y.1))
changes_once plain tell start before old words plies others result other valid played (inr (inr (inr x))) (inr (inr (inr y))) = (x.0 ∙ sym y.0, x.1 ∙ sym y.1)
changes_once plain tell start before old words plies others result other valid played (inl x) (inr (inl y)) =
    let bad : 109 ≡ 99 = two_kinds (first words) 109 99 (move_first start before words plies x.0) (correction_first start before words others y.0) in absurd (omega (arith, bad))
changes_once plain tell start before old words plies others result other valid played (inl x) (inr (inr (inl y))) =
    let bad : 109 ≡ 114 = two_kinds (first words) 109 114 (move_first start before words plies x.0) (result_first words other y.1) in absurd (omega (arith, bad))
changes_once plain tell start before old words plies others result other valid played (inl x) (inr (inr (inr y))) =
    absurd (news_or_not (first words) (inl (move_first start before words plies x.0)) (other_first (reached start (moves_of before)) words y.2))
changes_once plain tell start before old words plies others result other valid played (inr (inl x)) (inl y) =
    let bad : 99 ≡ 109 = two_kinds (first words) 99 109 (correction_first start before words plies x.0) (move_first start before words others y.0) in absurd (omega (arith, bad))
changes_once plain tell start before old words plies others result other valid played (inr (inl x)) (inr (inr (inl y))) =
    let bad : 99 ≡ 114 = two_kinds (first words) 99 114 (correction_first start before words plies x.0) (result_first words other y.1) in absurd (omega (arith, bad))
changes_once plain tell start before old words plies others result other valid played (inr (inl x)) (inr (inr (inr y))) =
    absurd (news_or_not (first words) (inr (inl (correction_first start before words plies x.0))) (other_first (reached start (moves_of before)) words y.2))
changes_once plain tell start before old words plies others result other valid played (inr (inr (inl x))) (inl y) =
    let bad : 114 ≡ 109 = two_kinds (first words) 114 109 (result_first words result x.1) (move_first start before words others y.0) in absurd (omega (arith, bad))
changes_once plain tell start before old words plies others result other valid played (inr (inr (inl x))) (inr (inl y)) =
    let bad : 114 ≡ 99 = two_kinds (first words) 114 99 (result_first words result x.1) (correction_first start before words others y.0) in absurd (omega (arith, bad))
changes_once plain tell start before old words plies others result other valid played (inr (inr (inl x))) (inr (inr (inr y))) =
    absurd (news_or_not (first words) (inr (inr (result_first words result x.1))) (other_first (reached start (moves_of before)) words y.2))
changes_once plain tell start before old words plies others result other valid played (inr (inr (inr x))) (inl y) =
    absurd (news_or_not (first words) (inl (move_first start before words others y.0)) (other_first (reached start (moves_of before)) words x.2))
changes_once plain tell start before old words plies others result other valid played (inr (inr (inr x))) (inr (inl y)) =
    absurd (news_or_not (first words) (inr (inl (correction_first start before words others y.0))) (other_first (reached start (moves_of before)) words x.2))
changes_once plain tell start before old words plies others result other valid played (inr (inr (inr x))) (inr (inr (inl y))) =
    absurd (news_or_not (first words) (inr (inr (result_first words other y.1))) (other_first (reached start (moves_of before)) words x.2))

-- ---- lines

-- The plies stay legal where they stand.
played_corrected : (start : Parts) (before : List Ply) (words : List ℕ) (after : List Ply) → Played start (moves_of before) → CorrectsPly start before words after → Played start (moves_of after)
played_corrected start [] words after played x = absurd x
played_corrected start (last ∷ earlier) words after played (ply, is, told) =
    let P : List Ply → Type 0 = λ ps. Played start (moves_of ps) in
    subst P (sym is) (told.legal, played.1)

changes_played : (start : Parts) (before : List Ply) (old : Option Outcome) (words : List ℕ) (after : List Ply) (new : Option Outcome) → Played start (moves_of before)
    → ChangesGame start words before old after new → Played start (moves_of after)
changes_played start before old words after new played (inl ((ply, is, told), same)) =
    let P : List Ply → Type 0 = λ ps. Played start (moves_of ps) in
    subst P (sym is) (told.legal, played)
changes_played start before old words after new played (inr (inl x)) = played_corrected start before words after played x.0
changes_played start before old words after new played (inr (inr (inl x))) = let P : List Ply → Type 0 = λ ps. Played start (moves_of ps) in subst P (sym x.0) played
changes_played start before old words after new played (inr (inr (inr x))) = let P : List Ply → Type 0 = λ ps. Played start (moves_of ps) in subst P (sym x.0) played

pub gives_played : (start : Parts) (lines : List GameLine) (plies : List Ply) (result : Option Outcome) → Gives start lines plies result → Played start (moves_of plies)
gives_played start [] plies result (none, is) = let P : List Ply → Type 0 = λ ps. Played start (moves_of ps) in subst P (sym none) tt
gives_played start (told ∷ earlier) plies result (before, old, gives, changes) =
    changes_played start before old told.words plies result (gives_played start earlier before old gives) changes

pub lines_give_one_game : TextsArePlain → TextsTellMoves → LinesGiveOneGame
lines_give_one_game plain tell start [] plies others result other valid (a, x) (b, y) = (a ∙ sym b, one_result start None result other x y)
lines_give_one_game plain tell start (told ∷ earlier) plies others result other valid (before, old, x, changes) (again, same, y, alike) =
    let one = lines_give_one_game plain tell start earlier before again old same valid x y in
    let P : List Ply → Type 0 = λ ps. ChangesGame start told.words ps same others other in
    let Q : Option Outcome → Type 0 = λ r. ChangesGame start told.words before r others other in
    changes_once plain tell start before old told.words plies others result other valid (gives_played start earlier before old x) changes (subst Q (sym one.1) (subst P (sym one.0) alike))
