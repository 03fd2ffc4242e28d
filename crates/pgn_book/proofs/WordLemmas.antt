-- The words of a movetext, and the plies that they give back.
use Rattle.std.proofs.Common.{◌≡◌, ℕ, ◌+◌, ◌-◌, ◌*◌, ◌/◌, ◌%◌, ◌^◌, ◌<◌, Bool, true, false, cond, List, [], ◌∷◌, ◌++◌, length, Option, None, Some, is_some, refl, sym, ap, subst, ◌∙◌, append_assoc, arith, rules, tests, map, inl, inr, length-append}
use Rattle.std.proofs.Common.{get_or, take, drop, add-one, drop-cons}
use Rattle.std.proofs.lemmas.List.{take-append-drop, take_more}
use Rattle.std.specs.Prelude.{decimal, codes}
use Rattle.std.specs.Option.{ForSome}
use Rattle.std.specs.List.{AllByRecursion, onto_first, flat_map}
use Rattle.std.proofs.lemmas.Bool.{cases_lt}
use Rattle.std.proofs.lemmas.List.Elements.{recursion_from_All}
use Rattle.std.proofs.lemmas.List.Concat.{flat_map-append}
use Rattle.std.proofs.lemmas.List.{append-nil}
use Rattle.chess_clock.specs.declared.Hms.{Hms}
use Rattle.chess_rules.specs.declared.pieces.Side.{Side}
use Rattle.chess_rules.specs.declared.pieces.Side.TheVariants.{White, Black}
use Rattle.chess_text.specs.Laws.{IsSanByte, IsSanText}
use Rattle.chess_text.proofs.FenTexts.{All-append, IsDigit, digits_of}
use Rattle.settle_core.specs.declared.plies.Outcome.{Outcome}
use Rattle.settle_core.specs.declared.plies.Outcome.TheVariants.{WhiteWins, BlackWins, Drawn}
use Rattle.chess_clock.specs.Clock.{IsTime}
use Rattle.pgn_book.specs.Lines.{IsToken}
use Rattle.pgn_book.specs.Inside.Flow.{piece, column, flow}
use Rattle.pgn_book.specs.Movetext.{ShownMove, number_token, number_tokens, clock_text, clock_tokens, two_digits, tokens_of, result_text, game_tokens}
use Rattle.pgn_book.specs.Inside.Parse.{Turn, is_break, words, is_move, is_comment, time_at, clock_at, turns_at}
use Rattle.pgn_book.proofs.Flowing.{piece-fits, piece-over}
use Rattle.pgn_book.proofs.Tokens.{BeginsWithLetter, Fits}

-- ---- words

onto-append : (x : ℕ) (front bs : List (List ℕ)) → 0 < length front → onto_first x (front ++ bs) ≡ onto_first x front ++ bs
onto-append x [] bs h = absurd (omega arith)
onto-append x (a ∷ front) bs h = refl

onto-some : (x : ℕ) (front : List (List ℕ)) → 0 < length (onto_first x front)
onto-some x [] = omega arith
onto-some x (a ∷ front) = omega arith

words-some : (xs : List ℕ) → 0 < length (words xs)
words-some [] = omega arith
words-some (x ∷ xs) = elim (is_break x) as (λ b. 0 < length (cond b ([] ∷ words xs) (onto_first x (words xs)))) [ true ↦ omega arith | false ↦ onto-some x (words xs) ]

pub words-cut : (xs : List ℕ) (y : ℕ) (ys : List ℕ) → is_break y ≡ true → words (xs ++ y ∷ ys) ≡ words xs ++ words ys
words-cut [] y ys e = rw e refl
words-cut (x ∷ xs) y ys e =
    let ih = words-cut xs y ys e in
    let P : Bool → Type 0 = λ b. cond b ([] ∷ words (xs ++ y ∷ ys)) (onto_first x (words (xs ++ y ∷ ys))) ≡ cond b ([] ∷ words xs) (onto_first x (words xs)) ++ words ys in
    elim (is_break x) as P [ true ↦ ap (λ (w : List (List ℕ)). [] ∷ w) ih | false ↦ ap (onto_first x) ih ∙ onto-append x (words xs) (words ys) (words-some xs) ]

abbrev pub NoBreak : List ℕ → Type 0
NoBreak xs = AllByRecursion (λ b. is_break b ≡ false) xs

pub words-one : (xs : List ℕ) → NoBreak xs → words xs ≡ xs ∷ []
words-one [] h = refl
words-one (x ∷ xs) h = rw (h.0, words-one xs h.1) refl

-- the words of what the tokens add behind a line that has begun
pub words-flow : (col : ℕ) (ts : List (List ℕ)) (front rest : List ℕ) → 0 < col → AllByRecursion IsToken ts
    → words (front ++ (flow col ts ++ 10 ∷ rest)) ≡ words front ++ (flat_map words ts ++ words rest)
words-flow col [] front rest pos h = words-cut front 10 rest refl
words-flow col (t ∷ ts) front rest pos h =
    let more = flow (column col t) ts in
    let ahead : 0 < column col t = elim (cases_lt 79 (col + 1 + length t)) [
      | inl over ↦ rw (piece-over col t pos over).1 h.0.0
      | inr fits ↦ rw (piece-fits col t pos fits).1 (omega arith)
    ] in
    let next = words-flow (column col t) ts t rest ahead h.1 in
    let with_break : (b : ℕ) → is_break b ≡ true → piece col t ≡ b ∷ t → words (front ++ ((piece col t ++ more) ++ 10 ∷ rest)) ≡ words front ++ (flat_map words (t ∷ ts) ++ words rest) = λ b e p.
    ap (λ (x : List ℕ). words (front ++ ((x ++ more) ++ 10 ∷ rest))) p
    ∙ ap (λ (x : List ℕ). words (front ++ b ∷ x)) (append_assoc t more (10 ∷ rest))
    ∙ words-cut front b (t ++ (more ++ 10 ∷ rest)) e
    ∙ ap (λ (x : List (List ℕ)). words front ++ x) (next ∙ sym (append_assoc (words t) (flat_map words ts) (words rest))) in
    elim (cases_lt 79 (col + 1 + length t)) [
      | inl over ↦ with_break 10 refl (piece-over col t pos over).0
      | inr fits ↦ with_break 32 refl (piece-fits col t pos fits).0
    ]

-- ---- what the tokens are, front words

no_break : (b : ℕ) → 32 < b → is_break b ≡ false
no_break b h = search (rules, tests, arith)

NoBreak-digits : (ds : List ℕ) → AllByRecursion IsDigit ds → NoBreak ds
NoBreak-digits [] h = tt
NoBreak-digits (d ∷ ds) h = (no_break d (omega (arith, h.0.0)), NoBreak-digits ds h.1)

NoBreak-printable : (bs : List ℕ) → AllByRecursion IsSanByte bs → NoBreak bs
NoBreak-printable [] h = tt
NoBreak-printable (b ∷ bs) h = (no_break b h.0.0, NoBreak-printable bs h.1)

-- one word that is passed over
record IsPassed (w : List ℕ) : Type 0 where
  no_break : NoBreak w
  no_move : is_move w ≡ false
  no_comment : is_comment w ≡ false

low_no_move : (b : ℕ) (bs : List ℕ) → b < 58 → is_move (b ∷ bs) ≡ false
low_no_move b bs h = search (rules, tests, arith)

low_no_comment : (b : ℕ) (bs : List ℕ) → b < 58 → is_comment (b ∷ bs) ≡ false
low_no_comment b bs h = search (rules, tests, arith)

letter_no_comment : (b : ℕ) (bs : List ℕ) → b < 123 → is_comment (b ∷ bs) ≡ false
letter_no_comment b bs h = search (rules, tests, arith)

letter_move : (b : ℕ) (bs : List ℕ) → 64 < b → b < 123 → is_move (b ∷ bs) ≡ true
letter_move b bs l h = search (rules, tests, arith)

digits_passed : (ds s : List ℕ) → AllByRecursion IsDigit ds → 0 < length ds → NoBreak s → IsPassed (ds ++ s)
digits_passed [] s h some k = absurd (omega arith)
digits_passed (d ∷ ds) s h some k = record {
  no_break = All-append (λ b. is_break b ≡ false) (d ∷ ds) s (NoBreak-digits (d ∷ ds) h) k;
  no_move = low_no_move d (ds ++ s) h.0.1;
  no_comment = low_no_comment d (ds ++ s) h.0.1;
}

number_passed : (side : Side) (n : ℕ) → n < 10000 → IsPassed (number_token side n)
number_passed White n lt = let d = digits_of n (omega arith) in digits_passed (decimal n) (codes ".") d.0 d.1 (refl, tt)
number_passed Black n lt = let d = digits_of n (omega arith) in digits_passed (decimal n) (codes "...") d.0 d.1 (refl, (refl, (refl, tt)))

result_passed : (result : Option Outcome) → IsPassed (result_text result)
result_passed (Some WhiteWins) = record { no_break = (refl, (refl, (refl, tt))); no_move = refl; no_comment = refl }
result_passed (Some BlackWins) = record { no_break = (refl, (refl, (refl, tt))); no_move = refl; no_comment = refl }
result_passed (Some Drawn) = record { no_break = (refl, (refl, (refl, (refl, (refl, (refl, (refl, tt))))))); no_move = refl; no_comment = refl }
result_passed None = record { no_break = (refl, tt); no_move = refl; no_comment = refl }

-- no comment stands at the front
abbrev NoComment : List (List ℕ) → Type 0
NoComment [] = Unit {0}
NoComment (w ∷ ws) = is_comment w ≡ false

no_clock : (ws : List (List ℕ)) → NoComment ws → clock_at ws ≡ None
no_clock [] h = refl
no_clock (w ∷ []) h = refl
no_clock (w ∷ v ∷ ws) h = rw h refl

-- ---- a clock comment

abbrev time_text : Hms → List ℕ
time_text t = (48 + t.hours) ∷ 58 ∷ (two_digits t.minutes ++ (58 ∷ two_digits t.seconds ++ codes "]}"))

digits_back : (m : ℕ) → m < 60 → (48 + m / 10 - 48) * 10 + (48 + m % 10 - 48) ≡ m
digits_back m lt = omega arith

time_back : (t : Hms) → IsTime t → time_at (time_text t) ≡ t
time_back t h =
    let a : 48 + t.hours - 48 ≡ t.hours = omega arith in
    let b = digits_back t.minutes (omega (arith, h.1)) in
    let c = digits_back t.seconds (omega (arith, h.2)) in
    rw (a, b, c) refl

clock_words : (t : Hms) → IsTime t → words (clock_text t) ≡ codes "{[%clk" ∷ time_text t ∷ []
clock_words t h =
    words-cut (codes "{[%clk") 32 (time_text t) refl
    ∙ ap (λ (x : List (List ℕ)). codes "{[%clk" ∷ x) (words-one (time_text t)
    (no_break (48 + t.hours) (omega arith), (refl, (no_break (48 + t.minutes / 10) (omega arith), (no_break (48 + t.minutes % 10) (omega arith), (refl, (no_break (48 + t.seconds / 10) (omega arith), (no_break (48 + t.seconds % 10) (omega arith), (refl, (refl, tt))))))))))

-- ---- the plies come back

pass : (w : List ℕ) (ws : List (List ℕ)) → is_move w ≡ false → turns_at (w ∷ ws) ≡ turns_at ws
pass w ws e = rw e refl

abbrev SanWord : List ℕ → Type 0
SanWord san = (is_move san ≡ true) × (is_comment san ≡ false) × (words san ≡ san ∷ [])

san_word : (san : List ℕ) → IsSanText san → BeginsWithLetter san → SanWord san
san_word [] h letter = absurd (omega (arith, h.low))
san_word (b ∷ bs) h letter = (letter_move b bs letter.0 letter.1, letter_no_comment b bs letter.1, words-one (b ∷ bs) (NoBreak-printable (b ∷ bs) (recursion_from_All IsSanByte (b ∷ bs) h.bytes)))

-- what the words of some plies give, before other words
record GivesBack (ps : List Turn) (ws tail : List (List ℕ)) : Type 0 where
  turns : turns_at (ws ++ tail) ≡ ps ++ turns_at tail
  front : NoComment (ws ++ tail)

clock_gives : (san : List ℕ) (clock : Option Hms) (ps : List Turn) (ws tail : List (List ℕ)) → SanWord san → (IfTime : (t : Hms) → clock ≡ Some t → IsTime t) → GivesBack ps ws tail
    → GivesBack (record { san = san; clock = clock } ∷ ps) ((san ∷ flat_map words (clock_tokens clock)) ++ ws) tail
clock_gives san None ps ws tail w ifTime g = record {
  turns = rw (w.0, no_clock (ws ++ tail) g.front) (ap (λ (x : List Turn). record { san = san; clock = None } ∷ x) g.turns);
  front = w.1;
}
clock_gives san (Some t) ps ws tail w ifTime g =
    let time = ifTime t refl in
    let regroup : ((san ∷ words (clock_text t) ++ []) ++ ws) ++ tail ≡ san ∷ codes "{[%clk" ∷ time_text t ∷ (ws ++ tail) =
    ap (λ (x : List (List ℕ)). ((san ∷ x ++ []) ++ ws) ++ tail) (clock_words t time) in
    let later : turns_at (codes "{[%clk" ∷ time_text t ∷ (ws ++ tail)) ≡ ps ++ turns_at tail = rw (low_no_move (48 + t.hours) _ (omega arith)) g.turns in
    record {
      turns = ap turns_at regroup ∙ rw (w.0, later, time_back t time) refl;
      front = subst NoComment (sym regroup) w.1;
    }

number_gives : (w : List ℕ) (ps : List Turn) (ts tail : List (List ℕ)) → IsPassed w → GivesBack ps (flat_map words ts) tail → GivesBack ps (flat_map words (w ∷ ts)) tail
number_gives w ps ts tail h g =
    let e : flat_map words (w ∷ ts) ++ tail ≡ w ∷ (flat_map words ts ++ tail) = ap (λ (x : List (List ℕ)). (x ++ flat_map words ts) ++ tail) (words-one w h.no_break) in
    record { turns = ap turns_at e ∙ pass w (flat_map words ts ++ tail) h.no_move ∙ g.turns; front = subst NoComment (sym e) h.no_comment }

numbered : (side : Side) (n : ℕ) (wanted : Bool) (ps : List Turn) (ts tail : List (List ℕ)) → n < 10000 → GivesBack ps (flat_map words ts) tail
    → GivesBack ps (flat_map words (number_tokens side n wanted ++ ts)) tail
numbered White n wanted ps ts tail lt g = number_gives (number_token White n) ps ts tail (number_passed White n lt) g
numbered Black n true ps ts tail lt g = number_gives (number_token Black n) ps ts tail (number_passed Black n lt) g
numbered Black n false ps ts tail lt g = g

clock_in : (clock : Option Hms) → ForSome clock IsTime → (t : Hms) → clock ≡ Some t → IsTime t
clock_in None h t e = absurd cc
clock_in (Some u) h t e = h t e

-- what is read of a move
abbrev pub turn_of : ShownMove → Turn
turn_of shown = record { san = shown.san; clock = shown.clock }

turns_back : (wanted : Bool) (moves : List ShownMove) (tail : List (List ℕ)) → AllByRecursion Fits moves → NoComment tail
    → GivesBack (map turn_of moves) (flat_map words (tokens_of wanted moves)) tail
turns_back wanted [] tail h k = record { turns = refl; front = k }
turns_back wanted (p ∷ ps) tail h k =
    let more = tokens_of (is_some p.clock) ps in
    let turns = map turn_of ps in
    let rest = turns_back (is_some p.clock) ps tail h.1 k in
    let w = san_word p.san h.0.plain h.0.letter in
    let own : GivesBack (turn_of p ∷ turns) ((p.san ∷ flat_map words (clock_tokens p.clock)) ++ flat_map words more) tail =
    clock_gives p.san p.clock turns (flat_map words more) tail w (clock_in p.clock h.0.clock) rest in
    let san_first : flat_map words ((p.san ∷ clock_tokens p.clock) ++ more) ≡ (p.san ∷ flat_map words (clock_tokens p.clock)) ++ flat_map words more =
    flat_map-append words (p.san ∷ clock_tokens p.clock) more ∙ ap (λ (x : List (List ℕ)). (x ++ flat_map words (clock_tokens p.clock)) ++ flat_map words more) w.2 in
    let plain : GivesBack (turn_of p ∷ turns) (flat_map words ((p.san ∷ clock_tokens p.clock) ++ more)) tail = subst (λ (x : List (List ℕ)). GivesBack (turn_of p ∷ turns) x tail) (sym san_first) own in
    let regroup = append_assoc (number_tokens p.side p.number wanted) (p.san ∷ clock_tokens p.clock) more in
    subst (λ (x : List (List ℕ)). GivesBack (turn_of p ∷ turns) (flat_map words x) tail) (sym regroup)
    (numbered p.side p.number wanted (turn_of p ∷ turns) ((p.san ∷ clock_tokens p.clock) ++ more) tail h.0.number plain)

from_first : (ts : List (List ℕ)) → AllByRecursion IsToken ts → 0 < length ts → words (flow 0 ts ++ 10 ∷ 10 ∷ []) ≡ flat_map words ts ++ ([] ∷ [] ∷ [])
from_first [] h some = absurd (omega arith)
from_first (t ∷ ts) h some =
    ap words (append_assoc t (flow (length t) ts) (10 ∷ 10 ∷ [])) ∙ words-flow (length t) ts t (10 ∷ []) h.0.0 h.1 ∙ sym (append_assoc (words t) (flat_map words ts) ([] ∷ [] ∷ []))

-- the moves of a movetext are those of the game
pub movetext_back : (moves : List ShownMove) (result : Option Outcome) → AllByRecursion Fits moves → AllByRecursion IsToken (game_tokens moves result)
    → turns_at (words (flow 0 (game_tokens moves result) ++ 10 ∷ 10 ∷ [])) ≡ map turn_of moves
movetext_back moves result h tokens =
    let ts = tokens_of true moves in
    let mark = result_text result in
    let first = from_first (game_tokens moves result) tokens (omega (arith, length-append ts (mark ∷ []))) in
    let p = result_passed result in
    let marks : flat_map words (game_tokens moves result) ≡ flat_map words ts ++ (mark ∷ []) =
    flat_map-append words ts (mark ∷ []) ∙ ap (λ (x : List (List ℕ)). flat_map words ts ++ (x ++ [])) (words-one mark p.no_break) in
    let tail : List (List ℕ) = mark ∷ [] ∷ [] ∷ [] in
    let back = turns_back true moves tail h p.no_comment in
    let end : turns_at tail ≡ [] = pass mark ([] ∷ [] ∷ []) p.no_move in
    ap turns_at (first ∙ ap (λ (x : List (List ℕ)). x ++ ([] ∷ [] ∷ [])) marks ∙ append_assoc (flat_map words ts) (mark ∷ []) ([] ∷ [] ∷ []))
    ∙ back.turns ∙ ap (λ (x : List Turn). map turn_of moves ++ x) end ∙ append-nil (map turn_of moves)

-- ---- for the reader

pub NoBreak-more : (bs : List ℕ) (i : ℕ) → i < length bs → NoBreak (take i bs) → is_break (get_or bs i 0) ≡ false → NoBreak (take (i + 1) bs)
NoBreak-more bs i lt h e = rw (take_more bs i 0 lt) (All-append (λ b. is_break b ≡ false) (take i bs) (get_or bs i 0 ∷ []) h (e, tt))

pub words-at : (bs : List ℕ) (i : ℕ) → i < length bs → NoBreak (take i bs) → is_break (get_or bs i 0) ≡ true → words bs ≡ take i bs ∷ words (drop (i + 1) bs)
words-at bs i lt h e =
    let cut : drop i bs ≡ get_or bs i 0 ∷ drop (i + 1) bs = rw (add-one, drop-cons bs i 0) refl in
    let whole : bs ≡ take i bs ++ get_or bs i 0 ∷ drop (i + 1) bs = sym (take-append-drop i bs) ∙ ap (λ (x : List ℕ). take i bs ++ x) cut in
    ap words whole ∙ words-cut (take i bs) (get_or bs i 0) (drop (i + 1) bs) e ∙ ap (λ (x : List (List ℕ)). x ++ words (drop (i + 1) bs)) (words-one (take i bs) h)
