-- The movetext as a writer makes it, token by token, and that it is the only one.
use Rattle.std.proofs.Common.{◌≡◌, ℕ, ◌+◌, ◌<◌, ◌≤◌, true, false, cond, eqb, leb, List, [], ◌∷◌, ◌++◌, length, refl, sym, ap, subst, ◌∙◌, append_assoc, arith, inl, inr, rules, length-append}
use Rattle.std.specs.List.{flat_map, AllByRecursion}
use Rattle.std.proofs.lemmas.Bool.{cases_lt}
use Rattle.pgn_book.specs.Inside.Flow.{piece, column, flow, column_after}
use Rattle.pgn_book.specs.Lines.{line_text, IsLine, first_length, AreFull, AreLines, lines_text, IsMovetext, IsToken}

pub flow-append : (col : ℕ) (ts us : List (List ℕ)) → flow col (ts ++ us) ≡ flow col ts ++ flow (column_after col ts) us
flow-append col [] us = refl
flow-append col (t ∷ ts) us = ap (λ (x : List ℕ). piece col t ++ x) (flow-append (column col t) ts us) ∙ sym (append_assoc (piece col t) (flow (column col t) ts) (flow (column_after (column col t) ts) us))

pub column_after-append : (col : ℕ) (ts us : List (List ℕ)) → column_after col (ts ++ us) ≡ column_after (column_after col ts) us
column_after-append col [] us = refl
column_after-append col (t ∷ ts) us = column_after-append (column col t) ts us

abbrev tail : List (List ℕ) → List ℕ
tail ts = flat_map (λ (u : List ℕ). 32 ∷ u) ts

piece-first : (t : List ℕ) → piece 0 t ≡ t
piece-first t = refl

leb-true : (m n : ℕ) → m ≤ n → leb m n ≡ true
leb-true m n h = search (rules, arith)

leb-false : (m n : ℕ) → n < m → leb m n ≡ false
leb-false m n h = search (rules, arith)

eqb-suc : (m : ℕ) → 0 < m → eqb m 0 ≡ false
eqb-suc m h = search (rules, arith)

pub piece-fits : (col : ℕ) (t : List ℕ) → 0 < col → col + 1 + length t ≤ 79 → (piece col t ≡ 32 ∷ t) × (column col t ≡ col + 1 + length t)
piece-fits col t pos fits = (rw (eqb-suc col pos, leb-true (col + 1 + length t) 79 fits) refl, rw (eqb-suc col pos, leb-true (col + 1 + length t) 79 fits) refl)

pub piece-over : (col : ℕ) (t : List ℕ) → 0 < col → 79 < col + 1 + length t → (piece col t ≡ 10 ∷ t) × (column col t ≡ length t)
piece-over col t pos over = (rw (eqb-suc col pos, leb-false (col + 1 + length t) 79 over) refl, rw (eqb-suc col pos, leb-false (col + 1 + length t) 79 over) refl)

-- ---- there is one text at most

length-tail : (t : List ℕ) (ts : List (List ℕ)) → length (tail (t ∷ ts)) ≡ 1 + length t + length (tail ts)
length-tail t ts = omega (arith, length-append (32 ∷ t) (tail ts))

-- the rest of a line that fits, and what comes after it
along_line : (col : ℕ) (ts : List (List ℕ)) (us : List (List ℕ)) (more end : List ℕ) → 0 < col → col + length (tail ts) ≤ 79
    → more ≡ flow (col + length (tail ts)) us ++ end → tail ts ++ more ≡ flow col (ts ++ us) ++ end
along_line col [] us more end pos fits e = let c : col + 0 ≡ col = omega arith in e ∙ ap (λ (n : ℕ). flow n us ++ end) c
along_line col (t ∷ ts) us more end pos fits e =
    let len = length-tail t ts in
    let p = piece-fits col t pos (omega arith) in
    let at : col + length (tail (t ∷ ts)) ≡ col + 1 + length t + length (tail ts) = omega arith in
    let next : tail ts ++ more ≡ flow (col + 1 + length t) (ts ++ us) ++ end =
    along_line (col + 1 + length t) ts us more end (omega arith) (omega arith) (e ∙ ap (λ (n : ℕ). flow n us ++ end) at) in
    append_assoc (32 ∷ t) (tail ts) more ∙ ap (λ (x : List ℕ). 32 ∷ t ++ x) next
    ∙ sym (append_assoc (32 ∷ t) (flow (col + 1 + length t) (ts ++ us)) end)
    ∙ ap (λ (x : List ℕ). (x ++ flow (col + 1 + length t) (ts ++ us)) ++ end) (sym p.0)
    ∙ ap (λ (n : ℕ). (piece col t ++ flow n (ts ++ us)) ++ end) (sym p.1)

-- these lines may follow a line of n characters
abbrev Follows : ℕ → List (List (List ℕ)) → Type 0
Follows n [] = Unit {0}
Follows n (m ∷ ls) = (79 < n + 1 + first_length m) × AreFull (m ∷ ls)

Follows-next : (m : List (List ℕ)) (ls : List (List (List ℕ))) → AreFull (m ∷ ls) → Follows (length (line_text m)) ls
Follows-next m [] h = tt
Follows-next m (l ∷ ls) h = h

tokens_of : List (List (List ℕ)) → List (List ℕ)
tokens_of ls = flat_map (λ l. l) ls

-- from the end of a line of n characters on
from_end : (n : ℕ) (ls : List (List (List ℕ))) → 0 < n → AllByRecursion IsLine ls → AllByRecursion (λ l. 0 < first_length l) ls → Follows n ls
    → 10 ∷ lines_text ls ≡ flow n (flat_map (λ l. l) ls) ++ 10 ∷ []
from_end n [] pos each first follows = refl
from_end n ([] ∷ ls) pos each first follows = absurd (omega (arith, each.0.0))
from_end n ((t ∷ ts) ∷ ls) pos each first follows =
    let p = piece-over n t pos follows.0 in
    let len : length (t ++ tail ts) ≡ length t + length (tail ts) = omega (arith, length-append t (tail ts)) in
    let fits : length t + length (tail ts) ≤ 79 = omega (arith, each.0.1) in
    let next : 10 ∷ lines_text ls ≡ flow (length t + length (tail ts)) (flat_map (λ l. l) ls) ++ 10 ∷ [] =
    subst (λ (k : ℕ). 10 ∷ lines_text ls ≡ flow k (flat_map (λ l. l) ls) ++ 10 ∷ []) len
    (from_end (length (t ++ tail ts)) ls (omega (arith, first.0)) each.1 first.1 (Follows-next (t ∷ ts) ls follows.1)) in
    let line : tail ts ++ 10 ∷ lines_text ls ≡ flow (length t) (ts ++ flat_map (λ l. l) ls) ++ 10 ∷ [] =
    along_line (length t) ts (flat_map (λ l. l) ls) (10 ∷ lines_text ls) (10 ∷ []) first.0 fits next in
    ap (λ (x : List ℕ). 10 ∷ x) (append_assoc (t ++ tail ts) (10 ∷ []) (lines_text ls) ∙ append_assoc t (tail ts) (10 ∷ lines_text ls) ∙ ap (λ (x : List ℕ). t ++ x) line)
    ∙ sym (append_assoc (10 ∷ t) (flow (length t) (ts ++ flat_map (λ l. l) ls)) (10 ∷ []))
    ∙ ap (λ (x : List ℕ). (x ++ flow (length t) (ts ++ flat_map (λ l. l) ls)) ++ 10 ∷ []) (sym p.0)
    ∙ ap (λ (k : ℕ). (piece n t ++ flow k (ts ++ flat_map (λ l. l) ls)) ++ 10 ∷ []) (sym p.1)

-- the same from the start
from_start : (ls : List (List (List ℕ))) → 0 < length ls → AllByRecursion IsLine ls → AllByRecursion (λ l. 0 < first_length l) ls → AreFull ls
    → lines_text ls ≡ flow 0 (flat_map (λ l. l) ls) ++ 10 ∷ []
from_start [] some each first full = absurd (omega arith)
from_start ([] ∷ ls) some each first full = absurd (omega (arith, each.0.0))
from_start ((t ∷ ts) ∷ ls) some each first full =
    let len : length (t ++ tail ts) ≡ length t + length (tail ts) = omega (arith, length-append t (tail ts)) in
    let fits : length t + length (tail ts) ≤ 79 = omega (arith, each.0.1) in
    let next : 10 ∷ lines_text ls ≡ flow (length t + length (tail ts)) (flat_map (λ l. l) ls) ++ 10 ∷ [] =
    subst (λ (k : ℕ). 10 ∷ lines_text ls ≡ flow k (flat_map (λ l. l) ls) ++ 10 ∷ []) len
    (from_end (length (t ++ tail ts)) ls (omega (arith, first.0)) each.1 first.1 (Follows-next (t ∷ ts) ls full)) in
    let line : tail ts ++ 10 ∷ lines_text ls ≡ flow (length t) (ts ++ flat_map (λ l. l) ls) ++ 10 ∷ [] =
    along_line (length t) ts (flat_map (λ l. l) ls) (10 ∷ lines_text ls) (10 ∷ []) first.0 fits next in
    append_assoc (t ++ tail ts) (10 ∷ []) (lines_text ls) ∙ append_assoc t (tail ts) (10 ∷ lines_text ls) ∙ ap (λ (x : List ℕ). t ++ x) line
    ∙ sym (append_assoc t (flow (length t) (ts ++ flat_map (λ l. l) ls)) (10 ∷ []))

-- the first token of each line is a token
All-append_left : (P : List ℕ → Type 0) (xs ys : List (List ℕ)) → AllByRecursion P (xs ++ ys) → AllByRecursion P xs × AllByRecursion P ys
All-append_left P [] ys h = (tt, h)
All-append_left P (x ∷ xs) ys h = let r = All-append_left P xs ys h.1 in ((h.0, r.0), r.1)

first_tokens : (ls : List (List (List ℕ))) → AllByRecursion IsLine ls → AllByRecursion IsToken (flat_map (λ l. l) ls) → AllByRecursion (λ l. 0 < first_length l) ls
first_tokens [] each tokens = tt
first_tokens ([] ∷ ls) each tokens = absurd (omega (arith, each.0.0))
first_tokens ((t ∷ ts) ∷ ls) each tokens = (tokens.0.0, first_tokens ls each.1 (All-append_left IsToken ts (flat_map (λ l. l) ls) tokens.1).1)

-- the text of lines of these tokens is what the tokens add, one after another
pub text_of_lines : (ts : List (List ℕ)) (ls : List (List (List ℕ))) → 0 < length ts → AllByRecursion IsToken ts → AreLines ts ls → lines_text ls ≡ flow 0 ts ++ 10 ∷ []
text_of_lines ts [] some tokens h = absurd (omega (arith, ap length h.whole))
text_of_lines ts (l ∷ ls) some tokens h =
    from_start (l ∷ ls) (omega arith) h.each (first_tokens (l ∷ ls) h.each (subst (AllByRecursion IsToken) (sym h.whole) tokens)) h.full
    ∙ ap (λ (x : List (List ℕ)). flow 0 x ++ 10 ∷ []) h.whole

-- ---- there is one

-- the rest of a line of col characters, and the lines after it, of these tokens
abbrev line_rest : ℕ → List (List ℕ) → List (List ℕ)
line_rest col [] = []
line_rest col (t ∷ ts) = cond (leb (col + 1 + length t) 79) (t ∷ line_rest (col + 1 + length t) ts) []

abbrev lines_rest : ℕ → List (List ℕ) → List (List (List ℕ))
lines_rest col [] = []
lines_rest col (t ∷ ts) = cond (leb (col + 1 + length t) 79) (lines_rest (col + 1 + length t) ts) ((t ∷ line_rest (length t) ts) ∷ lines_rest (length t) ts)

record Grouped (col : ℕ) (ts : List (List ℕ)) (line : List (List ℕ)) (ls : List (List (List ℕ))) : Type 0 where
  whole : line ++ flat_map (λ l. l) ls ≡ ts
  fits : col + length (tail line) ≤ 79
  each : AllByRecursion IsLine ls
  follows : Follows (col + length (tail line)) ls

AreFull-cons : (m : List (List ℕ)) (ls : List (List (List ℕ))) → Follows (length (line_text m)) ls → AreFull (m ∷ ls)
AreFull-cons m [] h = tt
AreFull-cons m (l ∷ ls) h = h

grouped : (col : ℕ) (ts : List (List ℕ)) → col ≤ 79 → AllByRecursion IsToken ts → Grouped col ts (line_rest col ts) (lines_rest col ts)
grouped col [] le tokens = record { whole = refl; fits = omega arith; each = tt; follows = tt }
grouped col (t ∷ ts) le tokens =
    elim (cases_lt 79 (col + 1 + length t)) [
      | inl over ↦
          let e = leb-false (col + 1 + length t) 79 over in
          let g = grouped (length t) ts tokens.0.1 tokens.1 in
          let made : Grouped col (t ∷ ts) [] ((t ∷ line_rest (length t) ts) ∷ lines_rest (length t) ts) =
          let len : length (t ++ tail (line_rest (length t) ts)) ≡ length t + length (tail (line_rest (length t) ts)) = omega (arith, length-append t (tail (line_rest (length t) ts))) in
          record {
            whole = ap (λ (x : List (List ℕ)). t ∷ x) g.whole;
            fits = omega arith;
            each = ((omega arith, omega (arith, g.fits)), g.each);
            follows = (omega arith, AreFull-cons (t ∷ line_rest (length t) ts) (lines_rest (length t) ts) (subst (λ (k : ℕ). Follows k (lines_rest (length t) ts)) (sym len) g.follows));
          } in
          rw e made
      | inr fits ↦
          let e = leb-true (col + 1 + length t) 79 fits in
          let g = grouped (col + 1 + length t) ts fits tokens.1 in
          let made : Grouped col (t ∷ ts) (t ∷ line_rest (col + 1 + length t) ts) (lines_rest (col + 1 + length t) ts) =
          let len : col + 1 + length t + length (tail (line_rest (col + 1 + length t) ts)) ≡ col + length (tail (t ∷ line_rest (col + 1 + length t) ts)) = omega (arith, length-tail t (line_rest (col + 1 + length t) ts)) in
          record {
            whole = ap (λ (x : List (List ℕ)). t ∷ x) g.whole;
            fits = omega (arith, g.fits);
            each = g.each;
            follows = subst (λ (k : ℕ). Follows k (lines_rest (col + 1 + length t) ts)) len g.follows;
          } in
          rw e made
    ]

pub lines_of : (ts : List (List ℕ)) → 0 < length ts → AllByRecursion IsToken ts → (ls : List (List (List ℕ))) × AreLines ts ls
lines_of [] some tokens = absurd (omega arith)
lines_of (t ∷ ts) some tokens =
    let g = grouped (length t) ts tokens.0.1 tokens.1 in
    let len : length (t ++ tail (line_rest (length t) ts)) ≡ length t + length (tail (line_rest (length t) ts)) = omega (arith, length-append t (tail (line_rest (length t) ts))) in (
      (t ∷ line_rest (length t) ts) ∷ lines_rest (length t) ts,
      record {
        whole = ap (λ (x : List (List ℕ)). t ∷ x) g.whole;
        each = ((omega arith, omega (arith, g.fits)), g.each);
        full = AreFull-cons (t ∷ line_rest (length t) ts) (lines_rest (length t) ts) (subst (λ (k : ℕ). Follows k (lines_rest (length t) ts)) (sym len) g.follows);
      },
    )

pub movetext_of : (ts : List (List ℕ)) → 0 < length ts → AllByRecursion IsToken ts → IsMovetext ts (flow 0 ts ++ 10 ∷ [])
movetext_of ts some tokens =
    let l = lines_of ts some tokens in
    (l.0, l.1, sym (text_of_lines ts l.0 some tokens l.1))

pub movetext_is : (ts : List (List ℕ)) (text : List ℕ) → 0 < length ts → AllByRecursion IsToken ts → IsMovetext ts text → text ≡ flow 0 ts ++ 10 ∷ []
movetext_is ts text some tokens h = h.2 ∙ text_of_lines ts h.0 some tokens h.1

-- one text, and at least one
pub one_movetext : (ts : List (List ℕ)) (a b : List ℕ) → 0 < length ts → AllByRecursion IsToken ts → IsMovetext ts a → IsMovetext ts b → a ≡ b
one_movetext ts a b some tokens h k = movetext_is ts a some tokens h ∙ sym (movetext_is ts b some tokens k)
