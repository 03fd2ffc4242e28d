-- The squares of a placement are those of the board.
use Rattle.std.proofs.Common.{◌≡◌, ℕ, zero, suc, ◌+◌, ◌-◌, ◌*◌, ◌<◌, ◌≤◌, true, false, eqb, ltb, List, [], ◌∷◌, ◌++◌, length, take, drop, get_or, replicate, refl, sym, ap, ◌∙◌, arith, rules, tests, inl, inr, length-append}
use Rattle.std.specs.List.{All, AllByRecursion}
use Rattle.std.proofs.lemmas.Bool.{cases_lt}
use Rattle.std.proofs.lemmas.List.{take-append-drop, length-take, length-drop, append-nil, nil_from_length, drop-drop, take_more}
use Rattle.std.proofs.lemmas.List.Concat.{flat_map-append}
use Rattle.std.proofs.lemmas.List.Elements.{recursion_from_All, All-take, All-drop}
use Rattle.chess_text.specs.Placement.{code_letter, run_text, rank_text, ranks_text, placement}
use Rattle.chess_text.specs.Placement.{IsBoardPicture, squares_at, squares}

-- a letter gives its code back: by all thirteen
letter_back : (c : ℕ) → 0 < c → c < 13 → squares_at (code_letter c) ≡ c ∷ []
letter_back zero pos lt = absurd (omega arith)
letter_back (suc zero) pos lt = refl
letter_back (suc (suc zero)) pos lt = refl
letter_back (suc (suc (suc zero))) pos lt = refl
letter_back (suc (suc (suc (suc zero)))) pos lt = refl
letter_back (suc (suc (suc (suc (suc zero))))) pos lt = refl
letter_back (suc (suc (suc (suc (suc (suc zero)))))) pos lt = refl
letter_back (suc (suc (suc (suc (suc (suc (suc zero))))))) pos lt = refl
letter_back (suc (suc (suc (suc (suc (suc (suc (suc zero)))))))) pos lt = refl
letter_back (suc (suc (suc (suc (suc (suc (suc (suc (suc zero))))))))) pos lt = refl
letter_back (suc (suc (suc (suc (suc (suc (suc (suc (suc (suc zero)))))))))) pos lt = refl
letter_back (suc (suc (suc (suc (suc (suc (suc (suc (suc (suc (suc zero))))))))))) pos lt = refl
letter_back (suc (suc (suc (suc (suc (suc (suc (suc (suc (suc (suc (suc zero)))))))))))) pos lt = refl
letter_back (suc (suc (suc (suc (suc (suc (suc (suc (suc (suc (suc (suc (suc c))))))))))))) pos lt = absurd (omega arith)

run_squares : (n : ℕ) → 0 < n → n ≤ 8 → squares_at (48 + n) ≡ replicate n 0
run_squares n pos le =
    let a : eqb (48 + n) 47 ≡ false = search (rules, tests, arith) in
    let b : ltb (48 + n) 58 ≡ true = search (rules, tests, arith) in
    let d : 48 + n - 48 ≡ n = omega arith in
    rw (a, b, d) refl

run_back : (n : ℕ) → n ≤ 8 → squares (run_text n) ≡ replicate n 0
run_back n le = elim (cases_lt 0 n) as (λ _. squares (run_text n) ≡ replicate n 0) [
  | inl pos ↦ let e : eqb n 0 ≡ false = search (rules, tests, arith) in rw e (ap (λ (x : List ℕ). x ++ []) (run_squares n pos le) ∙ append-nil (replicate n 0))
  | inr none ↦ let e : n ≡ 0 = omega arith in rw e refl
]

replicate-more : (n : ℕ) (cs : List ℕ) → replicate (n + 1) 0 ++ cs ≡ replicate n 0 ++ 0 ∷ cs
replicate-more zero cs = refl
replicate-more (suc n) cs = let e : suc n + 1 ≡ suc (n + 1) = omega arith in ap (λ (m : ℕ). replicate m 0 ++ cs) e ∙ ap (λ (x : List ℕ). 0 ∷ x) (replicate-more n cs)

rank_back : (n : ℕ) (cs : List ℕ) → n + length cs ≤ 8 → AllByRecursion (λ c. c < 13) cs → squares (rank_text n cs) ≡ replicate n 0 ++ cs
rank_back n [] le h = run_back n (omega arith) ∙ sym (append-nil (replicate n 0))
rank_back n (c ∷ cs) le h = elim (cases_lt 0 c) as (λ _. squares (rank_text n (c ∷ cs)) ≡ replicate n 0 ++ c ∷ cs) [
  | inl pos ↦
      let e : eqb c 0 ≡ false = search (rules, tests, arith) in
      let here : squares (run_text n ++ code_letter c ∷ rank_text 0 cs) ≡ replicate n 0 ++ c ∷ cs =
      flat_map-append squares_at (run_text n) (code_letter c ∷ rank_text 0 cs)
      ∙ ap (λ (x : List ℕ). x ++ (squares_at (code_letter c) ++ squares (rank_text 0 cs))) (run_back n (omega arith))
      ∙ ap (λ (x : List ℕ). replicate n 0 ++ (x ++ squares (rank_text 0 cs))) (letter_back c pos h.0)
      ∙ ap (λ (x : List ℕ). replicate n 0 ++ c ∷ x) (rank_back 0 cs (omega arith) h.1) in
      rw e here
  | inr none ↦
      let e : c ≡ 0 = omega arith in
      rw e (rank_back (n + 1) cs (omega arith) h.1 ∙ replicate-more n cs)
]

ranks_back : (k : ℕ) (board : List ℕ) → length board ≡ 8 * k → All (λ c. c < 13) board → squares (ranks_text k board) ≡ board
unfolding ranks_text
ranks_back zero board e h = sym (nil_from_length board (omega arith))
ranks_back (suc k) board e h =
    let row = take 8 board in
    let rest = drop 8 board in
    let short : 0 + length row ≤ 8 = omega (arith, length-take 8 board) in
    let left : length rest ≡ 8 * k = omega (arith, length-drop 8 board) in
    flat_map-append squares_at (rank_text 0 row) (ranks_text k rest)
    ∙ ap (λ (x : List ℕ). x ++ squares (ranks_text k rest)) (rank_back 0 row short (recursion_from_All (λ c. c < 13) row (All-take (λ c. c < 13) 8 board h)))
    ∙ ap (λ (x : List ℕ). row ++ x) (ranks_back k rest left (All-drop (λ c. c < 13) 8 board h))
    ∙ take-append-drop 8 board

pub board_back : (board : List ℕ) → IsBoardPicture board → squares (placement board) ≡ board
board_back board h =
    let row = take 8 board in
    let rest = drop 8 board in
    let short : 0 + length row ≤ 8 = omega (arith, length-take 8 board) in
    let left : length rest ≡ 8 * 7 = omega (arith, length-drop 8 board, h.squares) in
    flat_map-append squares_at (rank_text 0 row) (ranks_text 7 rest)
    ∙ ap (λ (x : List ℕ). x ++ squares (ranks_text 7 rest)) (rank_back 0 row short (recursion_from_All (λ c. c < 13) row (All-take (λ c. c < 13) 8 board h.codes)))
    ∙ ap (λ (x : List ℕ). row ++ x) (ranks_back 7 rest left (All-drop (λ c. c < 13) 8 board h.codes))
    ∙ take-append-drop 8 board

-- two pictures of boards never share a placement
pub one_picture : (a b : List ℕ) → IsBoardPicture a → IsBoardPicture b → placement a ≡ placement b → a ≡ b
one_picture a b h k e = sym (board_back a h) ∙ ap squares e ∙ board_back b k

-- ---- for the writer

pub ranks_next : (r : ℕ) (b : List ℕ) → r < 8 → ranks_text (8 - r) (drop (8 * r) b) ≡ 47 ∷ rank_text 0 (take 8 (drop (8 * r) b)) ++ ranks_text (8 - (r + 1)) (drop (8 * (r + 1)) b)
unfolding ranks_text
ranks_next r b lt =
    let k : 8 - r ≡ suc (8 - (r + 1)) = omega arith in
    let d : drop 8 (drop (8 * r) b) ≡ drop (8 * (r + 1)) b = drop-drop 8 (8 * r) b ∙ ap (λ (n : ℕ). drop n b) (omega arith) in
    rw (k, d) refl

pub ranks_end : (b : List ℕ) → ranks_text 0 b ≡ []
unfolding ranks_text
ranks_end b = refl

-- ---- for the reader

pub too_long : (text out : List ℕ) (i : ℕ) → i < length text → out ≡ squares (take i text) → 64 < length (out ++ squares_at (get_or text i 0)) → 64 < length (squares text)
too_long text out i lt e long =
    let b = get_or text i 0 in
    let front : squares (take (i + 1) text) ≡ out ++ squares_at b = ap squares (take_more text i 0 lt) ∙ flat_map-append squares_at (take i text) (b ∷ []) ∙ ap (λ (x : List ℕ). squares (take i text) ++ x) (append-nil (squares_at b)) ∙ ap (λ (x : List ℕ). x ++ squares_at b) (sym e) in
    let whole : squares text ≡ squares (take (i + 1) text) ++ squares (drop (i + 1) text) = ap squares (sym (take-append-drop (i + 1) text)) ∙ flat_map-append squares_at (take (i + 1) text) (drop (i + 1) text) in
    omega (arith, ap length whole, ap length front, length-append (squares (take (i + 1) text)) (squares (drop (i + 1) text)))

pub squares_is : (text b : List ℕ) → IsBoardPicture b → text ≡ placement b → squares text ≡ b
squares_is text b h e = ap squares e ∙ board_back b h
