-- No two digits of a placement stand side by side.
use Rattle.std.proofs.Common.{ℕ, zero, suc, ◌+◌, ◌<◌, ◌≤◌, true, false, eqb, cond, List, [], ◌∷◌, ◌++◌, take, drop, sym, subst, arith, tests}
use Rattle.std.proofs.lemmas.List.{append-nil}
use Rattle.chess_text.specs.Placement.{code_letter, run_text, rank_text, ranks_text, placement, IsDigit, HasDigitsApart}

cons_apart : (b : ℕ) (bs : List ℕ) → (IsDigit b → ⊥) → HasDigitsApart bs → HasDigitsApart (b ∷ bs)
cons_apart b [] n h = tt
cons_apart b (c ∷ cs) n h = (λ d e. n d, h)

append_apart : (xs : List ℕ) (b : ℕ) (bs : List ℕ) → (IsDigit b → ⊥) → HasDigitsApart xs → HasDigitsApart (b ∷ bs) → HasDigitsApart (xs ++ b ∷ bs)
append_apart [] b bs n h k = k
append_apart (x ∷ []) b bs n h k = (λ d e. n e, k)
append_apart (x ∷ y ∷ ys) b bs n h k = (h.0, append_apart (y ∷ ys) b bs n h.1 k)

letter_high : (c : ℕ) → 47 < code_letter c → 58 ≤ code_letter c
letter_high c h = grind (arith, tests)

pub letter_other : (c : ℕ) → IsDigit (code_letter c) → ⊥
letter_other c d = let high = letter_high c d.0 in omega (arith, high, d.1)

run_apart : (n : ℕ) → HasDigitsApart (run_text n)
run_apart n = elim (eqb n 0) as (λ t. HasDigitsApart (cond t [] ((48 + n) ∷ []))) [ true ↦ tt | false ↦ tt ]

pub rank_apart : (n : ℕ) (cs : List ℕ) → HasDigitsApart (rank_text n cs)
rank_apart n [] = run_apart n
rank_apart n (c ∷ cs) =
    elim (eqb c 0) as (λ t. HasDigitsApart (cond t (rank_text (n + 1) cs) (run_text n ++ code_letter c ∷ rank_text 0 cs))) [
      | true ↦ rank_apart (n + 1) cs
      | false ↦ append_apart (run_text n) (code_letter c) (rank_text 0 cs) (letter_other c) (run_apart n) (cons_apart (code_letter c) (rank_text 0 cs) (letter_other c) (rank_apart 0 cs))
    ]

stroke : IsDigit 47 → ⊥
stroke d = let low : 47 < 47 = d.0 in omega arith

ranks_apart : (xs : List ℕ) (k : ℕ) (picture : List ℕ) → HasDigitsApart xs → HasDigitsApart (xs ++ ranks_text k picture)
unfolding ranks_text
ranks_apart xs zero picture h = subst HasDigitsApart (sym (append-nil xs)) h
ranks_apart xs (suc k) picture h =
    let rest = ranks_apart (rank_text 0 (take 8 picture)) k (drop 8 picture) (rank_apart 0 (take 8 picture)) in
    append_apart xs 47 (rank_text 0 (take 8 picture) ++ ranks_text k (drop 8 picture)) stroke h (cons_apart 47 _ stroke rest)

pub digits_apart : (picture : List ℕ) → HasDigitsApart (placement picture)
digits_apart picture = ranks_apart (rank_text 0 (take 8 picture)) 7 (drop 8 picture) (rank_apart 0 (take 8 picture))
