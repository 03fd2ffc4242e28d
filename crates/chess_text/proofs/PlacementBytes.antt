-- The bytes of a placement, and how many there are.
use Rattle.std.proofs.Common.{◌≡◌, ◌≢◌, ℕ, zero, suc, ◌+◌, ◌*◌, ◌<◌, ◌≤◌, true, false, eqb, cond, List, [], ◌∷◌, ◌++◌, length, take, drop, arith, rules, tests, length-append}
use Rattle.std.specs.List.{All}
use Rattle.std.proofs.lemmas.List.{length-take}
use Rattle.std.proofs.lemmas.List.Elements.{All-cons, All-append, All-nil}
use Rattle.chess_text.specs.Placement.{code_letter, run_text, rank_text, ranks_text, placement}

-- at most so many bytes, each of them such a byte
pub record AtMost (P : ℕ → Type 0) (most : ℕ) (text : List ℕ) : Type 0 where
  pub short : length text ≤ most
  pub bytes : All P text

pub join : (P : ℕ → Type 0) (a b : ℕ) (x y : List ℕ) → AtMost P a x → AtMost P b y → AtMost P (a + b) (x ++ y)
join P a b x y p q =
    let h : length x ≤ a = p.short in
    let h' : length y ≤ b = q.short in
    let n : length (x ++ y) ≡ length x + length y = length-append x y in
    record { short = omega arith; bytes = All-append P x y p.bytes q.bytes }

pub nothing : (P : ℕ → Type 0) (most : ℕ) → AtMost P most []
nothing P most = record { short = omega arith; bytes = All-nil P }

pub one : (P : ℕ → Type 0) (b : ℕ) → P b → AtMost P 1 (b ∷ [])
one P b h = record { short = omega arith; bytes = All-cons P b [] h (All-nil P) }

pub wider : (P : ℕ → Type 0) (a b : ℕ) (x : List ℕ) → a ≤ b → AtMost P a x → AtMost P b x
wider P a b x le p = let h : length x ≤ a = p.short in record { short = omega arith; bytes = p.bytes }

-- from `*` to `z`, and no backslash
abbrev pub IsPlacementByte : ℕ → Type 0
IsPlacementByte b = (41 < b) × (b < 123) × (b ≢ 92)

letter_low : (c : ℕ) → 41 < code_letter c
letter_low c = grind (arith, tests)

letter_high : (c : ℕ) → code_letter c < 123
letter_high c = grind (arith, tests)

letter_other : (c : ℕ) → code_letter c ≢ 92
letter_other c = grind (arith, tests)

letter_bytes : (c : ℕ) → AtMost IsPlacementByte 1 (code_letter c ∷ [])
letter_bytes c = one IsPlacementByte (code_letter c) (letter_low c, letter_high c, letter_other c)

run_bytes : (n : ℕ) → n ≤ 8 → AtMost IsPlacementByte n (run_text n)
run_bytes zero le = nothing IsPlacementByte 0
run_bytes (suc n) le =
    let e : eqb (suc n) 0 ≡ false = search (rules, tests, arith) in
    rw e (wider IsPlacementByte 1 (suc n) ((48 + suc n) ∷ []) (omega arith) (one IsPlacementByte (48 + suc n) (omega arith, omega arith, λ e. omega arith)))

rank_bytes : (n : ℕ) (cs : List ℕ) → n + length cs ≤ 8 → AtMost IsPlacementByte (n + length cs) (rank_text n cs)
rank_bytes n [] le = wider IsPlacementByte n (n + 0) (run_text n) (omega arith) (run_bytes n (omega arith))
rank_bytes n (c ∷ cs) le =
    elim (eqb c 0) as (λ t. AtMost IsPlacementByte (n + suc (length cs)) (cond t (rank_text (n + 1) cs) (run_text n ++ code_letter c ∷ rank_text 0 cs))) [
      | true ↦ wider IsPlacementByte (n + 1 + length cs) (n + suc (length cs)) (rank_text (n + 1) cs) (omega arith) (rank_bytes (n + 1) cs (omega arith))
      | false ↦
          wider IsPlacementByte (n + (1 + (0 + length cs))) (n + suc (length cs)) (run_text n ++ code_letter c ∷ rank_text 0 cs) (omega arith)
          (join IsPlacementByte n (1 + (0 + length cs)) (run_text n) (code_letter c ∷ rank_text 0 cs) (run_bytes n (omega arith))
          (join IsPlacementByte 1 (0 + length cs) (code_letter c ∷ []) (rank_text 0 cs) (letter_bytes c) (rank_bytes 0 cs (omega arith))))
    ]

row_bytes : (picture : List ℕ) → AtMost IsPlacementByte 8 (rank_text 0 (take 8 picture))
row_bytes picture =
    let row : List ℕ = take 8 picture in
    let le : length row ≤ 8 = omega (arith, length-take 8 picture) in
    wider IsPlacementByte (0 + length row) 8 (rank_text 0 row) (omega arith) (rank_bytes 0 row (omega arith))

ranks_bytes : (k : ℕ) (picture : List ℕ) → AtMost IsPlacementByte (9 * k) (ranks_text k picture)
unfolding ranks_text
ranks_bytes zero picture = nothing IsPlacementByte 0
ranks_bytes (suc k) picture =
    wider IsPlacementByte (1 + (8 + 9 * k)) (9 * suc k) (ranks_text (suc k) picture) (omega arith)
    (join IsPlacementByte 1 (8 + 9 * k) (47 ∷ []) (rank_text 0 (take 8 picture) ++ ranks_text k (drop 8 picture)) (one IsPlacementByte 47 (omega arith, omega arith, λ e. omega arith))
    (join IsPlacementByte 8 (9 * k) (rank_text 0 (take 8 picture)) (ranks_text k (drop 8 picture)) (row_bytes picture) (ranks_bytes k (drop 8 picture))))

pub placement_bytes : (picture : List ℕ) → AtMost IsPlacementByte 71 (placement picture)
placement_bytes picture = join IsPlacementByte 8 63 (rank_text 0 (take 8 picture)) (ranks_text 7 (drop 8 picture)) (row_bytes picture) (ranks_bytes 7 (drop 8 picture))

ranks_some : (picture : List ℕ) → 0 < length (ranks_text 7 picture)
unfolding ranks_text
ranks_some picture = omega arith

pub placement_some : (picture : List ℕ) → 0 < length (placement picture)
placement_some picture = omega (arith, length-append (rank_text 0 (take 8 picture)) (ranks_text 7 (drop 8 picture)), ranks_some (drop 8 picture))
