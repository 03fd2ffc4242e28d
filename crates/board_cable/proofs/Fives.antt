-- The last five bytes, as more come.
use Rattle.std.proofs.Common.{◌≡◌, ℕ, ◌+◌, ◌-◌, List, [], ◌∷◌, ◌++◌, length, length-append, length-drop, drop, slice_index, refl, sym, ap, ◌∙◌, arith, append_assoc, inl, inr}
use Rattle.std.proofs.lemmas.Bool.{cases_lt}
use Rattle.std.proofs.lemmas.List.{drop-append-le, drop-drop, drop_at}
use Rattle.board_cable.specs.Frames.{last_five}

-- One byte more pushes the first of five out.
pub five_shifted : (five : List ℕ) (x : ℕ) → length five ≡ 5
    → slice_index five 1 ∷ slice_index five 2 ∷ slice_index five 3 ∷ slice_index five 4 ∷ x ∷ [] ≡ drop 1 five ++ x ∷ []
five_shifted [] x h = absurd (omega arith)
five_shifted (a ∷ []) x h = absurd (omega arith)
five_shifted (a ∷ b ∷ []) x h = absurd (omega arith)
five_shifted (a ∷ b ∷ c ∷ []) x h = absurd (omega arith)
five_shifted (a ∷ b ∷ c ∷ d ∷ []) x h = absurd (omega arith)
five_shifted (a ∷ b ∷ c ∷ d ∷ e ∷ []) x h = refl
five_shifted (a ∷ b ∷ c ∷ d ∷ e ∷ f ∷ rest) x h = absurd (omega arith)

pub five_step : (last front more five : List ℕ) (i x : ℕ) → length last ≡ 5 → length front ≡ i → five ≡ drop i (last ++ front)
    → more ≡ front ++ x ∷ [] → drop 1 five ++ x ∷ [] ≡ drop (i + 1) (last ++ more)
five_step last front more five i x len at is grown =
    ap (λ f. drop 1 f ++ x ∷ []) is
    ∙ ap (λ f. f ++ x ∷ []) (drop-drop 1 i (last ++ front))
    ∙ sym (drop-append-le (i + 1) (last ++ front) (x ∷ []) (omega (arith, length-append last front)))
    ∙ ap (drop (i + 1)) (append_assoc last front (x ∷ []) ∙ ap (λ f. last ++ f) (sym grown))

abbrev padded : List ℕ → List ℕ
padded bytes = 0 ∷ 0 ∷ 0 ∷ 0 ∷ 0 ∷ bytes

last_of_few : (before bytes : List ℕ) → drop (length bytes) (last_five before ++ bytes) ≡ last_five (before ++ bytes)
last_of_few before bytes =
    ap (drop (length bytes)) (sym (drop-append-le (length before) (padded before) bytes (omega arith)))
    ∙ drop-drop (length bytes) (length before) (padded before ++ bytes)
    ∙ ap (λ n. drop n (padded before ++ bytes)) (sym (length-append before bytes))

last_of_many : (before bytes : List ℕ) (from : ℕ) → from + 5 ≡ length bytes
    → drop (length (drop from bytes)) (last_five before ++ drop from bytes) ≡ last_five (before ++ bytes)
last_of_many before bytes from is =
    let tail = drop from bytes in
    let five : length (last_five before) ≡ length tail =
    omega (arith, length-drop (length before) (padded before), length-drop from bytes) in
    drop_at (last_five before) tail (length tail) five
    ∙ ap (drop from) (sym (drop_at (padded before) bytes (length (padded before)) refl))
    ∙ drop-drop from (length (padded before)) (padded before ++ bytes)
    ∙ ap (λ n. drop n (padded before ++ bytes)) (let n : length (padded before) + from ≡ length (before ++ bytes) = omega (arith, length-append before bytes) in n)

-- Of many bytes the last five are enough.
pub last_more : (before bytes : List ℕ) (from : ℕ) → from ≡ length bytes - 5
    → drop (length (drop from bytes)) (last_five before ++ drop from bytes) ≡ last_five (before ++ bytes)
last_more before bytes from is =
    elim (cases_lt (length bytes) 5) [
      | inl few ↦ (let none : from ≡ 0 = omega arith in
          ap (λ n. drop (length (drop n bytes)) (last_five before ++ drop n bytes)) none ∙ last_of_few before bytes)
      | inr many ↦ last_of_many before bytes from (omega arith)
    ]
