-- The placement of a picture is the one text that the rule of placements gives it.
use Rattle.std.proofs.Common.{◌≡◌, ℕ, zero, suc, ◌+◌, ◌-◌, ◌*◌, ◌<◌, ◌≤◌, ◌⊎◌, ◌↔◌, true, false, eqb, ltb, List, [], ◌∷◌, ◌++◌, length, take, drop, get_or, replicate, map, Option, None, Some, refl, sym, ap, subst, ◌∙◌, arith, rules, tests, inl, inr, length-append}
use Rattle.std.specs.Prelude.{unwrap_or}
use Rattle.std.specs.List.{flat_map, join_with_byte}
use Rattle.std.proofs.lemmas.Bool.{cases_lt}
use Rattle.std.proofs.lemmas.Option.{none-some}
use Rattle.std.proofs.lemmas.List.{append-nil, append_cancel_left, drop-drop, ext_get_or, length-take, length-replicate}
use Rattle.std.proofs.lemmas.List.Concat.{flat_map-append}
use Rattle.chess_text.specs.Placement.{code_letter, run_text, rank_text, ranks_text, placement, IsDigit, HasDigitsApart, expand, shown, IsRankText, IsPlacement}
use Rattle.chess_text.proofs.DigitsApart.{letter_other, rank_apart}

-- a digit from 1 to 8
record IsRun (b : ℕ) : Type 0 where
  pub low : 48 < b
  pub high : b < 57
  pub shows : expand b ≡ replicate (b - 48) None

run_or_piece : (b : ℕ) → IsRun b ⊎ (expand b ≡ Some b ∷ [])
run_or_piece b = elim (cases_lt 48 b) as (λ _. IsRun b ⊎ (expand b ≡ Some b ∷ [])) [
  | inl low ↦
      let l : ltb 48 b ≡ true = search (rules, tests, arith) in
      elim (cases_lt b 57) as (λ _. IsRun b ⊎ (expand b ≡ Some b ∷ [])) [
        | inl high ↦ let h : ltb b 57 ≡ true = search (rules, tests, arith) in inl (record { low = low; high = high; shows = rw (l, h) refl })
        | inr high ↦ let h : ltb b 57 ≡ false = search (rules, tests, arith) in inr (rw (l, h) refl)
      ]
  | inr none ↦ let l : ltb 48 b ≡ false = search (rules, tests, arith) in inr (rw l refl)
]

-- ---- a placement follows the rule

run_shows : (n : ℕ) → n ≤ 8 → flat_map expand (run_text n) ≡ replicate n None
run_shows n le = elim (cases_lt 0 n) as (λ _. flat_map expand (run_text n) ≡ replicate n None) [
  | inl pos ↦
      let e : eqb n 0 ≡ false = search (rules, tests, arith) in
      let l : ltb 48 (48 + n) ≡ true = search (rules, tests, arith) in
      let h : ltb (48 + n) 57 ≡ true = search (rules, tests, arith) in
      let d : 48 + n - 48 ≡ n = omega arith in
      rw (e, l, h, d) (append-nil (replicate n None))
  | inr none ↦ let e : n ≡ 0 = omega arith in rw e refl
]

letter_shows : (c : ℕ) → expand (code_letter c) ≡ Some (code_letter c) ∷ []
letter_shows c = elim (run_or_piece (code_letter c)) as (λ _. expand (code_letter c) ≡ Some (code_letter c) ∷ []) [
  | inl r ↦ absurd (letter_other c (omega (arith, r.low), omega (arith, r.high)))
  | inr m ↦ m
]

one_more : (n : ℕ) (zs : List (Option ℕ)) → replicate (n + 1) None ++ zs ≡ replicate n None ++ None ∷ zs
one_more zero zs = refl
one_more (suc n) zs = let e : suc n + 1 ≡ suc (n + 1) = omega arith in ap (λ (m : ℕ). replicate m None ++ zs) e ∙ ap (λ (x : List (Option ℕ)). None ∷ x) (one_more n zs)

rank_shows : (n : ℕ) (cs : List ℕ) → n + length cs ≤ 8 → flat_map expand (rank_text n cs) ≡ replicate n None ++ map shown cs
rank_shows n [] le = run_shows n (omega arith) ∙ sym (append-nil (replicate n None))
rank_shows n (c ∷ cs) le = elim (cases_lt 0 c) as (λ _. flat_map expand (rank_text n (c ∷ cs)) ≡ replicate n None ++ map shown (c ∷ cs)) [
  | inl pos ↦
      let e : eqb c 0 ≡ false = search (rules, tests, arith) in
      let here : flat_map expand (run_text n ++ code_letter c ∷ rank_text 0 cs) ≡ replicate n None ++ Some (code_letter c) ∷ map shown cs =
      flat_map-append expand (run_text n) (code_letter c ∷ rank_text 0 cs)
      ∙ ap (λ (x : List (Option ℕ)). x ++ (expand (code_letter c) ++ flat_map expand (rank_text 0 cs))) (run_shows n (omega arith))
      ∙ ap (λ (x : List (Option ℕ)). replicate n None ++ (x ++ flat_map expand (rank_text 0 cs))) (letter_shows c)
      ∙ ap (λ (x : List (Option ℕ)). replicate n None ++ Some (code_letter c) ∷ x) (rank_shows 0 cs (omega arith)) in
      rw e here
  | inr none ↦
      let e : c ≡ 0 = omega arith in
      rw e (rank_shows (n + 1) cs (omega arith) ∙ one_more n (map shown cs))
]

rank_is : (rank : List ℕ) → length rank ≤ 8 → IsRankText rank (rank_text 0 rank)
rank_is rank le = record { shows = rank_shows 0 rank (omega arith); apart = rank_apart 0 rank }

-- ---- no other text does

rest_apart : (b : ℕ) (bs : List ℕ) → HasDigitsApart (b ∷ bs) → HasDigitsApart bs
rest_apart b [] h = tt
rest_apart b (c ∷ cs) h = h.1

shows_some : (b : ℕ) (bs : List ℕ) → flat_map expand (b ∷ bs) ≡ [] → ⊥
shows_some b bs e = elim (run_or_piece b) as (λ _. ⊥) [
  | inl r ↦
      let low : 48 < b = r.low in
      let run : List (Option ℕ) = replicate (b - 48) None in
      let count : length run ≡ b - 48 = length-replicate (b - 48) None in
      let none : run ++ flat_map expand bs ≡ [] = ap (λ (x : List (Option ℕ)). x ++ flat_map expand bs) (sym r.shows) ∙ e in
      omega (arith, ap length none, length-append run (flat_map expand bs), count)
  | inr m ↦ omega (arith, ap length (ap (λ (x : List (Option ℕ)). x ++ flat_map expand bs) (sym m) ∙ e))
]

no_piece : (n y : ℕ) (xs ys : List (Option ℕ)) → 0 < n → replicate n None ++ xs ≡ Some y ∷ ys → ⊥
no_piece zero y xs ys pos e = omega arith
no_piece (suc n) y xs ys pos e = none-some y (ap (λ (l : List (Option ℕ)). get_or l 0 None) e)

-- behind a digit no empty square comes first
no_empty : (a : ℕ) (bs : List ℕ) (zs : List (Option ℕ)) → IsDigit a → HasDigitsApart (a ∷ bs) → flat_map expand bs ≡ None ∷ zs → ⊥
no_empty a [] zs d h e = omega (arith, ap length e)
no_empty a (b ∷ bs) zs d h e = elim (run_or_piece b) as (λ _. ⊥) [
  | inl r ↦ h.0 d (omega (arith, r.low), omega (arith, r.high))
  | inr m ↦ none-some b (sym (ap (λ (l : List (Option ℕ)). get_or l 0 None) (ap (λ (x : List (Option ℕ)). x ++ flat_map expand bs) (sym m) ∙ e)))
]

-- the longer of two runs goes on behind the shorter
longer : (a b : ℕ) (xs ys : List (Option ℕ)) → a < b → replicate a None ++ xs ≡ replicate b None ++ ys → (zs : List (Option ℕ)) × (xs ≡ None ∷ zs)
longer a zero xs ys lt e = absurd (omega arith)
longer zero (suc b) xs ys lt e = (replicate b None ++ ys, e)
longer (suc a) (suc b) xs ys lt e = longer a b xs ys (omega arith) (ap (drop 1) e)

no_longer : (x y : ℕ) (xs ys : List ℕ) → IsRun x → x < y → HasDigitsApart (x ∷ xs) → replicate (x - 48) None ++ flat_map expand xs ≡ replicate (y - 48) None ++ flat_map expand ys → ⊥
no_longer x y xs ys r lt g e =
    let low : 48 < x = r.low in
    let more = longer (x - 48) (y - 48) (flat_map expand xs) (flat_map expand ys) (omega arith) e in
    no_empty x xs more.0 (omega (arith, r.low), omega (arith, r.high)) g more.1

both : (x y : ℕ) (xs ys : List ℕ) → x ≡ y → xs ≡ ys → x ∷ xs ≡ y ∷ ys
both x y xs ys e f = ap (λ (b : ℕ). b ∷ xs) e ∙ ap (λ (l : List ℕ). y ∷ l) f

one_text : (xs ys : List ℕ) → HasDigitsApart xs → HasDigitsApart ys → flat_map expand xs ≡ flat_map expand ys → xs ≡ ys
one_text [] [] g h e = refl
one_text [] (y ∷ ys) g h e = absurd (shows_some y ys (sym e))
one_text (x ∷ xs) [] g h e = absurd (shows_some x xs e)
one_text (x ∷ xs) (y ∷ ys) g h e =
    let fx = flat_map expand xs in
    let fy = flat_map expand ys in
    let next = one_text xs ys (rest_apart x xs g) (rest_apart y ys h) in
    elim (run_or_piece x) as (λ _. x ∷ xs ≡ y ∷ ys) [
      | inl r ↦
          let left : replicate (x - 48) None ++ fx ≡ expand y ++ fy = ap (λ (l : List (Option ℕ)). l ++ fx) (sym r.shows) ∙ e in
          elim (run_or_piece y) as (λ _. x ∷ xs ≡ y ∷ ys) [
            | inl s ↦
                let runs : replicate (x - 48) None ++ fx ≡ replicate (y - 48) None ++ fy = left ∙ ap (λ (l : List (Option ℕ)). l ++ fy) s.shows in
                elim (cases_lt x y) as (λ _. x ∷ xs ≡ y ∷ ys) [
                  | inl lt ↦ absurd (no_longer x y xs ys r lt g runs)
                  | inr ge ↦
                      elim (cases_lt y x) as (λ _. x ∷ xs ≡ y ∷ ys) [
                        | inl lt ↦ absurd (no_longer y x ys xs s lt h (sym runs))
                        | inr le ↦
                            let same : x ≡ y = omega arith in
                            both x y xs ys same (next (append_cancel_left (replicate (y - 48) None) fx fy (ap (λ (b : ℕ). replicate (b - 48) None ++ fx) (sym same) ∙ runs)))
                      ]
                ]
            | inr m ↦ let low : 48 < x = r.low in absurd (no_piece (x - 48) y fx fy (omega arith) (left ∙ ap (λ (l : List (Option ℕ)). l ++ fy) m))
          ]
      | inr n ↦
          let left : Some x ∷ fx ≡ expand y ++ fy = ap (λ (l : List (Option ℕ)). l ++ fx) (sym n) ∙ e in
          elim (run_or_piece y) as (λ _. x ∷ xs ≡ y ∷ ys) [
            | inl s ↦ let low : 48 < y = s.low in absurd (no_piece (y - 48) x fy fx (omega arith) (sym (left ∙ ap (λ (l : List (Option ℕ)). l ++ fy) s.shows)))
            | inr m ↦
                let pieces : Some x ∷ fx ≡ Some y ∷ fy = left ∙ ap (λ (l : List (Option ℕ)). l ++ fy) m in
                both x y xs ys (ap (λ (l : List (Option ℕ)). unwrap_or (get_or l 0 None) 0) pieces) (next (ap (drop 1) pieces))
          ]
    ]

only_rank : (rank text : List ℕ) → length rank ≤ 8 → IsRankText rank text → text ≡ rank_text 0 rank
only_rank rank text le h = one_text text (rank_text 0 rank) h.apart (rank_apart 0 rank) (h.shows ∙ sym (rank_shows 0 rank (omega arith)))

-- ---- eight ranks

texts : ℕ → List ℕ → List (List ℕ)
texts zero picture = []
texts (suc k) picture = rank_text 0 (take 8 picture) ∷ texts k (drop 8 picture)

length-texts : (k : ℕ) (picture : List ℕ) → length (texts k picture) ≡ k
unfolding texts
length-texts zero picture = refl
length-texts (suc k) picture = ap suc (length-texts k (drop 8 picture))

texts_at : (k r : ℕ) (picture : List ℕ) → r < k → get_or (texts k picture) r [] ≡ rank_text 0 (take 8 (drop (8 * r) picture))
unfolding texts
texts_at zero r picture lt = absurd (omega arith)
texts_at (suc k) zero picture lt = refl
texts_at (suc k) (suc r) picture lt =
    let d : drop (8 * r) (drop 8 picture) ≡ drop (8 * suc r) picture = drop-drop (8 * r) 8 picture ∙ ap (λ (n : ℕ). drop n picture) (omega arith) in
    texts_at k r (drop 8 picture) (omega arith) ∙ ap (λ (x : List ℕ). rank_text 0 (take 8 x)) d

joined : (x : List ℕ) (k : ℕ) (picture : List ℕ) → join_with_byte 47 (x ∷ texts k picture) ≡ x ++ ranks_text k picture
unfolding texts ranks_text
joined x zero picture = sym (append-nil x)
joined x (suc k) picture = ap (λ (y : List ℕ). x ++ 47 ∷ y) (joined (rank_text 0 (take 8 picture)) k (drop 8 picture))

whole : (picture : List ℕ) → placement picture ≡ join_with_byte 47 (texts 8 picture)
unfolding texts
whole picture = sym (joined (rank_text 0 (take 8 picture)) 7 (drop 8 picture))

short : (k : ℕ) (picture : List ℕ) → length (take 8 (drop (8 * k) picture)) ≤ 8
short k picture = omega (arith, length-take 8 (drop (8 * k) picture))

follows : (picture : List ℕ) → IsPlacement picture (placement picture)
follows picture = record {
  ranks = texts 8 picture;
  eight = length-texts 8 picture;
  text_is = whole picture;
  each = λ k lt. subst (IsRankText (take 8 (drop (8 * k) picture))) (sym (texts_at 8 k picture lt)) (rank_is (take 8 (drop (8 * k) picture)) (short k picture));
}

only : (picture text : List ℕ) → IsPlacement picture text → text ≡ placement picture
only picture text h =
    let lengths : length h.ranks ≡ length (texts 8 picture) = h.eight ∙ sym (length-texts 8 picture) in
    let each : (k : ℕ) → k < length h.ranks → get_or h.ranks k [] ≡ get_or (texts 8 picture) k [] = λ k lt.
    let low : k < 8 = omega (arith, h.eight) in
    only_rank (take 8 (drop (8 * k) picture)) (get_or h.ranks k []) (short k picture) (h.each k low) ∙ sym (texts_at 8 k picture low) in
    h.text_is ∙ ap (join_with_byte 47) (ext_get_or [] h.ranks (texts 8 picture) lengths each) ∙ sym (whole picture)

pub placements_these : (picture text : List ℕ) → IsPlacement picture text ↔ (text ≡ placement picture)
placements_these picture text = (only picture text, λ e. subst (IsPlacement picture) (sym e) (follows picture))
