-- The nearest ply, ply by ply.
use Rattle.std.proofs.Common.{Option, None, Some, IfNone, IfSome, MatchOption, ◌≡◌, ◌⊎◌, inl, inr, ◌+◌, ◌-◌, ◌*◌, ◌<◌, ◌≤◌, ◌==◌, min, Bool, true, false, if◌then◌else◌, ℕ, suc, List, [], ◌∷◌, drop, length, get_or, slice_index, refl, sym, ap, subst, ◌∙◌, arith}
use Rattle.std.proofs.lemmas.List.{drop_more}
use Rattle.chess_rules.specs.declared.parts.Parts.{Parts}
use Rattle.chess_rules.specs.After.{after}
use Rattle.settle_core.specs.declared.plies.Ply.{Ply}
use Rattle.chess_game.proofs.Plies.{cut_at}
use Rattle.going_back.specs.declared.nearest.Candidate.{Candidate}
use Rattle.going_back.specs.Nearest.{IsNearest, IsSoFar, NoneNearer, far_from, half_asked, is_digit, is_dotted}

abbrev pub FoundFar : List ℕ → Parts → List Ply → Parts → List Ply → ℕ → Type 0
FoundFar text start plies p rest i = (k n : ℕ) → IsSoFar text p rest (suc k) n → IsSoFar text start plies (suc (i + k)) n

abbrev pub NoneBefore : List ℕ → Parts → List Ply → Parts → List Ply → ℕ → Type 0
NoneBefore text start plies p rest least = (n : ℕ) → n ≤ least → NoneNearer text p rest n → NoneNearer text start plies n

pub far_first : (text : List ℕ) (start : Parts) (plies : List Ply) → FoundFar text start plies start (drop 0 plies) 0
far_first text start plies = λ k n h. let N : ℕ → Type 0 = λ m. IsSoFar text start plies m n in let same : suc k ≡ suc (0 + k) = omega arith in subst N same h

pub far_next : (text : List ℕ) (start : Parts) (plies : List Ply) (p : Parts) (i : ℕ) (ply : Ply) → i < length plies → ply ≡ get_or plies i ply
    → FoundFar text start plies p (drop i plies) i → FoundFar text start plies (after p ply.mv) (drop (i + 1) plies) (i + 1)
far_next text start plies p i ply lt e f = λ k n h.
    let F : List Ply → Type 0 = λ rest. FoundFar text start plies p rest i in
    let f' : FoundFar text start plies p (ply ∷ drop (i + 1) plies) i = subst F (cut_at plies i ply lt e) f in
    let N : ℕ → Type 0 = λ m. IsSoFar text start plies m n in
    let same : suc (i + suc k) ≡ suc ((i + 1) + k) = omega arith in
    subst N same (f' (suc k) n h)

pub far_here : (text : List ℕ) (start : Parts) (plies : List Ply) (p : Parts) (i n : ℕ) (ply : Ply) → i < length plies → ply ≡ get_or plies i ply
    → FoundFar text start plies p (drop i plies) i → n ≡ far_from text p → IsSoFar text start plies (i + 1) n
far_here text start plies p i n ply lt e f is =
    let F : List Ply → Type 0 = λ rest. FoundFar text start plies p rest i in
    let f' : FoundFar text start plies p (ply ∷ drop (i + 1) plies) i = subst F (cut_at plies i ply lt e) f in
    let N : ℕ → Type 0 = λ m. IsSoFar text start plies m n in
    let same : suc (i + 0) ≡ i + 1 = omega arith in
    subst N same (f' 0 n is)

pub none_next : (text : List ℕ) (start : Parts) (plies : List Ply) (p : Parts) (i least here new : ℕ) (ply : Ply) → i < length plies → ply ≡ get_or plies i ply
    → here ≡ far_from text p → new ≤ least → new ≤ here → NoneBefore text start plies p (drop i plies) least
    → NoneBefore text start plies (after p ply.mv) (drop (i + 1) plies) new
none_next text start plies p i least here new ply lt e is less less' b = λ n within rest.
    let B : List Ply → Type 0 = λ xs. NoneBefore text start plies p xs least in
    let b' : NoneBefore text start plies p (ply ∷ drop (i + 1) plies) least = subst B (cut_at plies i ply lt e) b in
    b' n (omega (arith, within, less)) (omega (arith, within, less', is), rest)

pub first_far : (text : List ℕ) (start : Parts) (plies : List Ply) (n : ℕ) → 0 < length plies → n ≡ far_from text start → IsSoFar text start plies 1 n
first_far text start [] n some is = absurd (let never : ⊥ = omega (arith, some) in never)
first_far text start (ply ∷ plies) n some is = is

pub none_at_end : (text : List ℕ) (start : Parts) (plies : List Ply) (p : Parts) (rest : List Ply) (least : ℕ) → rest ≡ []
    → NoneBefore text start plies p rest least → NoneNearer text start plies least
none_at_end text start plies p rest least none b =
    let B : List Ply → Type 0 = λ xs. NoneBefore text start plies p xs least in
    let b' : NoneBefore text start plies p [] least = subst B none b in
    b' least (omega arith) tt

bytes_at : (xs : List ℕ) (i : ℕ) → i < length xs → drop i xs ≡ slice_index xs i ∷ drop (i + 1) xs
bytes_at xs i lt = drop_more xs i 0 lt

if_true : {A : Type 0} (b : Bool) (x y : A) → b ≡ true → (if b then x else y) ≡ x
if_true true x y h = refl
if_true false x y h = absurd cc

if_false : {A : Type 0} (b : Bool) (x y : A) → b ≡ false → (if b then x else y) ≡ y
if_false true x y h = absurd cc
if_false false x y h = refl

pub half_next : (n : ℕ) (text : List ℕ) (i : ℕ) → i < length text → is_digit (slice_index text i) ≡ true
    → half_asked n (drop i text) ≡ half_asked (min (10 * n + (slice_index text i - 48)) 10000) (drop (i + 1) text)
half_next n text i lt digit =
    ap (λ (xs : List ℕ). half_asked n xs) (bytes_at text i lt) ∙ if_true (is_digit (slice_index text i)) _ _ digit

pub half_end : (n : ℕ) (text : List ℕ) (i : ℕ) → i < length text → is_digit (slice_index text i) ≡ false
    → half_asked n (drop i text) ≡ (if is_dotted (drop i text) then 2 * n + 1 else 2 * n)
half_end n text i lt other =
    ap (λ (xs : List ℕ). half_asked n xs) (bytes_at text i lt) ∙ if_false (is_digit (slice_index text i)) _ _ other
    ∙ ap (λ (xs : List ℕ). if is_dotted xs then 2 * n + 1 else 2 * n) (sym (bytes_at text i lt))

-- the nearer of two
pub nearer_of : (text : List ℕ) (start : Parts) (plies : List Ply) (one other result : Candidate)
    → ((result ≡ one) × (one.far ≤ other.far)) ⊎ ((result ≡ other) × (other.far ≤ one.far))
    → IsSoFar text start plies one.number one.far → IsSoFar text start plies other.number other.far
    → IsSoFar text start plies result.number result.far × (result.far ≤ one.far) × (result.far ≤ other.far)
nearer_of text start plies one other result (inl h) a b =
    let C : Candidate → Type 0 = λ c. IsSoFar text start plies c.number c.far × (c.far ≤ one.far) × (c.far ≤ other.far) in
    let here : C one = (a, omega arith, h.1) in
    subst C (sym h.0) here
nearer_of text start plies one other result (inr h) a b =
    let C : Candidate → Type 0 = λ c. IsSoFar text start plies c.number c.far × (c.far ≤ one.far) × (c.far ≤ other.far) in
    let here : C other = (b, h.1, omega arith) in
    subst C (sym h.0) here

pub number_within : (most : ℕ) (one other result : Candidate) → ((result ≡ one) × (one.far ≤ other.far)) ⊎ ((result ≡ other) × (other.far ≤ one.far))
    → one.number ≤ most → other.number ≤ most → result.number ≤ most
number_within most one other result (inl h) a b = let W : Candidate → Type 0 = λ c. c.number ≤ most in subst W (sym h.0) a
number_within most one other result (inr h) a b = let W : Candidate → Type 0 = λ c. c.number ≤ most in subst W (sym h.0) b

pub some_plies : (plies : List Ply) → (length plies == 0) ≡ false → 0 < length plies
some_plies [] h = absurd cc
some_plies (ply ∷ plies) h = omega arith

pub nearest_or : (text : List ℕ) (start : Parts) (plies : List Ply) (number : Option ℕ) → IfNone number (plies ≡ [])
    → IfSome number (λ k. (k ≤ length plies) × IsNearest text start plies k) → MatchOption number (plies ≡ []) (IsNearest text start plies)
nearest_or text start plies None h k = h
nearest_or text start plies (Some number) h k = k.1
