-- Where a line comes in, ply by ply.
use Rattle.std.proofs.Common.{◌≡◌, ◌+◌, ◌<◌, ◌≤◌, ℕ, zero, suc, true, false, List, [], ◌∷◌, drop, length, get_or, refl, sym, subst, ◌∙◌, arith}
use Rattle.std.proofs.lemmas.Bool.{false≢true}
use Rattle.chess_rules.specs.declared.parts.Parts.{Parts}
use Rattle.chess_rules.specs.After.{after}
use Rattle.settle_core.specs.declared.plies.Ply.{Ply}
use Rattle.chess_game.proofs.Plies.{cut_at}
use Rattle.typed_lines.specs.Numbers.{begins_at}
use Rattle.going_back.specs.Placing.{IsPlace}

-- a place is behind some of the plies
pub place_within : (p : Parts) (plies : List Ply) (text : List ℕ) (k : ℕ) → IsPlace p plies text k → k ≤ length plies
place_within p plies text zero h = omega arith
place_within p [] text (suc k) h = absurd h
place_within p (ply ∷ plies) text (suc k) h = let r = place_within (after p ply.mv) plies text k h.1 in omega (arith, r)

-- where it isn't here, it is behind the next ply
place_behind : (p : Parts) (ply : Ply) (rest : List Ply) (text : List ℕ) (j : ℕ) → begins_at p text ≡ false → IsPlace p (ply ∷ rest) text j
    → (i : ℕ) × (j ≡ suc i) × IsPlace (after p ply.mv) rest text i
place_behind p ply rest text zero other h = absurd (false≢true (sym other ∙ h))
place_behind p ply rest text (suc i) other h = (i, refl, h.1)

abbrev pub PlaceFound : Parts → List Ply → Parts → List Ply → List ℕ → ℕ → Type 0
PlaceFound start plies p rest text i = (k : ℕ) → IsPlace p rest text k → IsPlace start plies text (i + k)

abbrev pub PlaceSought : Parts → List Ply → Parts → List Ply → List ℕ → ℕ → Type 0
PlaceSought start plies p rest text i = (k : ℕ) → IsPlace start plies text k → (j : ℕ) × (k ≡ i + j) × IsPlace p rest text j

pub place_first : (start : Parts) (plies : List Ply) (text : List ℕ) → PlaceFound start plies start (drop 0 plies) text 0
place_first start plies text = λ k h. let N : ℕ → Type 0 = λ n. IsPlace start plies text n in let same : k ≡ 0 + k = omega arith in subst N same h

pub place_sought : (start : Parts) (plies : List Ply) (text : List ℕ) → PlaceSought start plies start (drop 0 plies) text 0
place_sought start plies text = λ k h. (k, omega arith, h)

pub place_next : (start : Parts) (plies : List Ply) (p : Parts) (text : List ℕ) (i : ℕ) (ply : Ply) → i < length plies → ply ≡ get_or plies i ply
    → begins_at p text ≡ false → PlaceFound start plies p (drop i plies) text i → PlaceFound start plies (after p ply.mv) (drop (i + 1) plies) text (i + 1)
place_next start plies p text i ply lt e other f = λ k h.
    let F : List Ply → Type 0 = λ rest. PlaceFound start plies p rest text i in
    let f' : PlaceFound start plies p (ply ∷ drop (i + 1) plies) text i = subst F (cut_at plies i ply lt e) f in
    let N : ℕ → Type 0 = λ n. IsPlace start plies text n in
    let same : i + suc k ≡ (i + 1) + k = omega arith in
    subst N same (f' (suc k) (other, h))

pub sought_on : (start : Parts) (plies : List Ply) (p : Parts) (text : List ℕ) (i : ℕ) (ply : Ply) → i < length plies → ply ≡ get_or plies i ply
    → begins_at p text ≡ false → PlaceSought start plies p (drop i plies) text i → PlaceSought start plies (after p ply.mv) (drop (i + 1) plies) text (i + 1)
sought_on start plies p text i ply lt e other s = λ k h.
    let S : List Ply → Type 0 = λ rest. PlaceSought start plies p rest text i in
    let s' : PlaceSought start plies p (ply ∷ drop (i + 1) plies) text i = subst S (cut_at plies i ply lt e) s in
    let (j, is, at) = s' k h in
    let (n, is', at') = place_behind p ply (drop (i + 1) plies) text j other at in
    (n, omega (arith, is, is'), at')

pub place_here : (start : Parts) (plies : List Ply) (p : Parts) (rest : List Ply) (text : List ℕ) (i n : ℕ) → n ≡ i → begins_at p text ≡ true
    → PlaceFound start plies p rest text i → IsPlace start plies text n
place_here start plies p rest text i n same h f =
    let N : ℕ → Type 0 = λ m. IsPlace start plies text m in
    let is : i + 0 ≡ n = omega (arith, same) in
    subst N is (f 0 h)

no_place : (p : Parts) (text : List ℕ) (j : ℕ) → begins_at p text ≡ false → IsPlace p [] text j → ⊥
no_place p text zero other h = false≢true (sym other ∙ h)
no_place p text (suc j) other h = h

pub place_none : (start : Parts) (plies : List Ply) (p : Parts) (rest : List Ply) (text : List ℕ) (i : ℕ) → rest ≡ [] → begins_at p text ≡ false
    → PlaceSought start plies p rest text i → (k : ℕ) → IsPlace start plies text k → ⊥
place_none start plies p rest text i none other s k h =
    let (j, is, at) = s k h in
    let P : List Ply → Type 0 = λ xs. IsPlace p xs text j in
    no_place p text j other (subst P none at)
