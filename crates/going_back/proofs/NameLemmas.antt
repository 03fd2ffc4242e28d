-- Which ply a text names, ply by ply.
use Rattle.std.proofs.Common.{◌≡◌, ◌+◌, ◌<◌, ℕ, zero, suc, List, [], ◌∷◌, ◌++◌, codes, inl, inr, drop, length, get_or, refl, ap, subst, ◌∙◌, arith}
use Rattle.chess_rules.specs.declared.parts.Parts.{Parts}
use Rattle.chess_rules.specs.After.{after}
use Rattle.settle_core.specs.declared.plies.Ply.{Ply}
use Rattle.chess_game.proofs.Plies.{cut_at}
use Rattle.chess_rules.specs.declared.chess_move.Move.{Move}
use Rattle.chess_text.specs.San.{San}
use Rattle.pgn_book.specs.Movetext.{number_token}
use Rattle.going_back.specs.Naming.{IsNameOf, NamesPly, unmarked}

-- the first has the number 1
pub named_some : (p : Parts) (plies : List Ply) (text : List ℕ) (k : ℕ) → NamesPly p plies text k → (j : ℕ) × (k ≡ suc j) × NamesPly p plies text (suc j)
named_some p [] text k h = absurd h
named_some p (ply ∷ plies) text zero h = absurd h
named_some p (ply ∷ plies) text (suc k) h = (k, refl, h)

-- where it isn't this one, it is one behind it
pub named_behind : (p : Parts) (ply : Ply) (rest : List Ply) (text : List ℕ) (j : ℕ) → (IsNameOf p ply.mv text → ⊥) → NamesPly p (ply ∷ rest) text (suc j)
    → (i : ℕ) × (j ≡ suc i) × NamesPly (after p ply.mv) rest text (suc i)
named_behind p ply rest text zero other h = absurd (other h)
named_behind p ply rest text (suc i) other h = (i, refl, h)

abbrev pub Found : Parts → List Ply → Parts → List Ply → List ℕ → ℕ → Type 0
Found start plies p rest text i = (k : ℕ) → NamesPly p rest text (suc k) → NamesPly start plies text (suc (i + k))

abbrev pub Sought : Parts → List Ply → Parts → List Ply → List ℕ → ℕ → Type 0
Sought start plies p rest text i = (k : ℕ) → NamesPly start plies text k → (j : ℕ) × (k ≡ suc (i + j)) × NamesPly p rest text (suc j)

pub found_next : (start : Parts) (plies : List Ply) (p : Parts) (text : List ℕ) (i : ℕ) (ply : Ply) → i < length plies → ply ≡ get_or plies i ply
    → Found start plies p (drop i plies) text i → Found start plies (after p ply.mv) (drop (i + 1) plies) text (i + 1)
found_next start plies p text i ply lt e f = λ k h.
    let F : List Ply → Type 0 = λ rest. Found start plies p rest text i in
    let f' : Found start plies p (ply ∷ drop (i + 1) plies) text i = subst F (cut_at plies i ply lt e) f in
    let N : ℕ → Type 0 = λ n. NamesPly start plies text n in
    let same : suc (i + suc k) ≡ suc ((i + 1) + k) = omega arith in
    subst N same (f' (suc k) h)

pub sought_next : (start : Parts) (plies : List Ply) (p : Parts) (text : List ℕ) (i : ℕ) (ply : Ply) → i < length plies → ply ≡ get_or plies i ply
    → (IsNameOf p ply.mv text → ⊥) → Sought start plies p (drop i plies) text i → Sought start plies (after p ply.mv) (drop (i + 1) plies) text (i + 1)
sought_next start plies p text i ply lt e other s = λ k h.
    let S : List Ply → Type 0 = λ rest. Sought start plies p rest text i in
    let s' : Sought start plies p (ply ∷ drop (i + 1) plies) text i = subst S (cut_at plies i ply lt e) s in
    let (j, is, at) = s' k h in
    let (n, is', at') = named_behind p ply (drop (i + 1) plies) text j other at in
    (n, omega (arith, is, is'), at')

pub found_here : (start : Parts) (plies : List Ply) (p : Parts) (text : List ℕ) (i : ℕ) (ply : Ply) → i < length plies → ply ≡ get_or plies i ply
    → Found start plies p (drop i plies) text i → IsNameOf p ply.mv text → NamesPly start plies text (suc i)
found_here start plies p text i ply lt e f is =
    let F : List Ply → Type 0 = λ rest. Found start plies p rest text i in
    let f' : Found start plies p (ply ∷ drop (i + 1) plies) text i = subst F (cut_at plies i ply lt e) f in
    let N : ℕ → Type 0 = λ n. NamesPly start plies text n in
    let same : suc (i + 0) ≡ suc i = omega arith in
    subst N same (f' 0 is)

pub sought_none : (start : Parts) (plies : List Ply) (p : Parts) (text : List ℕ) (i : ℕ) (rest : List Ply) → rest ≡ [] → Sought start plies p rest text i
    → (k : ℕ) → NamesPly start plies text k → ⊥
sought_none start plies p text i rest none s = λ k h.
    let (j, is, at) = s k h in
    let N : List Ply → Type 0 = λ xs. NamesPly p xs text (suc j) in
    subst N none at

pub named_or : {Q : Type 0} (p : Parts) (m : Move) (text : List ℕ) → (text ≡ number_token p.side p.fullmove → ⊥)
    → ((san : List ℕ) → San p m san → unmarked text ≡ unmarked (number_token p.side p.fullmove ++ codes " " ++ san) → Q) → IsNameOf p m text → Q
named_or p m text other f (inl e) = absurd (other e)
named_or p m text other f (inr h) = f h.0 h.1 h.2

pub found_first : (start : Parts) (plies : List Ply) (text : List ℕ) → Found start plies start (drop 0 plies) text 0
found_first start plies text = λ k h. let N : ℕ → Type 0 = λ n. NamesPly start plies text n in let same : suc k ≡ suc (0 + k) = omega arith in subst N same h

pub sought_first : (start : Parts) (plies : List Ply) (text : List ℕ) → Sought start plies start (drop 0 plies) text 0
sought_first start plies text = λ k h. let (j, is, at) = named_some start plies text k h in (j, omega (arith, is), at)

pub name_made : (number blank san a b d : List ℕ) → a ≡ number → b ≡ a ++ blank → d ≡ b ++ san → d ≡ number ++ blank ++ san
name_made number blank san a b d e f g =
    g ∙ ap (λ (xs : List ℕ). xs ++ san) (f ∙ ap (λ (xs : List ℕ). xs ++ blank) e)
