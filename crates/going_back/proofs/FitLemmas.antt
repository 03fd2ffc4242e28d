-- Where fits lead from.
use Rattle.std.proofs.Common.{◌≡◌, ◌⊎◌, ℕ, ◌<◌, ◌≤◌, ◌+◌, inl, inr, suc, zero, ◌-◌, List, [], ◌∷◌, ◌++◌, Option, Some, drop, take, length, refl, sym, ap, subst, ◌∙◌, arith}
use Rattle.std.specs.Prelude.{slice_get}
use Rattle.std.proofs.Math.Seq.{take-append_seam}
use Rattle.std.proofs.lemmas.List.{length-append, take-append-drop, length-drop}
use Rattle.chess_rules.specs.declared.chess_move.Move.{Move}
use Rattle.chess_rules.specs.declared.parts.Parts.{Parts}
use Rattle.chess_rules.specs.After.{after}
use Rattle.chess_rules.specs.Valid.{Valid}
use Rattle.settle_core.specs.Settling.{Line, Settles, position_after}
use Rattle.unseen_pairs.proofs.Putting.{settles_own}
use Rattle.going_back.specs.declared.fit.Coming.{Coming}
use Rattle.going_back.specs.declared.fit.Coming.TheVariants.{Nothing, One, Two}
use Rattle.going_back.specs.declared.fit.Fit.{Fit}
use Rattle.going_back.specs.Fitting.{Fits, LeadsTo, moves_in}
use Rattle.going_back.specs.Inside.Fitting.{FitsByNone, FitsByOne, FitsByTwo, FitsFrom}

some_same : (m k : Move) → Some m ≡ Some k → m ≡ k
some_same m k e = cc

from_coming :
    (p : Parts) (gone : ℕ) (went : Option Move) (seen : List ℕ) (fit : Fit) (coming : Coming)
    → Valid p → fit.coming ≡ coming → fit.gone ≡ gone → LeadsTo p seen (moves_in coming)
    → ((m : Move) → slice_get (moves_in coming) 0 ≡ Some m → went ≡ Some m → ⊥)
    → FitsByNone p gone seen fit ⊎ (FitsByOne p gone went seen fit ⊎ FitsByTwo p gone went seen fit)
from_coming p gone went seen fit Nothing v e g l a = inl (record { shows = l.shows; so_many = g; comes = e })
from_coming p gone went seen fit (One m) v e g l a =
    let own : Settles p seen m = subst (λ (xs : List ℕ). Settles p xs m) (sym l.shows) (settles_own p m v l.legal.0) in
    inr (inl (record { ply = m; gives = own; so_many = g; comes = e; anew = a m refl }))
from_coming p gone went seen fit (Two two) v e g l a =
    inr (inr (record {
      two = two;
      gives = record { first = l.legal.0; second = l.legal.1.0; shows = l.shows };
      is = record { so_many = g; comes = e; anew = a two.first refl };
    }))

pub from_cases : (p : Parts) (gone : ℕ) (went : Option Move) (seen : List ℕ) (fit : Fit) → Valid p
    → FitsFrom p gone went seen fit → FitsByNone p gone seen fit ⊎ (FitsByOne p gone went seen fit ⊎ FitsByTwo p gone went seen fit)
from_cases p gone went seen fit v f = from_coming p gone went seen fit fit.coming v refl f.so_many f.leads f.anew

leads_with : (p : Parts) (gone : ℕ) (went : Option Move) (seen : List ℕ) (fit : Fit) (coming : Coming)
    → fit.coming ≡ coming → fit.gone ≡ gone → LeadsTo p seen (moves_in coming)
    → ((m : Move) → slice_get (moves_in coming) 0 ≡ Some m → went ≡ Some m → ⊥) → FitsFrom p gone went seen fit
leads_with p gone went seen fit coming e g l a = record {
  so_many = g;
  leads = subst (λ (c : Coming). LeadsTo p seen (moves_in c)) (sym e) l;
  anew = subst (λ (c : Coming). (m : Move) → slice_get (moves_in c) 0 ≡ Some m → went ≡ Some m → ⊥) (sym e) a;
}

pub by_none : (p : Parts) (gone : ℕ) (went : Option Move) (seen : List ℕ) (fit : Fit) → FitsByNone p gone seen fit → FitsFrom p gone went seen fit
by_none p gone went seen fit f =
    leads_with p gone went seen fit Nothing f.comes f.so_many (record { legal = tt; shows = f.shows }) (λ m e w. let n : ⊥ = cc in n)

pub by_one : (p : Parts) (gone : ℕ) (went : Option Move) (seen : List ℕ) (fit : Fit) → FitsByOne p gone went seen fit → FitsFrom p gone went seen fit
by_one p gone went seen fit f =
    leads_with p gone went seen fit (One f.ply) f.comes f.so_many (record { legal = (f.gives.legal, tt); shows = f.gives.shows })
    (λ m e w. f.anew (w ∙ sym e))

pub by_two : (p : Parts) (gone : ℕ) (went : Option Move) (seen : List ℕ) (fit : Fit) → FitsByTwo p gone went seen fit → FitsFrom p gone went seen fit
by_two p gone went seen fit f =
    leads_with p gone went seen fit (Two f.two) f.is.comes f.is.so_many
    (record { legal = (f.gives.first, (f.gives.second, tt)); shows = f.gives.shows }) (λ m e w. f.is.anew (w ∙ sym e))

get_seam : (xs ys : List Move) → slice_get (xs ++ ys) (length xs) ≡ slice_get ys 0
get_seam [] ys = refl
get_seam (x ∷ xs) ys = get_seam xs ys

sum_left : (a b n g : ℕ) → n + g ≡ a + b → b ≡ g → a ≡ n
sum_left a b n g e f = omega (arith, e, f)

-- of these moves the first n stay
pub going_from :
    (start : Parts) (moves : List Move) (seen : List ℕ) (gone n : ℕ) (fit : Fit) → n + gone ≡ length moves
    → (fit.gone ≡ gone) × Fits start moves seen fit → FitsFrom (position_after start (take n moves)) gone (slice_get moves n) seen fit
going_from start moves seen gone n fit sum h =
    let f = h.1 in
    let long : length moves ≡ length f.stay + length f.went = ap length f.split ∙ length-append f.stay f.went in
    let so : length f.stay ≡ n = sum_left (length f.stay) (length f.went) n gone (sum ∙ long) (f.so_many ∙ h.0) in
    let front : f.stay ≡ take n moves =
    sym (take-append_seam f.stay f.went) ∙ ap (λ k. take k (f.stay ++ f.went)) so ∙ ap (take n) (sym f.split) in
    let next : slice_get moves n ≡ slice_get f.went 0 =
    ap (λ (xs : List Move). slice_get xs n) f.split ∙ ap (λ k. slice_get (f.stay ++ f.went) k) (sym so) ∙ get_seam f.stay f.went in
    record {
      so_many = h.0;
      leads = subst (λ (xs : List Move). LeadsTo (position_after start xs) seen (moves_in fit.coming)) front f.leads;
      anew = λ m e w. f.anew m e (sym next ∙ w);
    }

take_long : (n : ℕ) (xs ys : List Move) (g : ℕ) → n + g ≡ length (xs ++ ys) → length ys ≡ g → length xs ≡ n
take_long n xs ys g e f = let l = length-append xs ys in omega (arith, e, f, l)

rest_long : (n g k d : ℕ) → n + g ≡ k → d ≡ k - n → d ≡ g
rest_long n g k d e f = omega (arith, e, f)

pub going_to :
    (start : Parts) (moves : List Move) (seen : List ℕ) (gone n : ℕ) (fit : Fit) → n + gone ≡ length moves → gone ≤ 2
    → FitsFrom (position_after start (take n moves)) gone (slice_get moves n) seen fit → (fit.gone ≡ gone) × Fits start moves seen fit
going_to start moves seen gone n fit sum few f =
    let stay : List Move = take n moves in
    let went : List Move = drop n moves in
    let whole : stay ++ went ≡ moves = take-append-drop n moves in
    let rest : length went ≡ gone = rest_long n gone (length moves) (length went) sum (length-drop n moves) in
    let so : length stay ≡ n = take_long n stay went gone (sum ∙ ap length (sym whole)) rest in
    let next : slice_get moves n ≡ slice_get went 0 =
    ap (λ (xs : List Move). slice_get xs n) (sym whole) ∙ ap (λ k. slice_get (stay ++ went) k) (sym so) ∙ get_seam stay went in
    let so_many = f.so_many in (
      so_many,
      record {
        stay = stay;
        went = went;
        split = sym whole;
        so_many = rest ∙ sym so_many;
        few = omega (arith, so_many, few);
        leads = f.leads;
        anew = λ m e w. f.anew m e (next ∙ w);
      },
    )

long_enough : (a b g k : ℕ) → k ≡ a + b → b ≡ g → k < g → ⊥
long_enough a b g k e f h = omega (arith, e, f, h)

pub none_go : (start : Parts) (moves : List Move) (seen : List ℕ) (gone : ℕ) (fit : Fit) → length moves < gone
    → (fit.gone ≡ gone) × Fits start moves seen fit → ⊥
none_go start moves seen gone fit short h =
    let f = h.1 in
    long_enough (length f.stay) (length f.went) gone (length moves) (ap length f.split ∙ length-append f.stay f.went) (f.so_many ∙ h.0) short

by_gone : (g : ℕ) → g ≤ 2 → (g ≡ 0) ⊎ ((g ≡ 1) ⊎ (g ≡ 2))
by_gone zero h = inl refl
by_gone (suc zero) h = inr (inl refl)
by_gone (suc (suc zero)) h = inr (inr refl)
by_gone (suc (suc (suc g))) h = absurd (let n : ⊥ = omega (arith, h) in n)

-- the fits with none, one and two plies gone are all
pub all_fits : (start : Parts) (moves : List Move) (seen : List ℕ) (fit : Fit)
    → Fits start moves seen fit
    → ((fit.gone ≡ 0) × Fits start moves seen fit) ⊎ (((fit.gone ≡ 1) × Fits start moves seen fit) ⊎ ((fit.gone ≡ 2) × Fits start moves seen fit))
all_fits start moves seen fit f = elim (by_gone fit.gone f.few) [
  | inl e ↦ inl (e, f)
  | inr h ↦ elim h [ inl e ↦ inr (inl (e, f)) | inr e ↦ inr (inr (e, f)) ]
]

pub line_front : (start : Parts) (moves : List Move) (n : ℕ) → Line start moves → Line start (take n moves)
line_front start moves zero h = tt
line_front start [] (suc n) h = tt
line_front start (m ∷ moves) (suc n) h = (h.0, line_front (after start m) moves n h.1)

pub sum_of : (g k j : ℕ) → g ≤ j → k ≡ j → (j - g) + g ≡ k
sum_of g k j low e = omega (arith, low, e)

gone_low : (a b g k : ℕ) → k ≡ a + b → b ≡ g → g ≤ k
gone_low a b g k e f = omega (arith, e, f)

-- there are as many plies as go
pub gone_within : (start : Parts) (moves : List Move) (seen : List ℕ) (fit : Fit) → Fits start moves seen fit → fit.gone ≤ length moves
gone_within start moves seen fit f = gone_low (length f.stay) (length f.went) fit.gone (length moves) (ap length f.split ∙ length-append f.stay f.went) f.so_many
