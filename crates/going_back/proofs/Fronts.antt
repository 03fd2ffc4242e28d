-- The first plies of a game.
use Rattle.std.proofs.Common.{◌≡◌, ◌⊎◌, inl, inr, subst, Bool, ◌<◌, ◌≤◌, ◌+◌, ℕ, zero, suc, List, [], ◌∷◌, ◌++◌, take, drop, length, get_or, refl, sym, ap, ◌∙◌, arith, append-nil, length-append, Result, IfOk, Ok, Err}
use Rattle.std.proofs.Math.Seq.{get_or-append_seam, take-append_seam}
use Rattle.std.proofs.lemmas.List.{get_or_append_left, take-append-drop, take_more}
use Rattle.chess_rules.specs.declared.parts.Parts.{Parts}
use Rattle.chess_rules.specs.After.{after}
use Rattle.dgt_frame.specs.declared.events.Event.{Event}
use Rattle.board_events.specs.Settings.{Setting}
use Rattle.settle_core.specs.declared.plies.Ply.{Ply}
use Rattle.settle_core.specs.Folding.{moves_of}
use Rattle.settle_core.specs.Settling.{Line}
use Rattle.going_back.specs.declared.going.BackError.{BackError}
use Rattle.going_back.specs.declared.going.BackError.TheVariants.{Memory}
use Rattle.going_back.specs.Back.{IsMade, RefusesThese, Spoils}

pub line_front : (p : Parts) (plies : List Ply) (k : ℕ) → Line p (moves_of plies) → Line p (moves_of (take k plies))
line_front p [] zero h = tt
line_front p [] (suc k) h = tt
line_front p (ply ∷ plies) zero h = tt
line_front p (ply ∷ plies) (suc k) h = (h.0, line_front (after p ply.mv) plies k h.1)

pub too_few : {A : Type 0} (xs front more : List A) → length xs < length front → xs ≡ front ++ more → ⊥
too_few xs front more h e = omega (arith, ap length e, length-append front more)

pub front_more : {A : Type 0} (xs front : List A) → take (length front) xs ≡ front → (more : List A) × (xs ≡ front ++ more)
front_more xs front h = (drop (length front) xs, sym (take-append-drop (length front) xs) ∙ ap (λ ys. ys ++ drop (length front) xs) h)

pub more_front : {A : Type 0} (xs front more : List A) → xs ≡ front ++ more → take (length front) xs ≡ front
more_front xs front more e = ap (λ ys. take (length front) ys) e ∙ take-append_seam front more

-- the plies behind them: none, or a next one
pub none_behind : {A : Type 0} (xs front more : List A) → xs ≡ front ++ more → length xs ≤ length front → xs ≡ front
none_behind xs front [] e h = e ∙ append-nil front
none_behind xs front (x ∷ more) e h = absurd (let never : ⊥ = omega (arith, ap length e, length-append front (x ∷ more), h) in never)

pub one_behind : (xs front more : List Ply) (d : Ply) → xs ≡ front ++ more → length front < length xs
    → (ply : Ply) × (rest : List Ply) × (xs ≡ front ++ ply ∷ rest) × (ply.mv ≡ (get_or xs (length front) d).mv)
one_behind xs front [] d e h = absurd (let never : ⊥ = omega (arith, ap length e, length-append front [], h) in never)
one_behind xs front (x ∷ more) d e h = (
  x,
  more,
  e,
  sym (ap (λ (y : Ply). y.mv) (ap (λ (ys : List Ply). get_or ys (length front) d) e ∙ get_or-append_seam front x more d)),
)

any_default : {A : Type 0} (xs : List A) (i : ℕ) (d e : A) → i < length xs → get_or xs i d ≡ get_or xs i e
any_default [] i d e lt = absurd (let never : ⊥ = omega (arith, lt) in never)
any_default (x ∷ xs) zero d e lt = refl
any_default (x ∷ xs) (suc i) d e lt = any_default xs i d e (omega (arith, lt))

pub take_same : (plies front : List Ply) (i : ℕ) (x ply : Ply) → i < length plies → i < length front → x ≡ get_or plies i x → ply ≡ get_or front i ply
    → x ≡ ply → take i plies ≡ take i front → take (i + 1) plies ≡ take (i + 1) front
take_same plies front i x ply lt lt' here there same before =
    take_more plies i x lt ∙ ap (λ (xs : List Ply). xs ++ get_or plies i x ∷ []) before
    ∙ ap (λ (y : Ply). take i front ++ y ∷ []) (sym here ∙ same ∙ there) ∙ sym (take_more front i ply lt')

pub more_same : (plies front more : List Ply) (i : ℕ) (x ply : Ply) → i < length front → x ≡ get_or plies i x → ply ≡ get_or front i ply
    → plies ≡ front ++ more → x ≡ ply
more_same plies front more i x ply lt here there e =
    here ∙ ap (λ (ys : List Ply). get_or ys i x) e ∙ get_or_append_left front more x i lt ∙ any_default front i x ply lt ∙ sym there

pub if_ok : {A E : Type 0} (P Q : A → Type 0) (answer : Result A E) → ((a : A) → P a → Q a) → IfOk answer P → IfOk answer Q
if_ok P Q (Ok a) f h = f a h
if_ok P Q (Err e) f h = h

pub refused_so : (setting : Setting) (recovers : Bool) (past : List Event) (old plies : List Ply) (made bytes : List ℕ) (error : BackError) → bytes ≡ made
    → IsMade setting past plies made → (error ≡ Memory) ⊎ Spoils setting recovers past old plies bytes error → RefusesThese setting recovers past old plies error
refused_so setting recovers past old plies made bytes error e shows (inl h) = inl h
refused_so setting recovers past old plies made bytes error e shows (inr h) =
    let S : List ℕ → Type 0 = λ xs. Spoils setting recovers past old plies xs error in
    inr (inr (inr (made, shows, subst S e h)))
