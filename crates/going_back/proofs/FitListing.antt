-- Fits are listed.
use Rattle.std.proofs.Common.{None, IfSome, IfNone, ◌≡◌, ◌↔◌, ◌⊎◌, ℕ, ◌<◌, ◌+◌, inl, inr, List, [], ◌∷◌, ◌++◌, Contains, Option, Some, slice_index_or, length, sym, ap, subst, ◌∙◌, arith}
use Rattle.std.proofs.lemmas.Bool.{cases_eq}
use Rattle.std.proofs.lemmas.List.{get_or_default}
use Rattle.std.proofs.lemmas.List.Elements.{Contains-append_left, Contains-push, Contains-push_cases}
use Rattle.chess_rules.specs.declared.chess_move.Move.{Move}
use Rattle.chess_rules.specs.declared.parts.Parts.{Parts}
use Rattle.unseen_pairs.specs.declared.pair.TwoPlies.{TwoPlies}
use Rattle.unseen_pairs.specs.Pairs.{IsAfterTwo}
use Rattle.going_back.specs.declared.fit.Coming.{Coming}
use Rattle.going_back.specs.declared.fit.Fit.{Fit}
use Rattle.going_back.specs.Fitting.{Fits, IsOnlyFit}
use Rattle.going_back.specs.Inside.Fitting.{Adds, FitsByTwo, IsBelow, IsOnlyOf, IsTwo}

pub same_fit : (x y : Fit) → x.gone ≡ y.gone → x.coming ≡ y.coming → x ≡ y
same_fit x y g c =
    let a : x ≡ record x { gone = y.gone } = ap (λ (n : ℕ). record x { gone = n }) g in
    let b : record x { gone = y.gone } ≡ y = ap (λ (m : Coming). record y { coming = m }) c in
    a ∙ b

pub adds_fit : (fit : Fit) (These : Fit → Type 0) (old new : List Fit) → new ≡ old ++ fit ∷ [] → These fit
    → ((x : Fit) → These x → x ≡ fit) → Adds These old new
adds_fit fit These old new is own only = λ x.
    let In : List Fit → Type 0 = λ xs. Contains xs x in (
      λ c. elim (Contains-push_cases old fit x (subst In is c)) [ inl h ↦ inl h | inr h ↦ inr (subst These h own) ],
      λ h. subst In (sym is) (elim h [
        | inl o ↦ Contains-append_left old (fit ∷ []) x o
        | inr t ↦ subst (λ (z : Fit). Contains (old ++ fit ∷ []) z) (sym (only x t)) (Contains-push old fit)
      ]),
    )

pub adds_nothing : (These : Fit → Type 0) (old : List Fit) → ((x : Fit) → These x → ⊥) → Adds These old old
adds_nothing These old never = λ x. (λ c. inl c, λ h. elim h [ inl o ↦ o | inr t ↦ absurd (never x t) ])

pub adds_both : (These Those All : Fit → Type 0) (a b c : List Fit) → Adds These a b → Adds Those b c
    → ((x : Fit) → All x ↔ (These x ⊎ Those x)) → Adds All a c
adds_both These Those All a b c first second each = λ x.
    let f = first x in
    let s = second x in
    let e = each x in (
      λ k. elim (s.0 k) [
        | inl h ↦ elim (f.0 h) [ inl o ↦ inl o | inr t ↦ inr (e.1 (inl t)) ]
        | inr t ↦ inr (e.1 (inr t))
      ],
      λ h. elim h [
        | inl o ↦ s.1 (inl (f.1 (inl o)))
        | inr t ↦ elim (e.0 t) [ inl l ↦ s.1 (inl (f.1 (inr l))) | inr r ↦ s.1 (inr r) ]
      ],
    )

pub adds_same : (These Those : Fit → Type 0) (a b : List Fit) → Adds These a b → ((x : Fit) → Those x ↔ These x) → Adds Those a b
adds_same These Those a b adds each = λ x.
    let f = adds x in
    let e = each x in (
      λ k. elim (f.0 k) [ inl o ↦ inl o | inr t ↦ inr (e.1 t) ],
      λ h. elim h [ inl o ↦ f.1 (inl o) | inr t ↦ f.1 (inr (e.0 t)) ],
    )

-- of the first pairs
pub none_below : (gone : ℕ) (went : Option Move) (pairs : List TwoPlies) (old : List Fit) → Adds (IsBelow gone went pairs 0) old old
none_below gone went pairs old = adds_nothing (IsBelow gone went pairs 0) old (λ x b. let low = b.low in let n : ⊥ = omega (arith, low) in n)

pub more_below :
    (gone : ℕ) (went : Option Move) (pairs : List TwoPlies) (i : ℕ) (two : TwoPlies) (a b c : List Fit)
    → i < length pairs → two ≡ slice_index_or pairs i two
    → Adds (IsBelow gone went pairs i) a b → Adds (IsTwo gone went two) b c → Adds (IsBelow gone went pairs (i + 1)) a c
more_below gone went pairs i two a b c low at first second =
    adds_both (IsBelow gone went pairs i) (IsTwo gone went two) (IsBelow gone went pairs (i + 1)) a b c first second
    (λ x. (
      λ h. elim (cases_eq h.place i) [
        | inl e ↦
            let same : h.two ≡ two = sym h.at ∙ ap (λ j. slice_index_or pairs j h.two) e ∙ get_or_default pairs i h.two two low ∙ sym at in
            inr (subst (λ (z : TwoPlies). IsTwo gone went z x) same h.is)
        | inr ne ↦ let l = h.low in inl (record { two = h.two; place = h.place; low = omega (arith, l, ne); at = h.at; is = h.is })
      ],
      λ h. elim h [
        | inl o ↦ let l = o.low in record { two = o.two; place = o.place; low = omega (arith, l); at = o.at; is = o.is }
        | inr t ↦ record { two = two; place = i; low = omega arith; at = sym at; is = t }
      ],
    ))

pub all_below :
    (p : Parts) (seen : List ℕ) (gone : ℕ) (went : Option Move) (pairs : List TwoPlies) (i : ℕ) (a b : List Fit)
    → ((x : TwoPlies) → Contains pairs x ↔ IsAfterTwo p seen x.first x.second) → i ≡ length pairs
    → Adds (IsBelow gone went pairs i) a b → Adds (FitsByTwo p gone went seen) a b
all_below p seen gone went pairs i a b lists end adds =
    adds_same (IsBelow gone went pairs i) (FitsByTwo p gone went seen) a b adds
    (λ x. (
      λ h. let l = lists h.two in let c = l.1 h.gives in
          record { two = h.two; place = c.0; low = rw end c.1; at = c.2; is = h.is },
      λ h. let l = lists h.two in let low = h.low in
          record { two = h.two; gives = l.0 (h.place, rw (← end) low, h.at); is = h.is },
    ))

-- ---- the only one

pub if_some : {A : Type 0} (P Q : A → Type 0) (found : Option A) → ((a : A) → P a → Q a) → IfSome found P → IfSome found Q
if_some P Q None f h = h
if_some P Q (Some a) f h = f a h

pub if_none : {A : Type 0} (P Q : Type 0) (found : Option A) → (P → Q) → IfNone found P → IfNone found Q
if_none P Q None f h = f h
if_none P Q (Some a) f h = h

pub only_fits : (start : Parts) (moves : List Move) (seen : List ℕ) (fits : List Fit) (fit : Fit) → ((x : Fit) → Contains fits x ↔ Fits start moves seen x)
    → IsOnlyOf fits fit → IsOnlyFit start moves seen fit
only_fits start moves seen fits fit each only = record { fits = (each fit).0 only.listed; alone = λ other h. only.alone other ((each other).1 h) }

pub only_listed : (start : Parts) (moves : List Move) (seen : List ℕ) (fits : List Fit) (fit : Fit) → ((x : Fit) → Contains fits x ↔ Fits start moves seen x)
    → IsOnlyFit start moves seen fit → IsOnlyOf fits fit
only_listed start moves seen fits fit each only = record { listed = (each fit).1 only.fits; alone = λ other h. only.alone other ((each other).0 h) }
