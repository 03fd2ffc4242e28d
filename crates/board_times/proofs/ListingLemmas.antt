-- What is added to a listing.
use Rattle.std.proofs.Common.{◌≡◌, ℕ, ◌==◌, Bool, true, false, List, [], ◌++◌, Result, Ok, Err, IfOk, codes, decimal, refl, sym, ap, ◌∙◌}
use Rattle.std.specs.Prelude.{if◌then◌else◌}
use Rattle.std.proofs.lemmas.List.{append_assoc}
use Rattle.board_times.specs.Listing.{rest_line}

-- Two texts are added one after the other.
pub joined : {A E : Type 0} (r : Result A E) (old between new a b : List ℕ) → between ≡ old ++ a → IfOk r (λ x. new ≡ between ++ b)
    → IfOk r (λ x. new ≡ old ++ (a ++ b))
joined (Ok x) old between new a b first then_b = then_b ∙ ap (λ text. text ++ b) first ∙ append_assoc old a b
joined (Err e) old between new a b first then_b = tt

other : (b : Bool) (x y : List ℕ) → b ≡ false → (if b then x else y) ≡ y
other true x y e = let never : true ≡ false = e in cc
other false x y e = refl

-- Something stands at the end.
pub rest_added : {A E : Type 0} (r : Result A E) (old new : List ℕ) (rest : ℕ) → (rest == 0) ≡ false
    → IfOk r (λ x. new ≡ old ++ (codes "no event, bytes at the end: " ++ decimal rest ++ codes "\n")) → IfOk r (λ x. new ≡ old ++ rest_line rest)
rest_added (Ok x) old new rest some added =
    added ∙ ap (λ text. old ++ text) (sym (other (rest == 0) [] (codes "no event, bytes at the end: " ++ decimal rest ++ codes "\n") some))
rest_added (Err e) old new rest some added = tt
