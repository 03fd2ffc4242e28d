-- What a result says, by which of the two it is.
use Rattle.std.proofs.Common.{◌≡◌, ◌∙◌, ℕ, List, Result, Ok, Err, OnErr, OnOk, refl, sym, true, false}
use Rattle.std.specs.Prelude.{if◌then◌else◌, is_err, is_ok}

pub on_ok : {T E : Type 0} (P Q : Type 0) (r : Result T E) → OnOk r P → (P → Q) → OnOk r Q
on_ok P Q (Ok v) p k = k p
on_ok P Q (Err e) p k = tt

pub at_err : {T E : Type 0} (P : Type 0) (r : Result T E) → is_err r ≡ true → OnErr r P → P
at_err P (Ok v) h p = absurd (cc)
at_err P (Err e) h p = p

pub at_ok : {T E : Type 0} (P : Type 0) (r : Result T E) → is_err r ≡ false → OnOk r P → P
at_ok P (Ok v) h p = p
at_ok P (Err e) h p = absurd (cc)

pub ok_same : {A E : Type 0} (r : Result A E) (a b : A) → r ≡ Ok a → r ≡ Ok b → a ≡ b
ok_same r a b x y = let e : Ok a ≡ Ok b = sym x ∙ y in cc

-- where no memory was wanting
pub if_ok : {T E : Type 0} (r : Result T E) (xs ys : List ℕ) → is_err r ≡ false → (if is_ok r then xs else ys) ≡ xs
if_ok (Ok v) xs ys h = refl
if_ok (Err e) xs ys h = absurd (cc)
